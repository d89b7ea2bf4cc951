use Rattle.std.proofs.Common.{take}
use Rattle.std.specs.List.{flat_map}
use Rattle.play_rounds.specs.Outputs.{AreWritten}
use Rattle.play_rounds.proofs.Puts.{one_piece}
use Rattle.play_rounds.proofs.gather.put_each.Given as goal

abbrev pub invariant-loop-image : goal.invariant-loop-image
invariant-loop-image g l = AreWritten (flat_map one_piece (take l.image-index l.images)) (g.F.Sink.state l.initial.frames) (g.F.Sink.state l.frames)
