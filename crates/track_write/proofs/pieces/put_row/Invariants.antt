use Rattle.std.proofs.Common.{◌≡◌, ◌++◌, drop, flat_map}
use Rattle.track_write.specs.Pieces.{next_field}
use Rattle.track_write.proofs.pieces.put_row.Given as goal

abbrev pub invariant-loop-piece : goal.invariant-loop-piece
invariant-loop-piece l = l.text.items ++ flat_map next_field (drop l.piece-index l.rest) ≡ l.initial.text.items ++ flat_map next_field l.rest
