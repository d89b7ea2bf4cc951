use Rattle.std.proofs.Common.{All, take}
use Rattle.sample_region.specs.Carried.{live_edges}
use Rattle.sample_region.specs.Edges.{IsUprightPast}
use Rattle.sample_region.proofs.sweep.are_upright_past.Given as goal

abbrev pub invariant-loop-live : goal.invariant-loop-live
invariant-loop-live l = All (IsUprightPast l.y) (live_edges (take l.live-index l.active))
