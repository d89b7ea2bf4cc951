use Rattle.std.proofs.Common.{◌≡◌, map, take}
use Rattle.sample_region.specs.declared.carried.LiveEdge.{LiveEdge}
use Rattle.sample_region.proofs.sweep.cross.Given as goal

abbrev pub invariant-loop-live : goal.invariant-loop-live
invariant-loop-live l = l.crossings.items ≡ map (λ (live : LiveEdge). record { at = live.at; down = live.edge.down }) (take l.live-index l.active)
