use Rattle.std.proofs.Common.{◌≡◌, map, take}
use Rattle.indexmap.specs.IndexSet.{insert_all}
use Rattle.mask_keys.specs.Equality.{equal_composites}
use Rattle.mask_caches.proofs.first_keys.add_draws.Given as goal

abbrev pub invariant-loop-key : goal.invariant-loop-key
invariant-loop-key l = l.known.keys ≡ insert_all equal_composites l.fn.known.keys (map (λ k. k.now) (take l.key-index l.key-items))
