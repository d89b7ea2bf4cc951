-- Leases that are of the cache of composed masks.
use Rattle.std.proofs.Common.{List, [], ◌∷◌, ◌++◌, All}
use Rattle.std.proofs.lemmas.List.Elements.{All-cons, All-head, All-nil, All-tail}
use Rattle.cache_kinds.specs.Kinds.{composite_meaning}
use Rattle.mask_caches.specs.Leases.{IsHomeLease}
use Rattle.mask_caches.specs.declared.caches.Caches.{Caches}
use Rattle.renderer.specs.Holding.{AreHome}
use Rattle.renderer.specs.ShownFrames.{MaskLease}

-- those of a list in front, and those behind them
pub homes-apart : (caches : Caches) (front back : List MaskLease) → AreHome caches (front ++ back) → AreHome caches front × AreHome caches back
homes-apart caches [] back all = (All-nil (IsHomeLease composite_meaning caches.composites), all)
homes-apart caches (lease ∷ front) back all =
    let P = IsHomeLease composite_meaning caches.composites in
    let rest = homes-apart caches front back (All-tail P lease (front ++ back) all) in
    (All-cons P lease front (All-head P lease (front ++ back) all) rest.0, rest.1)
