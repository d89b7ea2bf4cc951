-- Public: what the totals of every legal history say.
use Rattle.std.specs.Prelude.{Bool, All}
use Rattle.turn_cell.specs.History.{History}
use Rattle.evict_core.specs.Asked.{totals_of}
use Rattle.flight_cache.specs.Meaning.{Meaning}
use Rattle.flight_cache.specs.Histories.{IsLegalUnder, left_by}
use Rattle.flight_cache.specs.Shards.{CacheView, CachePassView, EachIsLegal}
use Rattle.flight_cache.specs.declared.kept.Entry.{Entry}
use Rattle.flight_cache.specs.declared.kept.Opening.{Opening}
use Rattle.mask_keys.specs.Equality.{equal_composites}
use Rattle.cache_kinds.specs.Kinds.{composite_meaning}
use Rattle.mask_caches.specs.Caches.{AreLegal, all_totals, shown_totals}
use Rattle.mask_caches.specs.declared.caches.Caches.{Caches}
use Rattle.mask_caches.specs.declared.passes.CachesPass.{CachesPass}
use Rattle.mask_caches.specs.Asks.{HasAsks, all_steps, asks_of, seen_asks}
use Rattle.mask_caches.specs.Balance.{AllCachesGaveBack, AllGaveBack, EachAllGaveBack, IsAccounted}

module _ {K V T : Type 0} (eq : K → K → Bool) (meaning : Meaning K V T) where
  -- where all was given back nothing is being made
  abbrev pub ShardsBalance : Type 0
  ShardsBalance = (opening : Opening T) (history : History (Entry K)) → IsLegalUnder eq meaning opening history → AllGaveBack eq meaning opening history
      → IsAccounted (totals_of (left_by eq meaning opening history))

  -- each key that was asked for is counted
  abbrev pub ShardsCountAsks : Type 0
  ShardsCountAsks = (opening : Opening T) (history : History (Entry K)) → IsLegalUnder eq meaning opening history
      → HasAsks (asks_of (all_steps meaning opening history)) (totals_of (left_by eq meaning opening history))

  -- the same of four shards, of which the totals are summed
  abbrev pub CachesBalance : Type 0
  CachesBalance = (cache : CacheView T) (pass : CachePassView K T) → EachIsLegal eq meaning cache.shards pass → EachAllGaveBack eq meaning cache pass
      → IsAccounted (shown_totals eq meaning cache pass)

  abbrev pub CachesCountAsks : Type 0
  CachesCountAsks = (cache : CacheView T) (pass : CachePassView K T) → EachIsLegal eq meaning cache.shards pass
      → HasAsks (seen_asks meaning cache pass) (shown_totals eq meaning cache pass)

-- and of the three caches
abbrev pub ThreeBalance : Type 0
ThreeBalance = (caches : Caches) (pass : CachesPass) → AreLegal caches pass → AllCachesGaveBack caches pass → All IsAccounted (all_totals caches pass)

abbrev pub CompositesCountAsks : Type 0
CompositesCountAsks = (caches : Caches) (pass : CachesPass) → AreLegal caches pass
    → HasAsks (seen_asks composite_meaning caches.composites pass.composites) (shown_totals equal_composites composite_meaning caches.composites pass.composites)
