-- What the summed totals of shards and of caches say.
use Rattle.std.proofs.Common.{◌≡◌, ℕ, ◌+◌, ◌≤◌, min, Bool, [], ◌∷◌, sym, ap, ap₂, ◌∙◌, arith}
use Rattle.std.specs.Cmp.{IsEquivalence}
use Rattle.std.proofs.lemmas.List.Elements.{All-cons, All-nil}
use Rattle.evict_core.specs.Asked.{totals_of}
use Rattle.evict_core.specs.Machine.{last_count}
use Rattle.evict_core.specs.declared.counts.Totals.{Totals}
use Rattle.flight_cache.specs.Calls.{ShardPassView, ShardView}
use Rattle.flight_cache.specs.Histories.{left_by}
use Rattle.flight_cache.specs.Meaning.{Meaning}
use Rattle.flight_cache.specs.Shards.{Shards, sum_of_totals, total_sum}
use Rattle.mask_keys.specs.Equality.{equal_composites, equal_masks, equal_regions}
use Rattle.mask_keys.specs.contracts.composite_key.CompositeKeyEq.TheImpl.Laws as composite_laws
use Rattle.mask_keys.specs.contracts.mask_key.MaskKeyEq.TheImpl.Laws as mask_laws
use Rattle.mask_keys.specs.contracts.region_key.RegionKeyEq.TheImpl.Laws as region_laws
use Rattle.cache_kinds.specs.Kinds.{composite_meaning, mask_meaning, region_meaning}
use Rattle.mask_caches.specs.Caches.{shown_totals}
use Rattle.mask_caches.specs.Asks.{HasAsks, all_steps, asks_of, sum_of_four}
use Rattle.mask_caches.specs.Balance.{IsAccounted}
use Rattle.mask_caches.specs.Laws.{CachesBalance, CachesCountAsks, CompositesCountAsks, ThreeBalance}
use Rattle.mask_caches.proofs.Counted.{held_sum, shards_balance, shards_count_asks}

four_in_pairs : (f x g y l : ℕ) → min (min (f + x) l + min (g + y) l) l ≡ min (min (f + g) l + min (x + y) l) l
four_in_pairs f x g y l =
    let same : (f + x) + (g + y) ≡ (f + g) + (x + y) = omega arith in
    sym (held_sum (f + x) (g + y) l) ∙ (ap (λ (n : ℕ). min n l) same ∙ held_sum (f + g) (x + y) l)

held_more : (a b c d l : ℕ) → a ≤ b → c ≤ d → min (a + c) l ≤ min (b + d) l
held_more a b c d l first second = omega (arith, first, second)

held_asks : (n m a b c d e f l : ℕ) → min n l ≤ a + b + c → min m l ≤ d + e + f → min (n + m) l ≤ min (a + d) l + min (b + e) l + min (c + f) l
held_asks n m a b c d e f l first second = omega (arith, first, second)

balanced_sum : (a b : Totals) → IsAccounted a → IsAccounted b → IsAccounted (total_sum a b)
balanced_sum a b p q = record {
  claimed = ap₂ (λ (m n : ℕ). min (m + n) last_count) p.claimed q.claimed ∙ four_in_pairs a.counts.fills a.counts.fails b.counts.fills b.counts.fails last_count;
  evicted = held_more a.counts.evictions a.counts.fills b.counts.evictions b.counts.fills last_count p.evicted q.evicted;
}

asks_sum : (n m : ℕ) (a b : Totals) → HasAsks n a → HasAsks m b → HasAsks (n + m) (total_sum a b)
asks_sum n m a b p q = held_asks n m a.counts.hits a.counts.claims a.counts.crowded b.counts.hits b.counts.claims b.counts.crowded last_count p q

balanced_four : (four : Shards Totals) → IsAccounted four.first → IsAccounted four.second → IsAccounted four.third → IsAccounted four.fourth → IsAccounted (sum_of_totals four)
balanced_four four a b c d =
    let two = total_sum four.first four.second in let three = total_sum two four.third in
    balanced_sum three four.fourth (balanced_sum two four.third (balanced_sum four.first four.second a b) c) d

asks_four : (asks : Shards ℕ) (four : Shards Totals) → HasAsks asks.first four.first → HasAsks asks.second four.second → HasAsks asks.third four.third → HasAsks asks.fourth four.fourth
    → HasAsks (sum_of_four asks) (sum_of_totals four)
asks_four asks four a b c d =
    let two = total_sum four.first four.second in let three = total_sum two four.third in
    asks_sum (asks.first + asks.second + asks.third) asks.fourth three four.fourth
    (asks_sum (asks.first + asks.second) asks.third two four.third (asks_sum asks.first asks.second four.first four.second a b) c) d

module _ {K V T : Type 0} (eq : K → K → Bool) (laws : IsEquivalence eq) (meaning : Meaning K V T) where
  abbrev totals_in : ShardView T → ShardPassView K T → Totals
  totals_in shard own = totals_of (left_by eq meaning shard.tag own.seen)

  pub caches_balance : CachesBalance eq meaning
  caches_balance cache pass legal gave =
      let s = cache.shards in
      balanced_four record {
        first = totals_in s.first pass.first;
        second = totals_in s.second pass.second;
        third = totals_in s.third pass.third;
        fourth = totals_in s.fourth pass.fourth;
      }
      (shards_balance eq laws meaning s.first.tag pass.first.seen legal.first (gave 0))
      (shards_balance eq laws meaning s.second.tag pass.second.seen legal.second (gave 1))
      (shards_balance eq laws meaning s.third.tag pass.third.seen legal.third (gave 2))
      (shards_balance eq laws meaning s.fourth.tag pass.fourth.seen legal.fourth (gave 3))

  pub caches_count_asks : CachesCountAsks eq meaning
  caches_count_asks cache pass legal =
      let s = cache.shards in
      asks_four record {
        first = asks_of (all_steps meaning s.first.tag pass.first.seen);
        second = asks_of (all_steps meaning s.second.tag pass.second.seen);
        third = asks_of (all_steps meaning s.third.tag pass.third.seen);
        fourth = asks_of (all_steps meaning s.fourth.tag pass.fourth.seen);
      } record {
        first = totals_in s.first pass.first;
        second = totals_in s.second pass.second;
        third = totals_in s.third pass.third;
        fourth = totals_in s.fourth pass.fourth;
      }
      (shards_count_asks eq laws meaning s.first.tag pass.first.seen legal.first)
      (shards_count_asks eq laws meaning s.second.tag pass.second.seen legal.second)
      (shards_count_asks eq laws meaning s.third.tag pass.third.seen legal.third)
      (shards_count_asks eq laws meaning s.fourth.tag pass.fourth.seen legal.fourth)

pub three_balance : ThreeBalance
three_balance caches pass legal gave =
    let regions = shown_totals equal_regions region_meaning caches.regions pass.regions in
    let masks = shown_totals equal_masks mask_meaning caches.masks pass.masks in
    let composites = shown_totals equal_composites composite_meaning caches.composites pass.composites in
    All-cons IsAccounted regions (masks ∷ composites ∷ [])
    (caches_balance equal_regions region_laws.laws-law region_meaning caches.regions pass.regions legal.regions gave.regions)
    (All-cons IsAccounted masks (composites ∷ [])
    (caches_balance equal_masks mask_laws.laws-law mask_meaning caches.masks pass.masks legal.masks gave.masks)
    (All-cons IsAccounted composites []
    (caches_balance equal_composites composite_laws.laws-law composite_meaning caches.composites pass.composites legal.composites gave.composites)
    (All-nil IsAccounted)))

pub composites_count_asks : CompositesCountAsks
composites_count_asks caches pass legal =
    caches_count_asks equal_composites composite_laws.laws-law composite_meaning caches.composites pass.composites legal.composites
