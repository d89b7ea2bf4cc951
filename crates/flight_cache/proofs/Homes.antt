-- Pins that are taken at once are of their keys' shards.
use Rattle.std.proofs.Common.{◌≡◌, ℕ, ◌<◌, Bool, List, [], ◌∷◌, map, refl, ap, ◌∙◌}
use Rattle.flight_cache.specs.Meaning.{Meaning, shard_count, shard_of}
use Rattle.flight_cache.specs.Calls.{PinView, ShardPassView, ShardView}
use Rattle.flight_cache.specs.Shards.{CachePassView, CacheView, IsCacheOf, at}
use Rattle.flight_cache.specs.Pinning.{shards_of}
use Rattle.flight_cache.specs.Holds.{AreHoldsOf, ArePassesPinned, IsHoldOf, IsPassPinned}
use Rattle.flight_cache.specs.declared.holds.Hold.{Hold}
use Rattle.flight_cache.specs.declared.holds.Hold.TheVariants.{Turn, Pass}
use Rattle.flight_cache.specs.declared.holds.Holds.{Holds}
use Rattle.flight_cache.proofs.Four.{at-each}
use Rattle.flight_cache.proofs.Refusing.{below-four}

module _ {M K V T : Type 0} (eq : K → K → Bool) (meaning : Meaning K V T) (keys : List K) where
  pinned-cell : (shard : ShardView T) (pass after : ShardPassView K T) (hold : Hold M K V T) → IsHoldOf eq meaning (shards_of meaning keys) shard pass hold → IsPassPinned eq meaning shard keys hold after → after.cell ≡ pass.cell
  pinned-cell shard pass after (Turn turn) h is = ap (λ (q : ShardPassView K T). q.cell) is.2 ∙ ap (λ (q : ShardPassView K T). q.cell) h.1.taken
  pinned-cell shard pass after (Pass same) h is = ap (λ (q : ShardPassView K T). q.cell) (is ∙ h.1)

  module _ (cache : CacheView T) (pass after : CachePassView K T) (of : IsCacheOf cache pass) (holds : Holds M K V T) (h : AreHoldsOf eq meaning (shards_of meaning keys) cache pass holds) (p : ArePassesPinned eq meaning cache keys holds after) where
    cell-at : (n : ℕ) → n < shard_count → (at after n).cell ≡ (at cache.shards n).id
    cell-at = at-each (λ (s : ShardView T) (q r : ShardPassView K T). r.cell ≡ s.id) cache.shards pass after
        (pinned-cell cache.shards.first pass.first after.first holds.first h.first p.first ∙ of.first.id)
        (pinned-cell cache.shards.second pass.second after.second holds.second h.second p.second ∙ of.second.id)
        (pinned-cell cache.shards.third pass.third after.third holds.third h.third p.third ∙ of.third.id)
        (pinned-cell cache.shards.fourth pass.fourth after.fourth holds.fourth h.fourth p.fourth ∙ of.fourth.id)

    each-cell : (ks : List K) → map (λ n. (at after n).cell) (shards_of meaning ks) ≡ map (λ k. (at cache.shards (shard_of (meaning.numbers k))).id) ks
    each-cell [] = refl
    each-cell (k ∷ ks) = λ i. cell-at (shard_of (meaning.numbers k)) (below-four (meaning.numbers k)) i ∷ each-cell ks i

    -- where each pin has the cell of the pass of its key's shard
    pub pinned-homes : (pins : List (PinView K V)) (shards : List ℕ) → shards ≡ shards_of meaning keys → map (λ p. p.cell) pins ≡ map (λ n. (at after n).cell) shards
        → map (λ p. p.cell) pins ≡ map (λ k. (at cache.shards (shard_of (meaning.numbers k))).id) keys
    pinned-homes pins shards are cells = cells ∙ (ap (λ (l : List ℕ). map (λ n. (at after n).cell) l) are ∙ each-cell keys)
