-- What pinning several keys leaves, and giving their pins back.
use Rattle.std.proofs.Common.{◌≡◌, ℕ, zero, suc, ◌<◌, ◌≤◌, ◌==◌, Bool, true, false, List, ◌∷◌, [], ◌++◌, map, refl, sym, ap, ◌∙◌, subst, arith}
use Rattle.std.specs.Cmp.{IsEquivalence}
use Rattle.std.proofs.lemmas.Bool.{eq-eqb, eqb-true}
use Rattle.evict_core.specs.Machine.{Unpin}
use Rattle.evict_core.specs.History.{times_named, pins_left}
use Rattle.flight_cache.specs.Meaning.{Meaning, shard_of, shard_count}
use Rattle.flight_cache.specs.Calls.{PinView, ShardPassView, own_steps}
use Rattle.flight_cache.specs.Shards.{Shards, CacheView, CachePassView, IsCacheOf, AreShardsOf, HoldsEach, at, with_at}
use Rattle.flight_cache.specs.Pinning.{GivesNothing, IsPinnedAll}
use Rattle.flight_cache.specs.Laws.{IsLater, PinnedAllHolds}
use Rattle.flight_cache.proofs.Rows.{nothing_holds, stays_of_cache}
use Rattle.flight_cache.proofs.Places.{named-append}
use Rattle.flight_cache.proofs.Refusing.{below-four}
use Rattle.flight_cache.proofs.Visits.{Calls}

module _ {K V T : Type 0} (eq : K → K → Bool) (meaning : Meaning K V T) (cache : CacheView T) (pass : CachePassView K T) (keys : List K) (after : CachePassView K T) where
  stays-later : IsCacheOf cache pass → IsLater pass after → IsCacheOf cache after × (after.first.number ≡ pass.first.number)
  stays-later of l = (stays_of_cache cache pass after of l, l.first.1.number)

  pub pinned-stays : PinnedAllHolds eq meaning → AreShardsOf cache.tag cache.shards → (pins : List (PinView K V)) → IsCacheOf cache pass → IsPinnedAll eq meaning cache pass keys after pins → IsCacheOf cache after × (after.first.number ≡ pass.first.number)
  pinned-stays holds shards pins of h = stays-later of (holds cache pass after keys pins shards h).later

  pub nothing-stays : IsCacheOf cache pass → GivesNothing pass after → IsCacheOf cache after × (after.first.number ≡ pass.first.number)
  nothing-stays of h = stays-later of (nothing_holds eq meaning cache pass after h).later

  -- each pin is held by the pass
  pub pinned-held : PinnedAllHolds eq meaning → AreShardsOf cache.tag cache.shards → (pins : List (PinView K V)) → IsPinnedAll eq meaning cache pass keys after pins → HoldsEach eq meaning cache after (map (λ p. p.key) pins)
  pinned-held holds shards pins h key =
      let all = ap (times_named eq key) h.keys_are in
      let more = (holds cache pass after keys pins shards h).pins key in
      omega (arith, all, more)

module _ {X : Type 0} where
  -- a change for one shard leaves another one's
  with-other : (p : Shards X) (n m : ℕ) → n < shard_count → m < shard_count → (m ≡ n → ⊥) → (x : X) → at (with_at p n x) m ≡ at p m
  with-other p zero zero ln lm ne x = absurd (ne refl)
  with-other p zero (suc zero) ln lm ne x = refl
  with-other p zero (suc (suc zero)) ln lm ne x = refl
  with-other p zero (suc (suc (suc zero))) ln lm ne x = refl
  with-other p zero (suc (suc (suc (suc m)))) ln lm ne x = absurd (omega arith)
  with-other p (suc zero) zero ln lm ne x = refl
  with-other p (suc zero) (suc zero) ln lm ne x = absurd (ne refl)
  with-other p (suc zero) (suc (suc zero)) ln lm ne x = refl
  with-other p (suc zero) (suc (suc (suc zero))) ln lm ne x = refl
  with-other p (suc zero) (suc (suc (suc (suc m)))) ln lm ne x = absurd (omega arith)
  with-other p (suc (suc zero)) zero ln lm ne x = refl
  with-other p (suc (suc zero)) (suc zero) ln lm ne x = refl
  with-other p (suc (suc zero)) (suc (suc zero)) ln lm ne x = absurd (ne refl)
  with-other p (suc (suc zero)) (suc (suc (suc zero))) ln lm ne x = refl
  with-other p (suc (suc zero)) (suc (suc (suc (suc m)))) ln lm ne x = absurd (omega arith)
  with-other p (suc (suc (suc zero))) zero ln lm ne x = refl
  with-other p (suc (suc (suc zero))) (suc zero) ln lm ne x = refl
  with-other p (suc (suc (suc zero))) (suc (suc zero)) ln lm ne x = refl
  with-other p (suc (suc (suc zero))) (suc (suc (suc zero))) ln lm ne x = absurd (ne refl)
  with-other p (suc (suc (suc zero))) (suc (suc (suc (suc m)))) ln lm ne x = absurd (omega arith)
  with-other p (suc (suc (suc (suc n)))) m ln lm ne x = absurd (omega arith)

module _ {K V T : Type 0} (eq : K → K → Bool) (laws : IsEquivalence eq) (meaning : Meaning K V T) (cache : CacheView T) (p : CachePassView K T) (keys : List K) (key : K) where
  -- the pin that is given back next is held
  pub last-held : HoldsEach eq meaning cache p (keys ++ key ∷ []) → (let n = shard_of (meaning.numbers key) in 1 ≤ pins_left eq (own_steps meaning (at cache.shards n).tag (at p n)) key)
  last-held holds =
      let here = holds key in
      let last = named-append eq key keys (key ∷ []) in
      let one : times_named eq key (key ∷ []) ≡ 1 = rw (laws.refl key) (omega arith) in
      omega (arith, here, last, one)

  -- and the pass holds the others then
  pub rest-held : (q : CachePassView K T) → HoldsEach eq meaning cache p (keys ++ key ∷ []) → Calls eq laws meaning cache key p q (Unpin key ∷ []) → HoldsEach eq meaning cache q keys
  rest-held q holds unpins k =
      let n = shard_of (meaning.numbers key) in
      let m = shard_of (meaning.numbers k) in
      let before = holds k in
      let places = named-append eq k keys (key ∷ []) in
      (elim (m == n) as (λ b. (m == n) ≡ b → times_named eq k keys ≤ pins_left eq (own_steps meaning (at cache.shards m).tag (at q m)) k) [
        | true ↦ λ t.
            let less = unpins.0.pins k in
            let same = sym (eqb-true m n t) in
            subst (λ (j : ℕ). times_named eq k keys ≤ pins_left eq (own_steps meaning (at cache.shards j).tag (at q j)) k) same
            (let held = subst (λ (j : ℕ). times_named eq k (keys ++ key ∷ []) ≤ pins_left eq (own_steps meaning (at cache.shards j).tag (at p j)) k) (sym same) before in
            omega (arith, held, less, places))
        | false ↦ λ f.
            let other : m ≡ n → ⊥ = λ e. (let no : true ≡ false = sym (eq-eqb m n e) ∙ f in cc) in
            let kept = ap (λ (z : CachePassView K T). at z m) unpins.1 ∙ with-other p n m (below-four (meaning.numbers key)) (below-four (meaning.numbers k)) other (at q n) in
            let left = ap (λ (z : ShardPassView K T). pins_left eq (own_steps meaning (at cache.shards m).tag z) k) kept in
            omega (arith, before, places, left)
      ]) refl
