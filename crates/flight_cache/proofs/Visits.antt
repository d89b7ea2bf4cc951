-- What calls in a row leave that give back what they take: an ask and the unpin of its pin, a claim and its fail or its fill.
use Rattle.std.proofs.Common.{◌≡◌, ℕ, zero, suc, ◌<◌, ◌≤◌, ◌&&◌, ◌||◌, not, Bool, true, false, List, ◌∷◌, [], ◌++◌, map, refl, sym, ap, ◌∙◌, subst, arith}
use Rattle.std.specs.Cmp.{IsEquivalence}
use Rattle.std.proofs.lemmas.List.{append-nil}
use Rattle.atomic_table.specs.Seated.{TableId}
use Rattle.turn_cell.specs.Passes.{Follows, mine, split_pass, new_pass, joined_pass}
use Rattle.turn_cell.proofs.Passes.{Follows_trans}
use Rattle.evict_core.specs.Machine.{Step, Hit, Claim, Crowded, Ask, Fill, Fail, Spill, Unpin}
use Rattle.evict_core.specs.History.{pins_left, has_open}
use Rattle.flight_cache.specs.Meaning.{Meaning, shard_of, shard_count}
use Rattle.flight_cache.specs.Histories.{step_of}
use Rattle.flight_cache.specs.Calls.{ShardView, ShardPassView, GivesSteps, HasGivenBack, own_steps}
use Rattle.flight_cache.specs.Shards.{Shards, CacheView, CachePassView, IsCacheOf, EachHasGivenBack, GivesBack, HasLowerOpen, at, with_at, each, both, IsHome}
use Rattle.flight_cache.specs.declared.kept.Entry.{Entry}
use Rattle.flight_cache.proofs.Rows.{gives_follow, call_is_later, stays_of_cache, one_gives_back}
use Rattle.flight_cache.proofs.Four.{at-each}
use Rattle.flight_cache.proofs.Refusing.{below-four}

module _ {X : Type 0} where
  -- of two changes for one shard the second counts
  with-twice : (p : Shards X) (n : ℕ) → n < shard_count → (x y : X) → with_at (with_at p n x) n y ≡ with_at p n y
  with-twice p zero lt x y = refl
  with-twice p (suc zero) lt x y = refl
  with-twice p (suc (suc zero)) lt x y = refl
  with-twice p (suc (suc (suc zero))) lt x y = refl
  with-twice p (suc (suc (suc (suc n)))) lt x y = absurd (omega arith)

  with-after : (p q r : Shards X) (n : ℕ) → n < shard_count → q ≡ with_at p n (at q n) → r ≡ with_at q n (at r n) → r ≡ with_at p n (at r n)
  with-after p q r n lt one two = two ∙ (ap (λ (z : Shards X). with_at z n (at r n)) one ∙ with-twice p n lt (at q n) (at r n))

false-is-true : false ≡ true → ⊥
false-is-true e = cc

-- a claim that a fill or a fail closes
closed : (b was after last : Bool) → was ≡ false → after ≡ (b || was) → last ≡ (not b && after) → last ≡ false
closed true was after last none opens closes = closes
closed false was after last none opens closes = closes ∙ (opens ∙ none)

module _ {K V T : Type 0} (eq : K → K → Bool) (meaning : Meaning K V T) (shard : ShardView T) (p : ShardPassView K T) (before : HasGivenBack eq meaning shard p) (key : K) (q r s : ShardPassView K T) where
  hit-back : GivesSteps eq meaning shard p q (Ask key Hit ∷ []) → GivesSteps eq meaning shard q r (Unpin key ∷ []) → HasGivenBack eq meaning shard r
  hit-back asks unpins = record {
    pins = λ k. let none = before.pins k in let more = asks.pins k in let less = unpins.pins k in omega arith;
    claims = λ k. unpins.claims k ∙ (asks.claims k ∙ before.claims k);
  }

  fail-back : GivesSteps eq meaning shard p q (Ask key Claim ∷ []) → GivesSteps eq meaning shard q r (Fail key ∷ []) → HasGivenBack eq meaning shard r
  fail-back asks fails = record {
    pins = λ k. let none = before.pins k in let more = asks.pins k in let less = fails.pins k in omega arith;
    claims = λ k. closed (eq k key) _ _ _ (before.claims k) (asks.claims k) (fails.claims k);
  }

  spill-back : (cost : ℕ) → GivesSteps eq meaning shard p q (Ask key Claim ∷ []) → GivesSteps eq meaning shard q r (Spill key cost ∷ []) → HasGivenBack eq meaning shard r
  spill-back cost asks spills = record {
    pins = λ k. let none = before.pins k in let more = asks.pins k in let less = spills.pins k in omega arith;
    claims = λ k. closed (eq k key) _ _ _ (before.claims k) (asks.claims k) (spills.claims k);
  }

  fill-back : (cost : ℕ) (value : V) → GivesSteps eq meaning shard p q (Ask key Claim ∷ []) → GivesSteps eq meaning shard q r (Fill key cost value ∷ []) → GivesSteps eq meaning shard r s (Unpin key ∷ []) → HasGivenBack eq meaning shard s
  fill-back cost value asks fills unpins = record {
    pins = λ k. let none = before.pins k in let same = asks.pins k in let more = fills.pins k in let less = unpins.pins k in omega arith;
    claims = λ k. unpins.claims k ∙ closed (eq k key) _ _ _ (before.claims k) (asks.claims k) (fills.claims k);
  }

  crowded-back : GivesSteps eq meaning shard p q (Ask key Crowded ∷ []) → HasGivenBack eq meaning shard q
  crowded-back asks = record {
    pins = λ k. let none = before.pins k in let same = asks.pins k in omega arith;
    claims = λ k. asks.claims k ∙ before.claims k;
  }

  nothing-back : Follows p q [] → HasGivenBack eq meaning shard q
  nothing-back follows =
      let own : own_steps meaning shard.tag q ≡ own_steps meaning shard.tag p = ap (map (step_of meaning shard.tag)) (follows.mine ∙ append-nil (mine p)) in record {
        pins = λ k. ap (λ l. pins_left eq l k) own ∙ before.pins k;
        claims = λ k. ap (λ l. has_open eq l k) own ∙ before.claims k;
      }

module _ {K V T : Type 0} (eq : K → K → Bool) (laws : IsEquivalence eq) (meaning : Meaning K V T) (cache : CacheView T) where
  -- what calls on one shard leave
  after-calls : (n : ℕ) → n < shard_count → (p q : CachePassView K T) (entries : List (Entry K)) → IsCacheOf cache p → Follows (at p n) (at q n) entries → q ≡ with_at p n (at q n)
      → (HasGivenBack eq meaning (at cache.shards n) (at p n) → HasGivenBack eq meaning (at cache.shards n) (at q n)) → GivesBack eq meaning cache p q
  after-calls n lt p q entries of follows is back =
      let later = call_is_later p q n entries follows is in record {
        cell = stays_of_cache cache p q of later;
        number = later.first.1.number;
        given = λ given. one_gives_back eq meaning cache.shards p q n given is (back (at-each (λ (shard : ShardView T) (own : ShardPassView K T) (same : ShardPassView K T). HasGivenBack eq meaning shard own) cache.shards p p given.first given.second given.third given.fourth n lt));
      }

  pub after-none : (p : CachePassView K T) → IsCacheOf cache p → GivesBack eq meaning cache p p
  after-none p of = record { cell = of; number = refl; given = λ given. given }

  pub after-more : (p q r : CachePassView K T) → GivesBack eq meaning cache p q → GivesBack eq meaning cache q r → GivesBack eq meaning cache p r
  after-more p q r f g = record { cell = g.cell; number = g.number ∙ f.number; given = λ given. g.given (f.given given) }

  -- a call on the shard of a key, which gave these steps
  abbrev pub Calls : K → CachePassView K T → CachePassView K T → List (Step K V) → Type 0
  Calls key p q steps = let n = shard_of (meaning.numbers key) in GivesSteps eq meaning (at cache.shards n) (at p n) (at q n) steps × (q ≡ with_at p n (at q n))

  pub call-stays : (key : K) (p q : CachePassView K T) (steps : List (Step K V)) → IsCacheOf cache p → Calls key p q steps → IsCacheOf cache q
  call-stays key p q steps of c =
      let n = shard_of (meaning.numbers key) in
      let follows = gives_follow eq meaning (at cache.shards n) (at p n) (at q n) steps c.0 in
      stays_of_cache cache p q of (call_is_later p q n follows.0 follows.1 c.1)

  -- a pin of the key that a hit gave, and one that a fill gave
  pub hit-held : (key used : K) (p q : CachePassView K T) → used ≡ key → Calls key p q (Ask key Hit ∷ []) → (let n = shard_of (meaning.numbers used) in 1 ≤ pins_left eq (own_steps meaning (at cache.shards n).tag (at q n)) used)
  hit-held key used p q is c =
      let n = shard_of (meaning.numbers key) in
      subst (λ (k : K). 1 ≤ pins_left eq (own_steps meaning (at cache.shards (shard_of (meaning.numbers k))).tag (at q (shard_of (meaning.numbers k)))) k) (sym is)
      (let more = rw (laws.refl key) at (c.0.pins key) in omega arith)

  pub fill-held : (key used : K) (cost : ℕ) (value : V) (p q : CachePassView K T) → used ≡ key → Calls key p q (Fill key cost value ∷ []) → (let n = shard_of (meaning.numbers used) in 1 ≤ pins_left eq (own_steps meaning (at cache.shards n).tag (at q n)) used)
  fill-held key used cost value p q is c =
      subst (λ (k : K). 1 ≤ pins_left eq (own_steps meaning (at cache.shards (shard_of (meaning.numbers k))).tag (at q (shard_of (meaning.numbers k)))) k) (sym is)
      (let more = rw (laws.refl key) at (c.0.pins key) in omega arith)

  pub claim-open : (key used : K) (p q : CachePassView K T) → used ≡ key → Calls key p q (Ask key Claim ∷ []) → (let n = shard_of (meaning.numbers used) in has_open eq (own_steps meaning (at cache.shards n).tag (at q n)) used ≡ true)
  claim-open key used p q is c =
      subst (λ (k : K). has_open eq (own_steps meaning (at cache.shards (shard_of (meaning.numbers k))).tag (at q (shard_of (meaning.numbers k)))) k ≡ true) (sym is)
      (rw (laws.refl key) at (c.0.claims key))

  two-calls : (key : K) (p q r : CachePassView K T) (one two : List (Step K V)) → Calls key p q one → Calls key q r two
      → (let n = shard_of (meaning.numbers key) in ((entries : List (Entry K)) × Follows (at p n) (at r n) entries) × (r ≡ with_at p n (at r n)))
  two-calls key p q r one two c d =
      let n = shard_of (meaning.numbers key) in
      let f = gives_follow eq meaning (at cache.shards n) (at p n) (at q n) one c.0 in
      let g = gives_follow eq meaning (at cache.shards n) (at q n) (at r n) two d.0 in
      ((f.0 ++ g.0, Follows_trans (at p n) (at q n) (at r n) f.0 g.0 f.1 g.1), with-after p q r n (below-four (meaning.numbers key)) c.1 d.1)

  pub after-hit : (key used : K) (p q r : CachePassView K T) → used ≡ key → IsCacheOf cache p → Calls key p q (Ask key Hit ∷ []) → Calls used q r (Unpin used ∷ []) → GivesBack eq meaning cache p r
  after-hit key used p q r is of asks unpins =
      let n = shard_of (meaning.numbers key) in
      let d = subst (λ (k : K). Calls k q r (Unpin k ∷ [])) is unpins in
      let all = two-calls key p q r (Ask key Hit ∷ []) (Unpin key ∷ []) asks d in
      after-calls n (below-four (meaning.numbers key)) p r all.0.0 of all.0.1 all.1
      (λ before. hit-back eq meaning (at cache.shards n) (at p n) before key (at q n) (at r n) (at r n) asks.0 d.0)

  pub after-fail : (key used : K) (p q r : CachePassView K T) → used ≡ key → IsCacheOf cache p → Calls key p q (Ask key Claim ∷ []) → Calls used q r (Fail used ∷ []) → GivesBack eq meaning cache p r
  after-fail key used p q r is of asks fails =
      let n = shard_of (meaning.numbers key) in
      let d = subst (λ (k : K). Calls k q r (Fail k ∷ [])) is fails in
      let all = two-calls key p q r (Ask key Claim ∷ []) (Fail key ∷ []) asks d in
      after-calls n (below-four (meaning.numbers key)) p r all.0.0 of all.0.1 all.1
      (λ before. fail-back eq meaning (at cache.shards n) (at p n) before key (at q n) (at r n) (at r n) asks.0 d.0)

  pub after-spill : (key used : K) (cost : ℕ) (p q r : CachePassView K T) → used ≡ key → IsCacheOf cache p → Calls key p q (Ask key Claim ∷ []) → Calls used q r (Spill used cost ∷ []) → GivesBack eq meaning cache p r
  after-spill key used cost p q r is of asks spills =
      let n = shard_of (meaning.numbers key) in
      let d = subst (λ (k : K). Calls k q r (Spill k cost ∷ [])) is spills in
      let all = two-calls key p q r (Ask key Claim ∷ []) (Spill key cost ∷ []) asks d in
      after-calls n (below-four (meaning.numbers key)) p r all.0.0 of all.0.1 all.1
      (λ before. spill-back eq meaning (at cache.shards n) (at p n) before key (at q n) (at r n) (at r n) cost asks.0 d.0)

  pub after-fill : (key used held : K) (cost : ℕ) (value : V) (p q r s : CachePassView K T) → used ≡ key → held ≡ key → IsCacheOf cache p → Calls key p q (Ask key Claim ∷ []) → Calls used q r (Fill used cost value ∷ []) → Calls held r s (Unpin held ∷ [])
      → GivesBack eq meaning cache p s
  after-fill key used held cost value p q r s is same of asks fills unpins =
      let n = shard_of (meaning.numbers key) in
      let c = subst (λ (k : K). Calls k q r (Fill k cost value ∷ [])) is fills in
      let d = subst (λ (k : K). Calls k r s (Unpin k ∷ [])) same unpins in
      let two = two-calls key p q r (Ask key Claim ∷ []) (Fill key cost value ∷ []) asks c in
      let last = gives_follow eq meaning (at cache.shards n) (at r n) (at s n) (Unpin key ∷ []) d.0 in
      after-calls n (below-four (meaning.numbers key)) p s (two.0.0 ++ last.0) of (Follows_trans (at p n) (at r n) (at s n) two.0.0 last.0 two.0.1 last.1) (with-after p r s n (below-four (meaning.numbers key)) two.1 d.1)
      (λ before. fill-back eq meaning (at cache.shards n) (at p n) before key (at q n) (at r n) (at s n) cost value asks.0 c.0 d.0)

  pub after-crowded : (key : K) (p q : CachePassView K T) → IsCacheOf cache p → Calls key p q (Ask key Crowded ∷ []) → GivesBack eq meaning cache p q
  after-crowded key p q of asks =
      let n = shard_of (meaning.numbers key) in
      let f = gives_follow eq meaning (at cache.shards n) (at p n) (at q n) (Ask key Crowded ∷ []) asks.0 in
      after-calls n (below-four (meaning.numbers key)) p q f.0 of f.1 asks.1
      (λ before. crowded-back eq meaning (at cache.shards n) (at p n) before key (at q n) (at q n) (at q n) asks.0)

  pub after-nothing : (key : K) (p q : CachePassView K T) → IsCacheOf cache p → (let n = shard_of (meaning.numbers key) in Follows (at p n) (at q n) []) → (let n = shard_of (meaning.numbers key) in q ≡ with_at p n (at q n)) → GivesBack eq meaning cache p q
  after-nothing key p q of follows is =
      let n = shard_of (meaning.numbers key) in
      after-calls n (below-four (meaning.numbers key)) p q [] of follows is
      (λ before. nothing-back eq meaning (at cache.shards n) (at p n) before key (at q n) (at q n) (at q n) follows)

-- a split and a join leave passes of the same cache
module _ {K T : Type 0} (cache : CacheView T) (p : CachePassView K T) (of : IsCacheOf cache p) where
  pub split-stays : (q : CachePassView K T) → q ≡ each split_pass p → IsCacheOf cache q
  split-stays q is = subst (λ (z : CachePassView K T). IsCacheOf cache z) (sym is) (record {
    first = record { id = of.first.id; tagged = of.first.tagged };
    second = record { id = of.second.id; tagged = of.second.tagged };
    third = record { id = of.third.id; tagged = of.third.tagged };
    fourth = record { id = of.fourth.id; tagged = of.fourth.tagged };
  })

  pub new-stays : (q : CachePassView K T) → q ≡ each new_pass p → IsCacheOf cache q
  new-stays q is = subst (λ (z : CachePassView K T). IsCacheOf cache z) (sym is) (record {
    first = record { id = of.first.id; tagged = of.first.tagged };
    second = record { id = of.second.id; tagged = of.second.tagged };
    third = record { id = of.third.id; tagged = of.third.tagged };
    fourth = record { id = of.fourth.id; tagged = of.fourth.tagged };
  })

  pub join-stays : (other q : CachePassView K T) → q ≡ both joined_pass p other → IsCacheOf cache q
  join-stays other q is = subst (λ (z : CachePassView K T). IsCacheOf cache z) (sym is) (record {
    first = record { id = of.first.id; tagged = of.first.tagged };
    second = record { id = of.second.id; tagged = of.second.tagged };
    third = record { id = of.third.id; tagged = of.third.tagged };
    fourth = record { id = of.fourth.id; tagged = of.fourth.tagged };
  })

module _ {K V T : Type 0} (eq : K → K → Bool) (meaning : Meaning K V T) (cache : CacheView T) where
  -- who has nothing to give back may wait for whatever key
  pub given-lower : (p : CachePassView K T) (key : K) → EachHasGivenBack eq meaning cache.shards p → HasLowerOpen eq meaning cache p key
  given-lower p key given = λ other claimed.
      let none = at-each (λ (s : ShardView T) (a b : ShardPassView K T). has_open eq (own_steps meaning s.tag b) other ≡ false) cache.shards p p
      (given.first.claims other) (given.second.claims other) (given.third.claims other) (given.fourth.claims other)
      (shard_of (meaning.numbers other)) (below-four (meaning.numbers other)) in
      absurd {A = meaning.rank other < meaning.rank key} (false-is-true (sym none ∙ claimed))

-- a pin or ticket of the key that was asked for
pub home-by : {K V T : Type 0} (meaning : Meaning K V T) (cache : CacheView T) (key k : K) (cell : TableId) → k ≡ key → cell ≡ (at cache.shards (shard_of (meaning.numbers key))).id → IsHome meaning cache k cell
home-by {K} meaning cache key k cell same is = is ∙ ap (λ (z : K). (at cache.shards (shard_of (meaning.numbers z))).id) (sym same)
