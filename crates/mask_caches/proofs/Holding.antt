-- What a pass holds after calls in a row, and that it holds nothing again.
use Rattle.std.proofs.Common.{◌≡◌, ℕ, ◌+◌, ◌<◌, ◌==◌, Bool, true, false, cond, List, [], ◌∷◌, ◌++◌, reverse, flat_map, refl, sym, ap, ◌∙◌, subst, arith}
use Rattle.std.specs.Cmp.{IsEquivalence}
use Rattle.std.specs.List.{All}
use Rattle.std.proofs.lemmas.Bool.{eqb-true}
use Rattle.std.proofs.lemmas.Grind.{flat_map-append}
use Rattle.std.proofs.lemmas.List.{reverse-append}
use Rattle.std.proofs.lemmas.List.Elements.{All-head, All-tail}
use Rattle.turn_cell.specs.History.{History, entries_of}
use Rattle.turn_cell.proofs.Histories.{entries_of-map}
use Rattle.evict_core.specs.Machine.{Step, Hit, Claim, Crowded, Ask, PinAll, Fill, Fail, Spill, Unpin, Limits, Hard}
use Rattle.evict_core.specs.History.{one_if, takes, times_named, pins_taken, pins_given, pins_left, is_open_after, is_open_in, has_open}
use Rattle.flight_cache.specs.Meaning.{Meaning, shard_of, shard_count}
use Rattle.flight_cache.specs.Histories.{is_in, step_of, steps_in, IsOfShard, IsLegalUnder}
use Rattle.flight_cache.specs.Calls.{ShardView, ShardPassView, HasGivenBack, own_steps}
use Rattle.flight_cache.specs.Shards.{CacheView, CachePassView, AreShardsOf, EachGives, EachHasGivenBack, EachIsLegal, HoldsEach, at}
use Rattle.flight_cache.specs.declared.kept.Opening.{Opening}
use Rattle.flight_cache.proofs.Four.{at-each}
use Rattle.flight_cache.proofs.Places.{named-append}
use Rattle.flight_cache.proofs.Refusing.{below-four}
use Rattle.mask_caches.specs.Adding.{Adds, HoldsAsMuch, HoldsFewer, HoldsMore}
use Rattle.mask_caches.specs.Holding.{all_given_steps, pinned_key, pinned_keys}
use Rattle.mask_caches.specs.Leases.{HoldsLease, given_steps}
use Rattle.mask_caches.specs.declared.lease.Lease.{Lease}
use Rattle.mask_caches.specs.declared.lease.Lease.TheVariants.{Pinned, Own}

module _ {K V T : Type 0} (eq : K → K → Bool) (meaning : Meaning K V T) (cache : CacheView T) where
  pub much-itself : (p : CachePassView K T) → HoldsAsMuch eq meaning cache p p
  much-itself p = record { pins = λ k. refl; claims = λ k. refl }

  pub much-then : (p q r : CachePassView K T) → HoldsAsMuch eq meaning cache p q → HoldsAsMuch eq meaning cache q r → HoldsAsMuch eq meaning cache p r
  much-then p q r f g = record { pins = λ k. g.pins k ∙ f.pins k; claims = λ k. g.claims k ∙ f.claims k }

  pub more-none : (p : CachePassView K T) → HoldsMore eq meaning cache p p []
  more-none p = record { pins = λ k. omega arith; claims = λ k. refl }

  pub more-then : (p q r : CachePassView K T) (xs ys : List K) → HoldsMore eq meaning cache p q xs → HoldsMore eq meaning cache q r ys → HoldsMore eq meaning cache p r (xs ++ ys)
  more-then p q r xs ys f g = record {
    pins = λ k. let one = f.pins k in let two = g.pins k in omega (arith, named-append eq k xs ys);
    claims = λ k. g.claims k ∙ f.claims k;
  }

  pub fewer-none : (p : CachePassView K T) → HoldsFewer eq meaning cache p p []
  fewer-none p = record { pins = λ k. omega arith; claims = λ k. refl }

  pub fewer-then : (p q r : CachePassView K T) (xs ys : List K) → HoldsFewer eq meaning cache p q ys → HoldsFewer eq meaning cache q r xs → HoldsFewer eq meaning cache p r (xs ++ ys)
  fewer-then p q r xs ys f g = record {
    pins = λ k. let one = f.pins k in let two = g.pins k in omega (arith, named-append eq k xs ys);
    claims = λ k. g.claims k ∙ f.claims k;
  }

  -- what was held more is held, and once it is given back the pass holds what it did before
  pub more-held : (p q : CachePassView K T) (xs : List K) → HoldsMore eq meaning cache p q xs → HoldsEach eq meaning cache q xs
  more-held p q xs f k = let one = f.pins k in omega arith

  pub more-fewer : (p q r : CachePassView K T) (xs : List K) → HoldsMore eq meaning cache p q xs → HoldsFewer eq meaning cache q r xs → HoldsAsMuch eq meaning cache p r
  more-fewer p q r xs f g = record {
    pins = λ k. let one = f.pins k in let two = g.pins k in omega arith;
    claims = λ k. g.claims k ∙ f.claims k;
  }

  pub more-much : (p q r : CachePassView K T) (xs : List K) → HoldsMore eq meaning cache p q xs → HoldsAsMuch eq meaning cache q r → HoldsMore eq meaning cache p r xs
  more-much p q r xs f g = record { pins = λ k. g.pins k ∙ f.pins k; claims = λ k. g.claims k ∙ f.claims k }

  -- the last ones are held, and the first ones still are once the last are given back
  pub held-last : (p : CachePassView K T) (xs ys : List K) → HoldsEach eq meaning cache p (xs ++ ys) → HoldsEach eq meaning cache p ys
  held-last p xs ys h k = let had = h k in omega (arith, named-append eq k xs ys)

  pub held-first : (p q : CachePassView K T) (xs ys : List K) → HoldsEach eq meaning cache p (xs ++ ys) → HoldsFewer eq meaning cache p q ys → HoldsEach eq meaning cache q xs
  held-first p q xs ys h f k = let had = h k in let less = f.pins k in omega (arith, named-append eq k xs ys)

  -- calls on all shards that take and give back no pin, and leave claims as they are
  pub each-much : (p q : CachePassView K T) (steps : ℕ → List (Step K V)) → EachGives eq meaning cache.shards p q steps → ((n : ℕ) (k : K) → pins_taken eq (steps n) k ≡ 0) → ((n : ℕ) (k : K) → pins_given eq (steps n) k ≡ 0)
      → ((n : ℕ) (k : K) (was : Bool) → is_open_in eq was (steps n) k ≡ was) → HoldsAsMuch eq meaning cache p q
  each-much p q steps g taken given opens = record {
    pins = λ k.
        let n = shard_of (meaning.numbers k) in
        at-each (λ (shard : ShardView T) (a b : ShardPassView K T). pins_left eq (own_steps meaning shard.tag b) k ≡ pins_left eq (own_steps meaning shard.tag a) k) cache.shards p q
        (let f = g.first.pins k in let t = taken 0 k in let s = given 0 k in omega arith)
        (let f = g.second.pins k in let t = taken 1 k in let s = given 1 k in omega arith)
        (let f = g.third.pins k in let t = taken 2 k in let s = given 2 k in omega arith)
        (let f = g.fourth.pins k in let t = taken 3 k in let s = given 3 k in omega arith)
        n (below-four (meaning.numbers k));
    claims = λ k.
        let n = shard_of (meaning.numbers k) in
        at-each (λ (shard : ShardView T) (a b : ShardPassView K T). has_open eq (own_steps meaning shard.tag b) k ≡ has_open eq (own_steps meaning shard.tag a) k) cache.shards p q
        (g.first.claims k ∙ opens 0 k (has_open eq (own_steps meaning cache.shards.first.tag p.first) k))
        (g.second.claims k ∙ opens 1 k (has_open eq (own_steps meaning cache.shards.second.tag p.second) k))
        (g.third.claims k ∙ opens 2 k (has_open eq (own_steps meaning cache.shards.third.tag p.third) k))
        (g.fourth.claims k ∙ opens 3 k (has_open eq (own_steps meaning cache.shards.fourth.tag p.fourth) k))
        n (below-four (meaning.numbers k));
  }

-- ---- leases

module _ {M K V T : Type 0} where
  pub pinned-append : (xs ys : List (Lease M K V T)) → pinned_keys (xs ++ ys) ≡ pinned_keys xs ++ pinned_keys ys
  pinned-append xs ys = flat_map-append pinned_key xs ys

  pub given-append : (xs ys : List (Lease M K V T)) → all_given_steps (xs ++ ys) ≡ all_given_steps ys ++ all_given_steps xs
  given-append xs ys = ap (flat_map given_steps) (reverse-append xs ys) ∙ flat_map-append given_steps (reverse ys) (reverse xs)

module _ {M K V T : Type 0} (eq : K → K → Bool) (meaning : Meaning K V T) (cache : CacheView T) where
  pub held-lease : (laws : IsEquivalence eq) (p : CachePassView K T) (lease : Lease M K V T) → HoldsEach eq meaning cache p (pinned_key lease) → HoldsLease eq meaning cache p lease
  held-lease laws p (Pinned pin) h = let here = rw (laws.refl pin.key) at (h pin.key) in omega arith
  held-lease laws p (Own value) h = tt

  pub given-fewer : (p q : CachePassView K T) (lease : Lease M K V T) → Adds eq meaning cache p q (given_steps lease) → HoldsFewer eq meaning cache p q (pinned_key lease)
  given-fewer p q (Pinned pin) f = record { pins = λ k. let less = f.pins k in omega arith; claims = λ k. f.claims k }
  given-fewer p q (Own value) f = record { pins = λ k. let less = f.pins k in omega arith; claims = λ k. f.claims k }

-- ---- nothing is held again

module _ {K V T : Type 0} (eq : K → K → Bool) (same : (a b : K) → eq a b ≡ true → a ≡ b) (meaning : Meaning K V T) where
  module _ (under : Opening T) (key : K) (out : is_in meaning under key ≡ false) where
    other-key : (k : K) → is_in meaning under k ≡ true → eq key k ≡ false
    other-key k inside = (elim (eq key k) as (λ b. eq key k ≡ b → b ≡ false) [
      | true ↦ λ t. let no : true ≡ false = sym (subst (λ (x : K). is_in meaning under x ≡ true) (sym (same key k t)) inside) ∙ out in cc
      | false ↦ λ f. refl
    ]) refl

    none-named : (keys : List K) → All (λ k. is_in meaning under k ≡ true) keys → times_named eq key keys ≡ 0
    none-named [] all = refl
    none-named (k ∷ keys) all =
        let here = ap one_if (other-key k (All-head (λ (x : K). is_in meaning under x ≡ true) k keys all)) in
        let rest = none-named keys (All-tail (λ (x : K). is_in meaning under x ≡ true) k keys all) in
        omega arith

    takes-none : (s : Step K V) → IsOfShard meaning under s → takes eq key s ≡ 0
    takes-none (Ask k Hit) h = ap one_if (other-key k h)
    takes-none (Ask k Claim) h = refl
    takes-none (Ask k Crowded) h = refl
    takes-none (PinAll keys) h = none-named keys h
    takes-none (Fill k cost value) h = ap one_if (other-key k h)
    takes-none (Fail k) h = refl
    takes-none (Spill k cost) h = refl
    takes-none (Unpin k) h = refl
    takes-none (Limits entries budget) h = refl
    takes-none (Hard hard) h = refl

    opens-none : (s : Step K V) → IsOfShard meaning under s → is_open_after eq s key false ≡ false
    opens-none (Ask k Hit) h = refl
    opens-none (Ask k Claim) h = rw (other-key k h) refl
    opens-none (Ask k Crowded) h = refl
    opens-none (PinAll keys) h = refl
    opens-none (Fill k cost value) h = rw (other-key k h) refl
    opens-none (Fail k) h = rw (other-key k h) refl
    opens-none (Spill k cost) h = rw (other-key k h) refl
    opens-none (Unpin k) h = refl
    opens-none (Limits entries budget) h = refl
    opens-none (Hard hard) h = refl

    -- the steps of a shard concern none of the keys of another one
    taken-none : (n : ℕ) (h : History (Step K V)) → All (λ e. IsOfShard meaning under e.1) h → pins_taken eq (entries_of n h) key ≡ 0
    taken-none n [] all = refl
    taken-none n (e ∷ h) all =
        let here = takes-none e.1 (All-head (λ (x : ℕ × Step K V). IsOfShard meaning under x.1) e h all) in
        let rest = taken-none n h (All-tail (λ (x : ℕ × Step K V). IsOfShard meaning under x.1) e h all) in
        elim (e.0 == n) as (λ b. pins_taken eq (cond b (e.1 ∷ entries_of n h) (entries_of n h)) key ≡ 0) [
          | true ↦ omega arith
          | false ↦ rest
        ]

    open-none : (n : ℕ) (h : History (Step K V)) → All (λ e. IsOfShard meaning under e.1) h → has_open eq (entries_of n h) key ≡ false
    open-none n [] all = refl
    open-none n (e ∷ h) all =
        let here = opens-none e.1 (All-head (λ (x : ℕ × Step K V). IsOfShard meaning under x.1) e h all) in
        let rest = open-none n h (All-tail (λ (x : ℕ × Step K V). IsOfShard meaning under x.1) e h all) in
        elim (e.0 == n) as (λ b. has_open eq (cond b (e.1 ∷ entries_of n h) (entries_of n h)) key ≡ false) [
          | true ↦ ap (λ (b : Bool). is_open_in eq b (entries_of n h) key) here ∙ rest
          | false ↦ rest
        ]

  own-none : (under : Opening T) (pass : ShardPassView K T) → IsLegalUnder eq meaning under pass.seen → (key : K) → is_in meaning under key ≡ false
      → (pins_left eq (own_steps meaning under pass) key ≡ 0) × (has_open eq (own_steps meaning under pass) key ≡ false)
  own-none under pass legal key out =
      let is = entries_of-map (step_of meaning under) pass.number pass.seen in
      let taken = ap (λ (l : List (Step K V)). pins_taken eq l key) (sym is) ∙ taken-none under key out pass.number (steps_in meaning under pass.seen) legal.keys in (
        omega arith,
        ap (λ (l : List (Step K V)). has_open eq l key) (sym is) ∙ open-none under key out pass.number (steps_in meaning under pass.seen) legal.keys,
      )

  module _ (cache : CacheView T) (p q : CachePassView K T) (before : EachHasGivenBack eq meaning cache.shards p) (much : HoldsAsMuch eq meaning cache p q) where
    -- the pass holds nothing in shard n, where it held nothing before
    shard-back : (n : ℕ) → n < shard_count → (at cache.shards n).tag.shard ≡ n → HasGivenBack eq meaning (at cache.shards n) (at p n) → IsLegalUnder eq meaning (at cache.shards n).tag (at q n).seen
        → HasGivenBack eq meaning (at cache.shards n) (at q n)
    shard-back n lt is was legal =
        let own = λ (k : K). own-none (at cache.shards n).tag (at q n) legal k in
        let there : (k : K) → is_in meaning (at cache.shards n).tag k ≡ true → shard_of (meaning.numbers k) ≡ n = λ k t. eqb-true (shard_of (meaning.numbers k)) (at cache.shards n).tag.shard t ∙ is in
        record {
          pins = λ k. (elim (is_in meaning (at cache.shards n).tag k) as (λ b. is_in meaning (at cache.shards n).tag k ≡ b → pins_left eq (own_steps meaning (at cache.shards n).tag (at q n)) k ≡ 0) [
            | true ↦ λ t. subst (λ (i : ℕ). pins_left eq (own_steps meaning (at cache.shards i).tag (at q i)) k ≡ pins_left eq (own_steps meaning (at cache.shards i).tag (at p i)) k) (there k t) (much.pins k) ∙ was.pins k
            | false ↦ λ f. (own k f).0
          ]) refl;
          claims = λ k. (elim (is_in meaning (at cache.shards n).tag k) as (λ b. is_in meaning (at cache.shards n).tag k ≡ b → has_open eq (own_steps meaning (at cache.shards n).tag (at q n)) k ≡ false) [
            | true ↦ λ t. subst (λ (i : ℕ). has_open eq (own_steps meaning (at cache.shards i).tag (at q i)) k ≡ has_open eq (own_steps meaning (at cache.shards i).tag (at p i)) k) (there k t) (much.claims k) ∙ was.claims k
            | false ↦ λ f. (own k f).1
          ]) refl;
        }

    pub given-again : AreShardsOf cache.tag cache.shards → EachIsLegal eq meaning cache.shards q → EachHasGivenBack eq meaning cache.shards q
    given-again of legal = record {
      first = shard-back 0 (omega arith) of.first.number before.first legal.first;
      second = shard-back 1 (omega arith) of.second.number before.second legal.second;
      third = shard-back 2 (omega arith) of.third.number before.third legal.third;
      fourth = shard-back 3 (omega arith) of.fourth.number before.fourth legal.fourth;
    }
