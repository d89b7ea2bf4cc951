-- What a refusal of pinning several keys leaves, and that it is for one cause.
use Rattle.std.proofs.Common.{◌≡◌, ℕ, zero, suc, ◌+◌, ◌<◌, ◌≤◌, ◌==◌, nat_lt, Bool, true, false, cond, ◌⊎◌, ⊎_elim, inl, inr, List, [], ◌∷◌, ◌++◌, slice_get, take, Option, Some, None, refl, sym, ap, ◌∙◌, subst, arith}
use Rattle.std.specs.Bool.{MatchBool}
use Rattle.std.specs.Cmp.{IsEquivalence}
use Rattle.std.proofs.lemmas.Bool.{eq-eqb}
use Rattle.std.proofs.lemmas.List.Elements.{filter-append}
use Rattle.turn_cell.specs.Passes.{Follows}
use Rattle.turn_cell.proofs.Passes.{Follows_same, Follows_tries}
use Rattle.evict_core.specs.Machine.{Status, Flying, Ready, max_pins, maker_in, status_of}
use Rattle.evict_core.specs.History.{times_named}
use Rattle.evict_core.specs.Asked.{ready_pins}
use Rattle.flight_cache.specs.Meaning.{Meaning, shard_of}
use Rattle.flight_cache.specs.Histories.{is_in}
use Rattle.flight_cache.specs.Calls.{ShardView, ShardPassView, GivesSteps}
use Rattle.flight_cache.specs.Shards.{CacheView, CachePassView, AreShardsOf, at}
use Rattle.flight_cache.specs.Pinning.{is_named, shards_of, keys_in, shown_state, TurnsWith, StopsBefore, StopsBeforeAll, IsOutAt, IsTurnOut, GivesNothing, IsStoppedAt, pins_shown, maker_shown, IsRefused}
use Rattle.flight_cache.specs.Laws.{RefusedForOneCause}
use Rattle.flight_cache.specs.declared.pinning.PinRefusal.{PinRefusal}
use Rattle.flight_cache.specs.declared.pinning.PinRefusal.TheVariants.{TurnOut, NotReady, Making, PinsFull, OutOfMemory}
use Rattle.flight_cache.proofs.Asking.{gives-nothing}
use Rattle.flight_cache.proofs.Four.{at-shard, at-each}
use Rattle.flight_cache.proofs.Refusing.{below-four, named-key, same-nothing}
use Rattle.flight_cache.proofs.Rows.{places_are_in_shard}

module _ {K V T : Type 0} (eq : K → K → Bool) (meaning : Meaning K V T) (shard : ShardView T) (pass after : ShardPassView K T) where
  nothing-turned : (b : Bool) → MatchBool b (GivesSteps eq meaning shard pass after []) (after ≡ pass) → Follows pass after []
  nothing-turned true g = gives-nothing eq meaning shard pass after g
  nothing-turned false e = subst (λ (z : ShardPassView K T). Follows pass z []) (sym e) (Follows_same pass)

  nothing-outed : (b c d : Bool) → MatchBool b (MatchBool c (GivesSteps eq meaning shard pass after []) (after ≡ pass)) (MatchBool d (after ≡ record pass { lost = pass.lost + 1 }) (after ≡ pass)) → Follows pass after []
  nothing-outed true c d h = nothing-turned c h
  nothing-outed false c true e = Follows_tries pass after (pass.lost + 1) (omega arith) e
  nothing-outed false c false e = nothing-turned false e

module _ {K V T : Type 0} (eq : K → K → Bool) (meaning : Meaning K V T) (cache : CacheView T) (pass : CachePassView K T) (shards : List ℕ) (after : CachePassView K T) where
  pub out-nothing : (n : ℕ) × IsTurnOut eq meaning cache pass shards after n → GivesNothing pass after
  out-nothing h = record {
    first = nothing-outed eq meaning cache.shards.first pass.first after.first _ _ _ h.1.first;
    second = nothing-outed eq meaning cache.shards.second pass.second after.second _ _ _ h.1.second;
    third = nothing-outed eq meaning cache.shards.third pass.third after.third _ _ _ h.1.third;
    fourth = nothing-outed eq meaning cache.shards.fourth pass.fourth after.fourth _ _ _ h.1.fourth;
  }

module _ {K V T : Type 0} (eq : K → K → Bool) (meaning : Meaning K V T) (cache : CacheView T) (pass : CachePassView K T) (keys : List K) (after : CachePassView K T) where
  stops-nothing : (front : List K) → StopsBeforeAll eq meaning cache pass (shards_of meaning keys) after front → GivesNothing pass after
  stops-nothing front h = record {
    first = nothing-turned eq meaning cache.shards.first pass.first after.first _ h.first.turn;
    second = nothing-turned eq meaning cache.shards.second pass.second after.second _ h.second.turn;
    third = nothing-turned eq meaning cache.shards.third pass.third after.third _ h.third.turn;
    fourth = nothing-turned eq meaning cache.shards.fourth pass.fourth after.fourth _ h.fourth.turn;
  }

  stopped-nothing : (i : ℕ) (k : K) → IsStoppedAt eq meaning cache pass keys after i k → GivesNothing pass after
  stopped-nothing i k h = stops-nothing (take i keys) h.0

  pub refused-nothing : (refusal : PinRefusal) → IsRefused eq meaning cache pass keys after refusal → GivesNothing pass after
  refused-nothing TurnOut h = out-nothing eq meaning cache pass (shards_of meaning keys) after h
  refused-nothing (NotReady i) h = stopped-nothing i h.0 h.1
  refused-nothing (Making i) h = stopped-nothing i h.0 h.2
  refused-nothing (PinsFull i) h = stopped-nothing i h.0 h.2
  refused-nothing OutOfMemory h = ⊎_elim (λ same. subst (λ (z : CachePassView K T). GivesNothing pass z) (sym same) (same-nothing pass)) (λ stops. stops-nothing keys stops) h

-- two places, neither of which is before the other, are one
same-place : (i j : ℕ) → (i < j → ⊥) → (j < i → ⊥) → i ≡ j
same-place zero zero left right = refl
same-place zero (suc j) left right = absurd (left (omega arith))
same-place (suc i) zero left right = absurd (right (omega arith))
same-place (suc i) (suc j) left right = ap suc (same-place i j (λ lt. left (omega (arith, lt))) (λ lt. right (omega (arith, lt))))

-- what stands before a place, with an element in it
cut-at : {X : Type 0} (xs : List X) (i j : ℕ) (x : X) → slice_get xs i ≡ Some x → i < j → (rest : List X) × (take j xs ≡ take i xs ++ x ∷ rest)
cut-at xs i zero x is lt = absurd (omega (arith, lt))
cut-at [] i (suc j) x is lt = cc
cut-at (y ∷ ys) zero (suc j) x is lt = let same : y ≡ x = cc in (take j ys, ap (λ z. z ∷ take j ys) same)
cut-at (y ∷ ys) (suc i) (suc j) x is lt = let rest = cut-at ys i j x is (omega (arith, lt)) in (rest.0, ap (λ l. y ∷ l) rest.1)

module _ {K V T : Type 0} (eq : K → K → Bool) (same : (a b : K) → eq a b ≡ true → a ≡ b) (laws : IsEquivalence eq) (meaning : Meaning K V T) (keys : List K) where
  -- what a turn showed of a key before the place that stopped the pinning
  shown-one : (i j : ℕ) (k : K) → slice_get keys i ≡ Some k → i < j → (shard : ShardView T) (pass after : ShardPassView K T)
      → is_in meaning shard.tag k ≡ true → is_named (shards_of meaning keys) shard.tag.shard ≡ true → StopsBefore eq meaning (shards_of meaning keys) shard pass after (take j keys)
      → (pins : ℕ) × (ready_pins (status_of eq (shown_state eq meaning shard after) k) ≡ Some pins) × (pins + times_named eq k (take i keys) < max_pins)
  shown-one i j k is lt shard pass after here named stops =
      let cut = cut-at keys i j k is lt in
      let parted = ap (keys_in meaning shard) cut.1 ∙ (filter-append (is_in meaning shard.tag) (take i keys) (k ∷ cut.0)
      ∙ ap (λ (b : Bool). keys_in meaning shard (take i keys) ++ cond b (k ∷ keys_in meaning shard cut.0) (keys_in meaning shard cut.0)) here) in
      let can = stops.before named (keys_in meaning shard (take i keys)) (keys_in meaning shard cut.0) k parted in
      (can.0, can.1, subst (λ (n : ℕ). can.0 + n < max_pins) (places_are_in_shard eq laws same meaning shard (take i keys) k here) can.2)

  module _ (cache : CacheView T) (of : AreShardsOf cache.tag cache.shards) (pass after : CachePassView K T) where
    shown-before : (i j : ℕ) (k : K) → slice_get keys i ≡ Some k → i < j → StopsBeforeAll eq meaning cache pass (shards_of meaning keys) after (take j keys)
        → (pins : ℕ) × (pins_shown eq meaning cache pass keys after k ≡ Some pins) × (pins + times_named eq k (take i keys) < max_pins)
    shown-before i j k is lt stops =
        let n = shard_of (meaning.numbers k) in
        let numbered = (at-shard cache.tag cache.shards of n (below-four (meaning.numbers k))).number in
        at-each (λ (shard : ShardView T) (p q : ShardPassView K T). is_in meaning shard.tag k ≡ true → is_named (shards_of meaning keys) shard.tag.shard ≡ true
        → (pins : ℕ) × (ready_pins (status_of eq (shown_state eq meaning shard q) k) ≡ Some pins) × (pins + times_named eq k (take i keys) < max_pins)) cache.shards pass after
        (λ here named. shown-one i j k is lt cache.shards.first pass.first after.first here named stops.first)
        (λ here named. shown-one i j k is lt cache.shards.second pass.second after.second here named stops.second)
        (λ here named. shown-one i j k is lt cache.shards.third pass.third after.third here named stops.third)
        (λ here named. shown-one i j k is lt cache.shards.fourth pass.fourth after.fourth here named stops.fourth)
        n (below-four (meaning.numbers k)) (eq-eqb _ _ (sym numbered)) (subst (λ (m : ℕ). is_named (shards_of meaning keys) m ≡ true) (sym numbered) (named-key meaning keys i k is))

    -- the key at a place can't be pinned
    abbrev IsStuck : ℕ → K → Type 0
    IsStuck i k = (pins_shown eq meaning cache pass keys after k ≡ None) ⊎ ((pins : ℕ) × (pins_shown eq meaning cache pass keys after k ≡ Some pins) × (max_pins ≤ pins + times_named eq k (take i keys)))

    stuck-or-shown : (i : ℕ) (k : K) → IsStuck i k → ((pins : ℕ) × (pins_shown eq meaning cache pass keys after k ≡ Some pins) × (pins + times_named eq k (take i keys) < max_pins)) → ⊥
    stuck-or-shown i k (inl none) shown = let no = sym none ∙ shown.1 in cc
    stuck-or-shown i k (inr full) shown = let both : full.0 ≡ shown.0 = (let are = sym full.1 ∙ shown.1 in cc) in absurd (omega (arith, both, full.2, shown.2))

    one-place : (i j : ℕ) (k l : K) → IsStuck i k → IsStuck j l → IsStoppedAt eq meaning cache pass keys after i k → IsStoppedAt eq meaning cache pass keys after j l → (i ≡ j) × (k ≡ l)
    one-place i j k l stuck other at_i at_j =
        let place = same-place i j (λ lt. stuck-or-shown i k stuck (shown-before i j k at_i.1 lt at_j.0)) (λ lt. stuck-or-shown j l other (shown-before j i l at_j.1 lt at_i.0)) in
        let found = sym at_i.1 ∙ (ap (slice_get keys) place ∙ at_j.1) in
        (place, cc)

module _ {K V T : Type 0} (eq : K → K → Bool) (meaning : Meaning K V T) (shards : List ℕ) (shard : ShardView T) (pass after : ShardPassView K T) where
  -- a turn that was out wasn't had
  out-once : is_named shards shard.tag.shard ≡ true → after ≡ record pass { lost = pass.lost + 1 } → TurnsWith eq meaning shards shard pass after [] → ⊥
  out-once named lost turns =
      let g : GivesSteps eq meaning shard pass after [] = subst (λ (b : Bool). MatchBool b (GivesSteps eq meaning shard pass after []) (after ≡ pass)) named turns in
      let kept = ap (λ (p : ShardPassView K T). p.turns) lost in
      let before = g.waits.turns in
      let taken = g.takes.turns in
      absurd (omega (arith, kept, before, taken))

  -- how a shard of number m is left where n is out
  out-here : (n m : ℕ) → shard.tag.shard ≡ m → IsOutAt eq meaning shards shard pass after n
      → MatchBool (nat_lt m n) (TurnsWith eq meaning shards shard pass after []) (MatchBool (m == n) (after ≡ record pass { lost = pass.lost + 1 }) (after ≡ pass))
  out-here n m is h =
      subst (λ (j : ℕ). MatchBool (nat_lt j n) (TurnsWith eq meaning shards shard pass after []) (MatchBool (j == n) (after ≡ record pass { lost = pass.lost + 1 }) (after ≡ pass))) is h

module _ {K V T : Type 0} (eq : K → K → Bool) (meaning : Meaning K V T) (cache : CacheView T) (of : AreShardsOf cache.tag cache.shards) (pass : CachePassView K T) (shards : List ℕ) (after : CachePassView K T) (keys : List K) where
  named-out : (shard : ShardView T) (n : ℕ) → shard.tag.shard ≡ n → is_named shards n ≡ true → is_named shards shard.tag.shard ≡ true
  named-out shard n is named = subst (λ (m : ℕ). is_named shards m ≡ true) (sym is) named

  out-or-stopped : (n : ℕ) → IsTurnOut eq meaning cache pass shards after n → StopsBeforeAll eq meaning cache pass shards after keys → ⊥
  out-or-stopped zero out stops =
      out-once eq meaning shards cache.shards.first pass.first after.first (named-out cache.shards.first 0 of.first.number out.named) (out-here eq meaning shards cache.shards.first pass.first after.first 0 0 of.first.number out.first) stops.first.turn
  out-or-stopped (suc zero) out stops =
      out-once eq meaning shards cache.shards.second pass.second after.second (named-out cache.shards.second 1 of.second.number out.named) (out-here eq meaning shards cache.shards.second pass.second after.second 1 1 of.second.number out.second) stops.second.turn
  out-or-stopped (suc (suc zero)) out stops =
      out-once eq meaning shards cache.shards.third pass.third after.third (named-out cache.shards.third 2 of.third.number out.named) (out-here eq meaning shards cache.shards.third pass.third after.third 2 2 of.third.number out.third) stops.third.turn
  out-or-stopped (suc (suc (suc zero))) out stops =
      out-once eq meaning shards cache.shards.fourth pass.fourth after.fourth (named-out cache.shards.fourth 3 of.fourth.number out.named) (out-here eq meaning shards cache.shards.fourth pass.fourth after.fourth 3 3 of.fourth.number out.fourth) stops.fourth.turn
  out-or-stopped (suc (suc (suc (suc n)))) out stops = let below = out.below in absurd (omega (arith, below))

-- a key that is being made has no pins
unmade-pins : {V : Type 0} (o : Option (Status V)) (maker : ℕ) → maker_in o ≡ Some maker → ready_pins o ≡ None
unmade-pins None maker made = cc
unmade-pins (Some (Flying number)) maker made = refl
unmade-pins (Some (Ready pins cost value)) maker made = cc

module _ {K V T : Type 0} (eq : K → K → Bool) (laws : IsEquivalence eq) (same : (a b : K) → eq a b ≡ true → a ≡ b) (meaning : Meaning K V T) where
  unmade-shown : (cache : CacheView T) (p q : CachePassView K T) (keys : List K) (k : K) (maker : ℕ) → maker_shown eq meaning cache p keys q k ≡ Some maker → pins_shown eq meaning cache p keys q k ≡ None
  unmade-shown cache p q keys k maker made = unmade-pins (status_of eq (shown_state eq meaning (at cache.shards (shard_of (meaning.numbers k))) (at q (shard_of (meaning.numbers k)))) k) maker made

  pub refused_for_one_cause : RefusedForOneCause eq meaning
  refused_for_one_cause cache p q keys TurnOut TurnOut of a b r s = refl
  refused_for_one_cause cache p q keys TurnOut (NotReady j) of a b r s = absurd (out-or-stopped eq meaning cache of p (shards_of meaning keys) q (take j keys) r.0 r.1 s.1.0)
  refused_for_one_cause cache p q keys TurnOut (Making j) of a b r s = absurd (out-or-stopped eq meaning cache of p (shards_of meaning keys) q (take j keys) r.0 r.1 s.2.0)
  refused_for_one_cause cache p q keys TurnOut (PinsFull j) of a b r s = absurd (out-or-stopped eq meaning cache of p (shards_of meaning keys) q (take j keys) r.0 r.1 s.2.0)
  refused_for_one_cause cache p q keys (NotReady i) TurnOut of a b r s = absurd (out-or-stopped eq meaning cache of p (shards_of meaning keys) q (take i keys) s.0 s.1 r.1.0)
  refused_for_one_cause cache p q keys (NotReady i) (NotReady j) of a b r s = ap NotReady (one-place eq same laws meaning keys cache of p q i j r.0 s.0 (inl r.2) (inl s.2) r.1 s.1).0
  refused_for_one_cause cache p q keys (NotReady i) (Making j) of a b r s =
      let one = one-place eq same laws meaning keys cache of p q i j r.0 s.0 (inl r.2) (inl (unmade-shown cache p q keys s.0 s.1 s.3)) r.1 s.2 in
      let no = sym r.3 ∙ (ap (maker_shown eq meaning cache p keys q) one.1 ∙ s.3) in cc
  refused_for_one_cause cache p q keys (NotReady i) (PinsFull j) of a b r s =
      let one = one-place eq same laws meaning keys cache of p q i j r.0 s.0 (inl r.2) (inr (s.1, s.3, s.4)) r.1 s.2 in
      let no = sym r.2 ∙ (ap (pins_shown eq meaning cache p keys q) one.1 ∙ s.3) in cc
  refused_for_one_cause cache p q keys (Making i) TurnOut of a b r s = absurd (out-or-stopped eq meaning cache of p (shards_of meaning keys) q (take i keys) s.0 s.1 r.2.0)
  refused_for_one_cause cache p q keys (Making i) (NotReady j) of a b r s =
      let one = one-place eq same laws meaning keys cache of p q i j r.0 s.0 (inl (unmade-shown cache p q keys r.0 r.1 r.3)) (inl s.2) r.2 s.1 in
      let no = sym r.3 ∙ (ap (maker_shown eq meaning cache p keys q) one.1 ∙ s.3) in cc
  refused_for_one_cause cache p q keys (Making i) (Making j) of a b r s =
      ap Making (one-place eq same laws meaning keys cache of p q i j r.0 s.0 (inl (unmade-shown cache p q keys r.0 r.1 r.3)) (inl (unmade-shown cache p q keys s.0 s.1 s.3)) r.2 s.2).0
  refused_for_one_cause cache p q keys (Making i) (PinsFull j) of a b r s =
      let one = one-place eq same laws meaning keys cache of p q i j r.0 s.0 (inl (unmade-shown cache p q keys r.0 r.1 r.3)) (inr (s.1, s.3, s.4)) r.2 s.2 in
      let no = sym (unmade-shown cache p q keys r.0 r.1 r.3) ∙ (ap (pins_shown eq meaning cache p keys q) one.1 ∙ s.3) in cc
  refused_for_one_cause cache p q keys (PinsFull i) TurnOut of a b r s = absurd (out-or-stopped eq meaning cache of p (shards_of meaning keys) q (take i keys) s.0 s.1 r.2.0)
  refused_for_one_cause cache p q keys (PinsFull i) (NotReady j) of a b r s =
      let one = one-place eq same laws meaning keys cache of p q i j r.0 s.0 (inr (r.1, r.3, r.4)) (inl s.2) r.2 s.1 in
      let no = sym r.3 ∙ (ap (pins_shown eq meaning cache p keys q) one.1 ∙ s.2) in cc
  refused_for_one_cause cache p q keys (PinsFull i) (Making j) of a b r s =
      let one = one-place eq same laws meaning keys cache of p q i j r.0 s.0 (inr (r.1, r.3, r.4)) (inl (unmade-shown cache p q keys s.0 s.1 s.3)) r.2 s.2 in
      let no = sym r.3 ∙ (ap (pins_shown eq meaning cache p keys q) one.1 ∙ (unmade-shown cache p q keys s.0 s.1 s.3)) in cc
  refused_for_one_cause cache p q keys (PinsFull i) (PinsFull j) of a b r s = ap PinsFull (one-place eq same laws meaning keys cache of p q i j r.0 s.0 (inr (r.1, r.3, r.4)) (inr (s.1, s.3, s.4)) r.2 s.2).0
  refused_for_one_cause cache p q keys OutOfMemory other of a b r s = absurd (a refl)
  refused_for_one_cause cache p q keys one OutOfMemory of a b r s = absurd (b refl)
