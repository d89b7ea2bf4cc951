-- The pin law.
use Rattle.std.proofs.Common.{◌≡◌, ℕ, zero, suc, ◌+◌, ◌<◌, ◌≤◌, Bool, true, false, cond, not, ◌==◌, List, [], ◌∷◌, ◌++◌, Option, Some, None, is_some, inl, inr, refl, sym, ap, ◌∙◌, subst, true≢false, arith}
use Rattle.std.specs.Cmp.{IsEquivalence}
use Rattle.std.proofs.lemmas.Bool.{eqb-true, eq-eqb, and_parts, cases_eq}
use Rattle.std.proofs.lemmas.List.Elements.{All-nil, All-cons}
use Rattle.turn_cell.specs.History.{History, IsBelow, entries_of}
use Rattle.turn_cell.proofs.Histories.{IsPrefix-append, IsBelow_prefix, All_last}
use Rattle.evict_core.specs.Machine.{State, Hit, Claim, Crowded, Step, Ask, PinAll, Fill, Fail, Spill, Unpin, Limits, Hard, pins_in, maker_in, status_of, state_after}
use Rattle.evict_core.specs.History.{opening, replay, one_if, times_named, pins_taken, pins_given, takes, gives, pins_held, held_below, MayFollow, IsLegal, is_open_after, is_pending}
use Rattle.evict_core.specs.Laws.{FliesWherePending, PinsAreHeld, HeldArePins, GivenWereTaken, HeldIsKept}
use Rattle.evict_core.proofs.StateLemmas.{IsSound, sound-after}
use Rattle.evict_core.proofs.HistoryLemmas.{replay-append, by-steps, taken-more, given-more, open-more}
use Rattle.evict_core.proofs.PinLemmas.{makes, pins-after, makes-after}

makes-some : (m : ℕ) (o : Option ℕ) → o ≡ Some m → makes m o ≡ true
makes-some m None h = cc
makes-some m (Some n) h = eq-eqb n m cc

some-makes : (m : ℕ) (o : Option ℕ) → makes m o ≡ true → o ≡ Some m
some-makes m None h = cc
some-makes m (Some n) h = ap Some (eqb-true n m h)

module _ {K : Type 0} (eq : K → K → Bool) (laws : IsEquivalence eq) where
  places-congr : (a b : K) → eq a b ≡ true → (ks : List K) → times_named eq a ks ≡ times_named eq b ks
  places-congr a b same [] = refl
  places-congr a b same (k ∷ ks) = rw (laws.congr a b k same, places-congr a b same ks)

module _ {K V : Type 0} (eq : K → K → Bool) (laws : IsEquivalence eq) where
  takes-congr : (a b : K) → eq a b ≡ true → (step : Step K V) → takes eq a step ≡ takes eq b step
  takes-congr a b same (Ask k Hit) = ap one_if (laws.congr a b k same)
  takes-congr a b same (Ask k Claim) = refl
  takes-congr a b same (Ask k Crowded) = refl
  takes-congr a b same (PinAll ks) = places-congr eq laws a b same ks
  takes-congr a b same (Fill k cost value) = ap one_if (laws.congr a b k same)
  takes-congr a b same (Fail k) = refl
  takes-congr a b same (Spill k cost) = refl
  takes-congr a b same (Unpin k) = refl
  takes-congr a b same (Limits entries budget) = refl
  takes-congr a b same (Hard hard) = refl

  gives-congr : (a b : K) → eq a b ≡ true → (step : Step K V) → gives eq a step ≡ gives eq b step
  gives-congr a b same (Unpin k) = ap one_if (laws.congr a b k same)
  gives-congr a b same (Ask k answer) = refl
  gives-congr a b same (PinAll ks) = refl
  gives-congr a b same (Fill k cost value) = refl
  gives-congr a b same (Fail k) = refl
  gives-congr a b same (Spill k cost) = refl
  gives-congr a b same (Limits entries budget) = refl
  gives-congr a b same (Hard hard) = refl

  held-congr : (a b : K) → eq a b ≡ true → (steps : List (Step K V)) → (pins_taken eq steps a ≡ pins_taken eq steps b) × (pins_given eq steps a ≡ pins_given eq steps b)
  held-congr a b same [] = (refl, refl)
  held-congr a b same (step ∷ steps) = let rest = held-congr a b same steps in
      (rw (takes-congr a b same step, rest.0), rw (gives-congr a b same step, rest.1))

  -- a step gives back no more than its number holds
  gives-held : (s : State K V) (h : History (Step K V)) (m : ℕ) (step : Step K V) (limit budget : ℕ) → MayFollow eq limit budget h (m, step) → (q : K) → gives eq q step ≤ pins_held eq h m q
  gives-held s h m (Unpin k) limit budget follows q = (elim (eq q k) as (λ b. eq q k ≡ b → one_if b ≤ pins_held eq h m q) [
    | true ↦ λ t. let same = held-congr q k t (entries_of m h) in omega (arith, follows, same.0, same.1)
    | false ↦ λ t. omega arith
  ]) refl
  gives-held s h m (Ask k answer) limit budget follows q = omega arith
  gives-held s h m (PinAll ks) limit budget follows q = omega arith
  gives-held s h m (Fill k cost value) limit budget follows q = omega arith
  gives-held s h m (Fail k) limit budget follows q = omega arith
  gives-held s h m (Spill k cost) limit budget follows q = omega arith
  gives-held s h m (Limits entries budget') limit budget follows q = omega arith
  gives-held s h m (Hard hard) limit budget follows q = omega arith

  module _ (h : History (Step K V)) (e : ℕ × Step K V) (q : K) where
    held-other : (m : ℕ) → (e.0 ≡ m → ⊥) → pins_held eq (h ++ e ∷ []) m q ≡ pins_held eq h m q
    held-other m other = (elim (e.0 == m) as (λ b. (e.0 == m) ≡ b → pins_held eq (h ++ e ∷ []) m q ≡ pins_held eq h m q) [
      | true ↦ λ t. absurd (other (eqb-true e.0 m t))
      | false ↦ λ t. let here = rw t at (taken-more eq h e m q) in let there = rw t at (given-more eq h e m q) in omega (arith, here, there)
    ]) refl

    held-own : pins_given eq (entries_of e.0 h) q ≤ pins_taken eq (entries_of e.0 h) q → gives eq q e.1 ≤ pins_held eq h e.0 q → pins_held eq (h ++ e ∷ []) e.0 q + gives eq q e.1 ≡ pins_held eq h e.0 q + takes eq q e.1
    held-own fewer back = let t = eq-eqb e.0 e.0 refl in let here = rw t at (taken-more eq h e e.0 q) in let there = rw t at (given-more eq h e e.0 q) in omega (arith, here, there, fewer, back)

    below-other : (n : ℕ) → n ≤ e.0 → held_below eq (h ++ e ∷ []) n q ≡ held_below eq h n q
    below-other zero above = refl
    below-other (suc n) above = omega (arith, below-other n (omega arith), held-other n (λ (same : e.0 ≡ n). omega arith))

    below-own : (n : ℕ) → e.0 < n → pins_given eq (entries_of e.0 h) q ≤ pins_taken eq (entries_of e.0 h) q → gives eq q e.1 ≤ pins_held eq h e.0 q → held_below eq (h ++ e ∷ []) n q + gives eq q e.1 ≡ held_below eq h n q + takes eq q e.1
    below-own zero below fewer back = absurd (omega arith)
    below-own (suc n) below fewer back = elim (cases_eq e.0 n) [
      | inl same ↦ let own = subst (λ (m : ℕ). pins_held eq (h ++ e ∷ []) m q + gives eq q e.1 ≡ pins_held eq h m q + takes eq q e.1) same (held-own fewer back) in
          omega (arith, below-other n (omega arith), own)
      | inr other ↦ omega (arith, below-own n (omega arith) fewer back, held-other n other)
    ]

  held-within : (h : History (Step K V)) (q : K) (n m : ℕ) → m < n → pins_held eq h m q ≤ held_below eq h n q
  held-within h q zero m below = absurd (omega arith)
  held-within h q (suc n) m below = elim (cases_eq m n) [
    | inl same ↦ let own = subst (λ (j : ℕ). pins_held eq h m q ≡ pins_held eq h j q) same refl in omega (arith, own)
    | inr other ↦ omega (arith, held-within h q n m (omega arith))
  ]

  numbers-front : (n : ℕ) (h : History (Step K V)) (e : ℕ × Step K V) → IsBelow n (h ++ e ∷ []) → IsBelow n h × (e.0 < n)
  numbers-front n h e below = (IsBelow_prefix n h (h ++ e ∷ []) (IsPrefix-append h (e ∷ [])) below, All_last (λ (pair : ℕ × Step K V). pair.0 < n) h e below)

  top : History (Step K V) → ℕ
  top [] = 0
  top (e ∷ h) = suc e.0 + top h

  below-top : (h : History (Step K V)) (n : ℕ) → top h ≤ n → IsBelow n h
  unfolding top
  below-top [] n above = All-nil (λ (pair : ℕ × Step K V). pair.0 < n)
  below-top (e ∷ h) n above = All-cons (λ (pair : ℕ × Step K V). pair.0 < n) e h (omega arith) (below-top h n (omega arith))

  -- what holds after a legal history, of the pins and of who makes what
  record Ties (limit budget : ℕ) (h : History (Step K V)) : Type 0 where
    sound : IsSound eq (replay eq limit budget h)
    pins : (n : ℕ) → IsBelow n h → (q : K) → pins_in (status_of eq (replay eq limit budget h) q) ≡ held_below eq h n q
    fewer : (m : ℕ) (q : K) → pins_given eq (entries_of m h) q ≤ pins_taken eq (entries_of m h) q
    making : (m : ℕ) (q : K) → makes m (maker_in (status_of eq (replay eq limit budget h) q)) ≡ is_pending eq h m q

  no-holder : (h : History (Step K V)) (n : ℕ) (q : K) → h ≡ [] → 0 ≡ held_below eq h n q
  no-holder h zero q none = refl
  no-holder h (suc n) q none = let nothing : pins_held eq h n q ≡ 0 = ap (λ (l : History (Step K V)). pins_held eq l n q) none in omega (arith, no-holder h n q none, nothing)

  module _ (limit budget : ℕ) where
    ties-step : (h : History (Step K V)) (e : ℕ × Step K V) → MayFollow eq limit budget h e → Ties limit budget h → Ties limit budget (h ++ e ∷ [])
    ties-step h e follows ties =
        let s = replay eq limit budget h in
        let next : replay eq limit budget (h ++ e ∷ []) ≡ state_after eq s e.0 e.1 = replay-append eq h (e ∷ []) (opening limit budget) in
        let back = gives-held s h e.0 e.1 limit budget follows in
        record {
          sound = subst (IsSound eq) (sym next) (sound-after eq laws s (pins_held eq h e.0) e.0 e.1 ties.sound follows);
          pins = λ n below q.
              let parts = numbers-front n h e below in
              let some : (k : K) → pins_held eq h e.0 k ≤ pins_in (status_of eq s k) = λ k. subst (λ (p : ℕ). pins_held eq h e.0 k ≤ p) (sym (ties.pins n parts.0 k)) (held-within h k n e.0 parts.1) in
              rw next (omega (arith, pins-after eq laws s (pins_held eq h e.0) e.0 e.1 ties.sound follows some q, ties.pins n parts.0 q, below-own h e q n parts.1 (ties.fewer e.0 q) (back q)));
          fewer = λ m q. (elim (e.0 == m) as (λ b. (e.0 == m) ≡ b → pins_given eq (entries_of m (h ++ e ∷ [])) q ≤ pins_taken eq (entries_of m (h ++ e ∷ [])) q) [
            | true ↦ λ t. let same = eqb-true e.0 m t in
                let here = rw t at (taken-more eq h e m q) in let there = rw t at (given-more eq h e m q) in
                let own = subst (λ (j : ℕ). gives eq q e.1 ≤ pins_held eq h j q) same (back q) in
                omega (arith, here, there, own, ties.fewer m q)
            | false ↦ λ t. let here = rw t at (taken-more eq h e m q) in let there = rw t at (given-more eq h e m q) in omega (arith, here, there, ties.fewer m q)
          ]) refl;
          making = λ m q. rw (next, open-more eq h e m q)
              (makes-after eq laws s (pins_held eq h e.0) e.0 e.1 ties.sound follows q m ∙ ap (λ (b : Bool). cond (e.0 == m) (is_open_after eq e.1 q b) b) (ties.making m q));
        }

    ties : (h : History (Step K V)) → IsLegal eq limit budget h → Ties limit budget h
    ties h legal = by-steps eq limit budget (Ties limit budget)
        (record { sound = record { apart = tt; in_budget = omega arith; in_limit = λ _. refl }; pins = λ n _ q. no-holder [] n q refl; fewer = λ m q. omega arith; making = λ m q. refl })
        ties-step h legal

  pub flies-where-pending : FliesWherePending V eq
  flies-where-pending limit budget h legal m k =
      let tied = (ties limit budget h legal).making m k in
      (λ flies. sym tied ∙ makes-some m _ flies, λ pending. some-makes m _ (tied ∙ pending))

  pub pins-are-held : PinsAreHeld V eq
  pins-are-held limit budget h legal n below k = (ties limit budget h legal).pins n below k

  pub held-are-pins : HeldArePins V eq
  held-are-pins limit budget h legal m k =
      let n = top h + suc m in
      omega (arith, (ties limit budget h legal).pins n (below-top h n (omega arith)) k, held-within h k n m (omega arith))

  pub given-were-taken : GivenWereTaken V eq
  given-were-taken limit budget h legal m k = (ties limit budget h legal).fewer m k

  gone : (o : Option _) → not (is_some o) ≡ true → pins_in {V = V} o ≡ 0
  gone None h = refl
  gone (Some st) h = absurd (true≢false (sym h))

  pub held-is-kept : HeldIsKept V eq
  held-is-kept limit budget h e legal k evicted m =
      let g = h ++ e ∷ [] in
      let n = top g + suc m in
      let next : replay eq limit budget g ≡ state_after eq (replay eq limit budget h) e.0 e.1 = replay-append eq h (e ∷ []) (opening limit budget) in
      let after-none : not (is_some (status_of eq (state_after eq (replay eq limit budget h) e.0 e.1) k)) ≡ true = (and_parts _ _ (and_parts _ _ evicted).0).1 in
      let pins = (ties limit budget g legal).pins n (below-top g n (omega arith)) k in
      let none : pins_in (status_of eq (state_after eq (replay eq limit budget h) e.0 e.1) k) ≡ 0 = gone _ after-none in
      let within = held-within g k n m (omega arith) in
      omega (arith, rw next at pins, none, within)
