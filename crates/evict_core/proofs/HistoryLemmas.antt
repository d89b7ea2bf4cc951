-- Induction along a legal history, and what its state has after each step.
use Rattle.std.proofs.Common.{◌≡◌, ℕ, ◌+◌, Bool, true, false, cond, ◌==◌, List, [], ◌∷◌, ◌++◌, refl, sym, subst, append_assoc, append-nil, arith}
use Rattle.std.specs.Cmp.{IsEquivalence}
use Rattle.turn_cell.specs.History.{History, entries_of}
use Rattle.turn_cell.proofs.Histories.{entries_of-append}
use Rattle.evict_core.specs.Machine.{State, Step, state_after}
use Rattle.evict_core.specs.History.{opening, replay, replay_from, takes, gives, pins_taken, pins_given, pins_held, MayFollow, IsLegal, is_open_in, is_open_after, is_pending}
use Rattle.evict_core.proofs.StateLemmas.{IsSound, sound-after}

module _ {K V : Type 0} (eq : K → K → Bool) where
  pub replay-append : (g h : History (Step K V)) (s : State K V) → replay_from eq s (g ++ h) ≡ replay_from eq (replay_from eq s g) h
  replay-append [] h s = refl
  replay-append (e ∷ g) h s = replay-append g h (state_after eq s e.0 e.1)

  -- a fact that each step that may follow keeps holds after a legal history
  pub along : (limit budget : ℕ) (P : History (Step K V) → Type 0)
      → ((h : History (Step K V)) (e : ℕ × Step K V) → MayFollow eq limit budget h e → P h → P (h ++ e ∷ []))
      → (front back : History (Step K V)) → IsLegal eq limit budget (front ++ back) → P front → P (front ++ back)
  along limit budget P keeps front [] legal here = subst P (sym (append-nil front)) here
  along limit budget P keeps front (e ∷ back) legal here =
      let same : (front ++ e ∷ []) ++ back ≡ front ++ e ∷ back = append_assoc front (e ∷ []) back in
      subst P same (along limit budget P keeps (front ++ e ∷ []) back (subst (IsLegal eq limit budget) (sym same) legal) (keeps front e (legal front back e refl) here))

  pub by-steps : (limit budget : ℕ) (P : History (Step K V) → Type 0) → P []
      → ((h : History (Step K V)) (e : ℕ × Step K V) → MayFollow eq limit budget h e → P h → P (h ++ e ∷ []))
      → (h : History (Step K V)) → IsLegal eq limit budget h → P h
  by-steps limit budget P none keeps h legal = along limit budget P keeps [] h legal none

  pub taken-append : (xs ys : List (Step K V)) (k : K) → pins_taken eq (xs ++ ys) k ≡ pins_taken eq xs k + pins_taken eq ys k
  taken-append [] ys k = omega arith
  taken-append (x ∷ xs) ys k = omega (arith, taken-append xs ys k)

  pub given-append : (xs ys : List (Step K V)) (k : K) → pins_given eq (xs ++ ys) k ≡ pins_given eq xs k + pins_given eq ys k
  given-append [] ys k = omega arith
  given-append (x ∷ xs) ys k = omega (arith, given-append xs ys k)

  pub open-append : (was : Bool) (xs ys : List (Step K V)) (k : K) → is_open_in eq was (xs ++ ys) k ≡ is_open_in eq (is_open_in eq was xs k) ys k
  open-append was [] ys k = refl
  open-append was (x ∷ xs) ys k = open-append (is_open_after eq x k was) xs ys k

  -- the same of one entry more, which is m's or another's
  module _ (h : History (Step K V)) (e : ℕ × Step K V) (m : ℕ) (k : K) where
    pub taken-more : pins_taken eq (entries_of m (h ++ e ∷ [])) k ≡ pins_taken eq (entries_of m h) k + cond (e.0 == m) (takes eq k e.1) 0
    taken-more = rw (entries_of-append m h (e ∷ [])) (elim (e.0 == m) as (λ b. pins_taken eq (entries_of m h ++ cond b (e.1 ∷ []) []) k ≡ pins_taken eq (entries_of m h) k + cond b (takes eq k e.1) 0) [
      | true ↦ omega (arith, taken-append (entries_of m h) (e.1 ∷ []) k)
      | false ↦ omega (arith, taken-append (entries_of m h) [] k)
    ])

    pub given-more : pins_given eq (entries_of m (h ++ e ∷ [])) k ≡ pins_given eq (entries_of m h) k + cond (e.0 == m) (gives eq k e.1) 0
    given-more = rw (entries_of-append m h (e ∷ [])) (elim (e.0 == m) as (λ b. pins_given eq (entries_of m h ++ cond b (e.1 ∷ []) []) k ≡ pins_given eq (entries_of m h) k + cond b (gives eq k e.1) 0) [
      | true ↦ omega (arith, given-append (entries_of m h) (e.1 ∷ []) k)
      | false ↦ omega (arith, given-append (entries_of m h) [] k)
    ])

    pub open-more : is_pending eq (h ++ e ∷ []) m k ≡ cond (e.0 == m) (is_open_after eq e.1 k (is_pending eq h m k)) (is_pending eq h m k)
    open-more = rw (entries_of-append m h (e ∷ [])) (elim (e.0 == m) as (λ b. is_open_in eq false (entries_of m h ++ cond b (e.1 ∷ []) []) k ≡ cond b (is_open_after eq e.1 k (is_pending eq h m k)) (is_pending eq h m k)) [
      | true ↦ open-append false (entries_of m h) (e.1 ∷ []) k
      | false ↦ open-append false (entries_of m h) [] k
    ])

  module _ (laws : IsEquivalence eq) (limit budget : ℕ) where
    pub sound-replay : (h : History (Step K V)) → IsLegal eq limit budget h → IsSound eq (replay eq limit budget h)
    sound-replay = by-steps limit budget (λ h. IsSound eq (replay eq limit budget h))
        (record { apart = tt; in_budget = omega arith; in_limit = λ _. refl })
        (λ h e follows here. subst (IsSound eq) (sym (replay-append h (e ∷ []) (opening limit budget))) (sound-after eq laws (replay eq limit budget h) (pins_held eq h e.0) e.0 e.1 here follows))
