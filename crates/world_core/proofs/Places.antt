-- Where an actor's i-th stands, as far as a walk has come.
use Rattle.std.proofs.Common.{◌≡◌, ℕ, suc, ◌+◌, ◌-◌, ◌<◌, cond, ◌&&◌, ◌==◌, List, [], ◌∷◌, length, get_or, drop, Option, Some, None, option_map, refl, sym, ap, ◌∙◌, zero-add, add-one, drop-cons, arith}
use Rattle.std.proofs.lemmas.Bool.{eq-eqb, ne_eqb}
use Rattle.evict_core.specs.History.{one_if}
use Rattle.world_core.specs.declared.holding.Holding.{Holding}
use Rattle.world_core.specs.Holdings.{holding_place}

module _ {K : Type 0} (actor : ℕ) (list : List (Holding K)) where
  -- `left` of the actor's are to be passed from the place `at` on
  abbrev pub IsLeft : ℕ → ℕ → ℕ → Type 0
  IsLeft i left at = holding_place actor i list ≡ option_map (λ p. at + p) (holding_place actor left (drop at list))

  pub left-first : (i : ℕ) → IsLeft i i 0
  left-first i = by (holding_place actor i list)
    where
      by : (o : Option ℕ) → o ≡ option_map (λ p. 0 + p) o
      by None = refl
      by (Some p) = ap Some (sym (zero-add p))

  pub left-none : (i left at : ℕ) → drop at list ≡ [] → IsLeft i left at → holding_place actor i list ≡ None
  left-none i left at past before = before ∙ ap (λ (l : List (Holding K)). option_map (λ p. at + p) (holding_place actor left l)) past

  module _ (i left at : ℕ) (h : Holding K) (below : at < length list) (is : h ≡ get_or list at h) (before : IsLeft i left at) where
    front : drop at list ≡ h ∷ drop (at + 1) list
    front = drop-cons list at h below ∙ (ap (λ (x : Holding K). x ∷ drop (suc at) list) (sym is) ∙ ap (λ (n : ℕ). h ∷ drop n list) (sym (add-one at)))

    next : holding_place actor left (drop at list) ≡ cond ((h.actor == actor) && (left == 0)) (Some 0) (option_map suc (holding_place actor (left - one_if (h.actor == actor)) (drop (at + 1) list)))
    next = ap (holding_place actor left) front

    shift : (o : Option ℕ) → option_map (λ p. at + p) (option_map suc o) ≡ option_map (λ p. (at + 1) + p) o
    shift None = refl
    shift (Some p) = ap Some (omega arith)

    pub left-found : h.actor ≡ actor → left ≡ 0 → holding_place actor i list ≡ Some at
    left-found own none =
        let here : holding_place actor left (drop at list) ≡ Some 0 = next ∙ rw (eq-eqb h.actor actor own, eq-eqb left 0 none) refl in
        let at-here : at + 0 ≡ at = omega arith in
        before ∙ (ap (option_map (λ p. at + p)) here ∙ ap Some at-here)

    pub left-own : h.actor ≡ actor → (left ≡ 0 → ⊥) → IsLeft i (left - 1) (at + 1)
    left-own own some =
        let there : holding_place actor left (drop at list) ≡ option_map suc (holding_place actor (left - 1) (drop (at + 1) list)) = next ∙ rw (eq-eqb h.actor actor own, ne_eqb left 0 some) refl in
        before ∙ (ap (option_map (λ p. at + p)) there ∙ shift (holding_place actor (left - 1) (drop (at + 1) list)))

    pub left-other : (h.actor ≡ actor → ⊥) → IsLeft i left (at + 1)
    left-other other =
        let same : left - 0 ≡ left = omega arith in
        let there : holding_place actor left (drop at list) ≡ option_map suc (holding_place actor (left - 0) (drop (at + 1) list)) = next ∙ rw (ne_eqb h.actor actor other) refl in
        before ∙ (ap (option_map (λ p. at + p)) (there ∙ ap (λ (n : ℕ). option_map suc (holding_place actor n (drop (at + 1) list))) same) ∙ shift (holding_place actor left (drop (at + 1) list)))
