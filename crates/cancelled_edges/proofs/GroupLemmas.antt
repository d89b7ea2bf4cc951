-- Edges that stand together and cancel one another.
use Rattle.std.proofs.Common.{◌≡◌, ℕ, ◌+◌, ◌-◌, ◌<◌, ◌≤◌, inl, inr, cond, ltb, List, [], ◌∷◌, ◌++◌, suc, length, get_or, refl, sym, ap, ◌∙◌, arith, length-append}
use Rattle.std.proofs.lemmas.Bool.{cases_lt}
use Rattle.std.proofs.lemmas.Bool.Decides.{nat_tests}
use Rattle.std.proofs.lemmas.List.{get_or_append_left, get_or-append_right, get_or_at}
use Rattle.cancelled_edges.specs.Cancelling.{opposite}
use Rattle.cancelled_edges.specs.Edges.{way, HaveSameEnds, IsGrouped, HasNoOpposites}
use Rattle.cancelled_edges.specs.declared.edges.Edge.{Edge}

abbrev skip : ℕ → ℕ → ℕ
skip n i = cond (ltb i n) i (i + 2)

skip-mono : (n i j : ℕ) → i ≤ j → skip n i ≤ skip n j
skip-mono n i j order = grind (arith, nat_tests)

skip_within : (n m i : ℕ) → i < n + m → skip n i < n + (m + 2)
skip_within n m i within = grind (arith, nat_tests)

skip_low : (n i : ℕ) → i < n → skip n i ≡ i
skip_low n i low = grind (arith, nat_tests)

skip_high : (n i : ℕ) → n ≤ i → skip n i ≡ i + 2
skip_high n i high = grind (arith, nat_tests)

-- The list without two elements in its middle.
skipped : (xs : List Edge) (a b : Edge) (ys : List Edge) (i : ℕ) (d : Edge) → get_or (xs ++ ys) i d ≡ get_or (xs ++ a ∷ b ∷ ys) (skip (length xs) i) d
skipped xs a b ys i d =
    elim (cases_lt i (length xs)) [
      | inl low ↦
          get_or_append_left xs ys d i low ∙ sym (get_or_append_left xs (a ∷ b ∷ ys) d i low) ∙ ap (λ k. get_or (xs ++ a ∷ b ∷ ys) k d) (sym (skip_low (length xs) i low))
      | inr high ↦
          let later : length xs ≤ i + 2 = omega arith in
          let e : i + 2 - length xs ≡ suc (suc (i - length xs)) = omega arith in
          get_or-append_right xs ys (length xs) i d refl high
          ∙ sym (get_or-append_right xs (a ∷ b ∷ ys) (length xs) (i + 2) d refl later ∙ ap (λ k. get_or (a ∷ b ∷ ys) k d) e)
          ∙ ap (λ k. get_or (xs ++ a ∷ b ∷ ys) k d) (sym (skip_high (length xs) i high))
    ]

pub grouped_without : (xs : List Edge) (a b : Edge) (ys : List Edge) → IsGrouped (xs ++ a ∷ b ∷ ys) → IsGrouped (xs ++ ys)
grouped_without xs a b ys grouped i j k d first second within ends =
    let n = length xs in
    let long : length (xs ++ ys) ≡ n + length ys = length-append xs ys in
    let longer : length (xs ++ a ∷ b ∷ ys) ≡ n + (length ys + 2) = length-append xs (a ∷ b ∷ ys) ∙ ap (λ m. n + m) (omega arith) in
    let inside : skip n k < length (xs ++ a ∷ b ∷ ys) = let w = skip_within n (length ys) k (omega arith) in omega (arith, w) in
    let P : Edge → Edge → Type 0 = HaveSameEnds in
    let given : HaveSameEnds (get_or (xs ++ a ∷ b ∷ ys) (skip n i) d) (get_or (xs ++ a ∷ b ∷ ys) (skip n k) d) = rw (← skipped xs a b ys i d, ← skipped xs a b ys k d) ends in
    rw (skipped xs a b ys j d, skipped xs a b ys k d) (grouped (skip n i) (skip n j) (skip n k) d (skip-mono n i j first) (skip-mono n j k second) inside given)

-- An edge whose opposite is none of the last ones is the opposite of none.
clash : (es : List Edge) (e : Edge) (rest : List Edge) (i : ℕ) (d : Edge) → IsGrouped (es ++ e ∷ rest) → HasNoOpposites es → (way (get_or es (length es - 1) d) ≡ opposite (way e) → ⊥)
    → i < length es → way (get_or es i d) ≡ opposite (way e) → ⊥
clash es e rest i d grouped none last within is =
    let n = length es in
    let all = es ++ e ∷ rest in
    let end : n < length all = omega (arith, length-append es (e ∷ rest)) in
    let here : get_or all i d ≡ get_or es i d = get_or_append_left es (e ∷ rest) d i within in
    let final : get_or all (n - 1) d ≡ get_or es (n - 1) d = get_or_append_left es (e ∷ rest) d (n - 1) (omega arith) in
    let new : get_or all n d ≡ e = get_or_at es e rest d n refl in
    let start : HaveSameEnds (get_or all i d) (get_or all n d) = rw (here, new) (inr is) in
    let found : HaveSameEnds (get_or es (n - 1) d) e = rw (final, new) at (grouped i (n - 1) n d (omega arith) (omega arith) end start) in
    elim found [
      | inl same ↦ none i (n - 1) d within (omega arith) (is ∙ ap opposite (sym same))
      | inr other ↦ last other
    ]

pub no_opposites_push : (es : List Edge) (e : Edge) (rest : List Edge) → IsGrouped (es ++ e ∷ rest) → HasNoOpposites es → ((d : Edge) → 0 < length es → way (get_or es (length es - 1) d) ≡ opposite (way e) → ⊥)
    → (way e ≡ opposite (way e) → ⊥) → HasNoOpposites (es ++ e ∷ [])
no_opposites_push es e rest grouped none last loop i j d first second is =
    let n = length es in
    let long : length (es ++ e ∷ []) ≡ n + 1 = length-append es (e ∷ []) in
    let new : get_or (es ++ e ∷ []) n d ≡ e = get_or_at es e [] d n refl in
    elim (cases_lt i n) [
      | inl low ↦ elim (cases_lt j n) [
        | inl below ↦ none i j d low below (rw (get_or_append_left es (e ∷ []) d i low, get_or_append_left es (e ∷ []) d j below) at is)
        | inr at_end ↦
            let here : j ≡ n = omega arith in
            clash es e rest i d grouped none (last d (omega arith)) low (rw (get_or_append_left es (e ∷ []) d i low, here, new) at is)
      ]
      | inr at_end ↦
          let here : i ≡ n = omega arith in
          elim (cases_lt j n) [
            | inl below ↦ clash es e rest j d grouped none (last d (omega arith)) below (ap opposite (sym (rw (get_or_append_left es (e ∷ []) d j below, here, new) at is)))
            | inr final ↦ let there : j ≡ n = omega arith in loop (rw (here, there, new) at is)
          ]
    ]
