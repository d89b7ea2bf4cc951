-- There is one best set, and one filling.
use Rattle.std.proofs.Common.{◌≡◌, ℕ, ℤ, ◌+◌, ◌≤◌, Bool, true, false, List, [], ◌∷◌, inl, inr, refl, sym, ap, subst, ◌∙◌, arith}
use Rattle.std.proofs.lemmas.Bool.{cases_lt}
use Rattle.std.proofs.lemmas.Int.{ints}
use Rattle.line_layout.specs.Breaks.{IsAtMost, IsTaken, IsNoWorse, IsBest, IsNextBreak, AreFilled}

-- two lists of which each is at most the other
same_list : (xs ys : List ℕ) → IsAtMost xs ys → IsAtMost ys xs → xs ≡ ys
same_list [] [] p q = refl
same_list [] (y ∷ ys) p q = absurd q
same_list (x ∷ xs) [] p q = absurd p
same_list (x ∷ xs) (y ∷ ys) (inl l) (inl m) = absurd (omega (arith, l, m))
same_list (x ∷ xs) (y ∷ ys) (inl l) (inr m) = absurd (let e = m.0 in omega (arith, l, e))
same_list (x ∷ xs) (y ∷ ys) (inr l) (inl m) = absurd (let e = l.0 in omega (arith, m, e))
same_list (x ∷ xs) (y ∷ ys) (inr l) (inr m) = ap (λ z. z ∷ xs) l.0 ∙ ap (λ zs. y ∷ zs) (same_list xs ys l.1 m.1)

same_taken : (greatest : Bool) (xs ys : List ℕ) → IsTaken greatest xs ys → IsTaken greatest ys xs → xs ≡ ys
same_taken true xs ys p q = same_list xs ys q p
same_taken false xs ys p q = same_list xs ys p q

no_worse : (ws : List ℤ) (greatest : Bool) (xs ys : List ℕ) → IsNoWorse ws greatest xs ys → IsNoWorse ws greatest ys xs → xs ≡ ys
no_worse ws greatest xs ys (inl l) (inl m) = absurd (omega (arith, l, m))
no_worse ws greatest xs ys (inl l) (inr m) = absurd (let e = m.0 in omega (arith, l, e))
no_worse ws greatest xs ys (inr l) (inl m) = absurd (let e = l.0 in omega (arith, m, e))
no_worse ws greatest xs ys (inr l) (inr m) =
    elim (l.1) [
      | inl n ↦ elim (m.1) [ inl o ↦ absurd (omega (arith, ints, n, o)) | inr o ↦ absurd (let e = o.0 in omega (arith, ints, n, e)) ]
      | inr n ↦ elim (m.1) [ inl o ↦ absurd (let e = n.0 in omega (arith, ints, o, e)) | inr o ↦ same_taken greatest xs ys n.1 o.1 ]
    ]

pub one_best : (ws : List ℤ) (s : List ℕ) (max : ℤ) (greatest : Bool) (xs ys : List ℕ) → IsBest ws s max greatest xs → IsBest ws s max greatest ys → xs ≡ ys
one_best ws s max greatest xs ys h k = no_worse ws greatest xs ys (h.best ys k.chosen k.fit) (k.best xs h.chosen h.fit)

-- a line is broken at one place
not_before : (ws : List ℤ) (s : List ℕ) (limit : ℤ) (from p q : ℕ) → IsNextBreak ws s limit from p → IsNextBreak ws s limit from q → q ≤ p
not_before ws s limit from p q h k =
    elim (h.broken) [
      | inl last ↦
          elim (k.broken) [
            | inl other ↦
                elim (cases_lt p q) [
                  | inl less ↦ let a = last.last q k.place less in let b = other.narrow in absurd (omega (arith, ints, a, b))
                  | inr fine ↦ fine
                ]
            | inr none ↦ (none p h.place h.onward).0
          ]
      | inr none ↦
          elim (k.broken) [
            | inl other ↦ let a = (none q k.place k.onward).1 in let b = other.narrow in absurd (omega (arith, ints, a, b))
            | inr others ↦ (others p h.place h.onward).0
          ]
    ]

pub one_filling : (ws : List ℤ) (s : List ℕ) (limit : ℤ) (from : ℕ) (xs ys : List ℕ) → AreFilled ws s limit from xs → AreFilled ws s limit from ys → xs ≡ ys
one_filling ws s limit from [] [] h k = refl
one_filling ws s limit from [] (y ∷ ys) h k = absurd (k.0.needed h)
one_filling ws s limit from (x ∷ xs) [] h k = absurd (h.0.needed k)
one_filling ws s limit from (x ∷ xs) (y ∷ ys) h k =
    let low = not_before ws s limit from x y h.0 k.0 in
    let high = not_before ws s limit from y x k.0 h.0 in
    let same : x ≡ y = omega (arith, low, high) in
    let rest : AreFilled ws s limit (x + 1) ys = subst (λ z. AreFilled ws s limit (z + 1) ys) (sym same) k.1 in
    ap (λ z. z ∷ xs) same ∙ ap (λ zs. y ∷ zs) (one_filling ws s limit (x + 1) xs ys h.1 rest)
