-- Lists in which a relation holds of each element and each later one.
use Rattle.std.proofs.Common.{◌≡◌, List, [], ◌∷◌, ◌++◌, get_or, arith, ◌⊎◌, ⊎_elim, inl, inr}
use Rattle.std.specs.List.{All, Contains}
use Rattle.std.proofs.lemmas.List.Elements.{All-nil, All-cons, All-head, All-tail, All-append, Contains-append_left, Contains-append_right, Contains-append_cases, Contains-push, Contains-push_cases}
use Rattle.ass_events.specs.Histories.{Pairwise}

module _ {X : Type 0} where
  pub All-left : (P : X → Type 0) (xs ys : List X) → All P (xs ++ ys) → All P xs
  All-left P [] ys h = All-nil P
  All-left P (x ∷ xs) ys h = All-cons P x xs (All-head P x (xs ++ ys) h) (All-left P xs ys (All-tail P x (xs ++ ys) h))

  pub All-right : (P : X → Type 0) (xs ys : List X) → All P (xs ++ ys) → All P ys
  All-right P [] ys h = h
  All-right P (x ∷ xs) ys h = All-right P xs ys (All-tail P x (xs ++ ys) h)

  pub Contains-nil : (x : X) → Contains [] x → ⊥
  Contains-nil x h = omega (arith, h.1)

  pub Contains-head : (x : X) (xs : List X) → Contains (x ∷ xs) x
  Contains-head x xs = Contains-append_left (x ∷ []) xs x (Contains-push [] x)

  pub Contains-tail : (y : X) (xs : List X) (x : X) → Contains xs x → Contains (y ∷ xs) x
  Contains-tail y xs x h = Contains-append_right (y ∷ []) xs x h

  pub Contains-cons_cases : (y : X) (xs : List X) (x : X) → Contains (y ∷ xs) x → (y ≡ x) ⊎ Contains xs x
  Contains-cons_cases y xs x h =
      ⊎_elim (λ one. ⊎_elim (λ none. absurd (Contains-nil x none)) (λ is. inl is) (Contains-push_cases [] y x one)) (λ later. inr later)
      (Contains-append_cases (y ∷ []) xs x h)

module _ {X : Type 0} (R : X → X → Type 0) where
  pub Pairwise-append : (xs ys : List X) → Pairwise R xs → Pairwise R ys → All (λ a. All (R a) ys) xs → Pairwise R (xs ++ ys)
  Pairwise-append [] ys p q h = q
  Pairwise-append (x ∷ xs) ys p q h =
      (All-append (R x) xs ys p.0 (All-head (λ a. All (R a) ys) x xs h), Pairwise-append xs ys p.1 q (All-tail (λ a. All (R a) ys) x xs h))

  pub Pairwise-left : (xs ys : List X) → Pairwise R (xs ++ ys) → Pairwise R xs
  Pairwise-left [] ys p = tt
  Pairwise-left (x ∷ xs) ys p = (All-left (R x) xs ys p.0, Pairwise-left xs ys p.1)

  pub Pairwise-right : (xs ys : List X) → Pairwise R (xs ++ ys) → Pairwise R ys
  Pairwise-right [] ys p = p
  Pairwise-right (x ∷ xs) ys p = Pairwise-right xs ys p.1

  pub Pairwise-cross : (xs ys : List X) → Pairwise R (xs ++ ys) → All (λ a. All (R a) ys) xs
  Pairwise-cross [] ys p = All-nil (λ a. All (R a) ys)
  Pairwise-cross (x ∷ xs) ys p = All-cons (λ a. All (R a) ys) x xs (All-right (R x) xs ys p.0) (Pairwise-cross xs ys p.1)

  -- one more, behind all that stand before it and before all others
  pub Pairwise-insert : (xs : List X) (x : X) (ys : List X) → Pairwise R (xs ++ ys) → All (λ a. R a x) xs → All (R x) ys → Pairwise R (xs ++ x ∷ ys)
  Pairwise-insert xs x ys p before behind =
      Pairwise-append xs (x ∷ ys) (Pairwise-left xs ys p) (behind, Pairwise-right xs ys p)
      (λ k d lt. All-cons (R (get_or xs k d)) x ys (before k d lt) (Pairwise-cross xs ys p k d lt))

  pub Pairwise-push : (xs : List X) (x : X) → Pairwise R xs → All (λ a. R a x) xs → Pairwise R (xs ++ x ∷ [])
  Pairwise-push xs x p before = Pairwise-append xs (x ∷ []) p (All-nil (R x), tt) (λ k d lt. All-cons (R (get_or xs k d)) x [] (before k d lt) (All-nil (R (get_or xs k d))))

  pub Pairwise-weaker : (S : X → X → Type 0) → ((x y : X) → R x y → S x y) → (xs : List X) → Pairwise R xs → Pairwise S xs
  Pairwise-weaker S w [] p = tt
  Pairwise-weaker S w (x ∷ xs) p = (λ k d lt. w x (get_or xs k d) (p.0 k d lt), Pairwise-weaker S w xs p.1)
