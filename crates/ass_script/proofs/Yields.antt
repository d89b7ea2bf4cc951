-- One turn of a loop over an iterator that gives a list.
use Rattle.std.proofs.Common.{◌≡◌, List, [], ◌∷◌, ◌++◌, Option, Some, None, sym, ap, ◌∙◌, subst, append_assoc}
use Rattle.std.specs.Iterator.{AlwaysYields}

-- What is still to come, and what it does.
pub record Left {S A B : Type 0} (steps : S → Option A → S → Type 0) (v : A → B) (s : S) (Does : List B → Type 0) : Type 0 where
  pub rest : List B
  pub yields : AlwaysYields steps v s rest
  pub does : Does rest

module _ {S A B : Type 0} (steps : S → Option A → S → Type 0) (v : A → B) (Does : List B → Type 0) where
  -- an item comes
  pub next_left : (Then : List B → Type 0) (s t : S) (x : A) → ((rest : List B) → Does (v x ∷ rest) → Then rest) → Left steps v s Does → steps s (Some x) t → Left steps v t Then
  next_left Then s t x on left step = cases left.rest left.yields left.does
    where
      cases : (ys : List B) → AlwaysYields steps v s ys → Does ys → Left steps v t Then
      cases [] yields does = absurd (yields x t step)
      cases (y ∷ ys) yields does =
          let m = yields.1 x t step in
          record { rest = ys; yields = m.1; does = on ys (subst (λ (z : B). Does (z ∷ ys)) (sym m.0) does) }

  -- no item comes
  pub none_left : (s t : S) → Left steps v s Does → steps s None t → Does []
  none_left s t left step = cases left.rest left.yields left.does
    where
      cases : (ys : List B) → AlwaysYields steps v s ys → Does ys → Does []
      cases [] yields does = does
      cases (y ∷ ys) yields does = absurd (yields.0 t step)

-- an item that was pushed and those that are still to come
pub pushed : {X : Type 0} (old new more wanted : List X) (x : X) → new ≡ old ++ x ∷ [] → old ++ (x ∷ more) ≡ wanted → new ++ more ≡ wanted
pushed old new more wanted x push left = ap (λ xs. xs ++ more) push ∙ (append_assoc old (x ∷ []) more ∙ left)
