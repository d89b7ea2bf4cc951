-- Sums over workers.
use Rattle.std.proofs.Common.{◌≡◌, ℕ, zero, suc, ◌+◌, List, [], ◌∷◌, length, sum_by, refl, ap, arith, add-one}
use Rattle.std.specs.List.{slice_index_or}
use Rattle.std.proofs.lemmas.List.Sums.{sum_by-cons}
use Rattle.play_model.specs.Interleavings.{sum_below}

pub one_below_more : (n : ℕ) (f : ℕ → ℕ) → sum_below (n + 1) f ≡ sum_below n f + f n
one_below_more n f = ap (λ (z : ℕ). sum_below z f) (add-one n)

pub from_below : (n : ℕ) (f : ℕ → ℕ) → sum_below (suc n) f ≡ f 0 + sum_below n (λ i. f (suc i))
from_below zero f = omega arith
from_below (suc n) f = let rest = from_below n f in omega (arith, rest)

pub sum_by_place : {X : Type 0} (g : X → ℕ) (xs : List X) (d : X) → sum_by g xs ≡ sum_below (length xs) (λ i. g (slice_index_or xs i d))
sum_by_place g [] d = refl
sum_by_place g (x ∷ xs) d =
    let rest = sum_by_place g xs d in
    let one : sum_by g (x ∷ xs) ≡ g x + sum_by g xs = sum_by-cons g x xs in
    let first : sum_below (length (x ∷ xs)) (λ i. g (slice_index_or (x ∷ xs) i d)) ≡ g x + sum_below (length xs) (λ i. g (slice_index_or xs i d)) =
    from_below (length xs) (λ i. g (slice_index_or (x ∷ xs) i d)) in omega (arith, rest, one, first)
