-- Planes that are added sample by sample.
use Rattle.std.proofs.Common.{◌≡◌, ℕ, ◌+◌, ◌-◌, ◌*◌, ◌<◌, ◌≤◌, List, [], ◌∷◌, ◌++◌, map, sym, ap, ◌∙◌, append_assoc, arith}
use Rattle.std.proofs.Math.Nat.{mul-le-mul_left}
use Rattle.std.specs.Int.{div_ceil}
use Rattle.std.specs.List.{range_with_len}
use Rattle.std.proofs.lemmas.List.FromFn.{map-range_with_len_more}

-- one sample more
pub plane-more : (f : ℕ → ℕ) (k x : ℕ) (old mid : List ℕ) → mid ≡ old ++ map f (range_with_len 0 k) → x ≡ f k → mid ++ x ∷ [] ≡ old ++ map f (range_with_len 0 (k + 1))
plane-more f k x old mid is same =
    ap (λ (s : List ℕ). s ++ x ∷ []) is ∙ (append_assoc old (map f (range_with_len 0 k)) (x ∷ [])
    ∙ (ap (λ (y : ℕ). old ++ (map f (range_with_len 0 k) ++ y ∷ [])) same ∙ ap (λ (s : List ℕ). old ++ s) (sym (map-range_with_len_more f 0 k k (omega arith)))))

-- a pixel of the picture
pub near-fits : (w h row column n : ℕ) → 0 < w → 0 < h → row ≤ h - 1 → column ≤ w - 1 → n ≡ 3 * (w * h) → 3 * (w * row + column) + 3 ≤ n
near-fits w h row column n wide high p q is =
    let rows : w * (row + 1) ≤ w * h = mul-le-mul_left w (let less : row + 1 ≤ h = omega arith in less) in
    omega arith

-- where there is a block, there is a column or a row, and one of that number
pub side-below : (n i : ℕ) → i < div_ceil n 2 → i < n
side-below n i less = omega (arith, less)
