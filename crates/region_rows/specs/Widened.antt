-- Public: a set of samples widened by an ellipse of samples.
use Rattle.std.specs.Prelude.{ℕ, zero, suc, ◌+◌, ◌*◌, ℤ, pos, negsuc, ◌+ℤ◌, Bool, ◌&&◌, ◌||◌, nat_le, unsigned_abs}

-- some whole number whose size is at most n passes
unfoldable pub some_within : ℕ → (ℤ → Bool) → Bool
some_within zero passes = passes (pos 0)
some_within (suc n) passes = passes (pos (suc n)) || passes (negsuc n) || some_within n passes

abbrev pub square : ℕ → ℕ
square n = n * n

-- a samples across and b rows down from its middle lies within the ellipse of the radii rx and ry
abbrev pub in_ellipse : ℕ → ℕ → ℤ → ℤ → Bool
in_ellipse rx ry a b =
    nat_le (unsigned_abs a) rx && nat_le (unsigned_abs b) ry
    && nat_le (square (unsigned_abs a) * square ry + square (unsigned_abs b) * square rx) (square rx * square ry)

-- Some sample that the test passes lies within the ellipse around sample i of row j. A region's test is `member` of its top and its rows.
unfoldable pub in_widened : (ℤ → ℤ → Bool) → ℕ → ℕ → ℤ → ℤ → Bool
in_widened has rx ry i j = some_within ry (λ b. some_within rx (λ a. in_ellipse rx ry a b && has (i +ℤ a) (j +ℤ b)))
