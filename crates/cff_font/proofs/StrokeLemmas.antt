-- Numbers that are too few for a stroke more.
use Rattle.std.proofs.Common.{◌≡◌, ◌<◌, ℤ, List, [], ◌∷◌, length, Bool, Some, refl, arith}
use Rattle.ass_num.specs.declared.geometry.Point.{Point}
use Rattle.cff_font.specs.Strokes.{stroke_lines, turning_lines, curves_of, even_curves, turning_curves, end_of_steps}

pub lines-short : (xs : List ℤ) → length xs < 2 → stroke_lines xs ≡ []
lines-short [] few = refl
lines-short (a ∷ []) few = refl
lines-short (a ∷ b ∷ xs) few = absurd (omega arith)

pub turning_lines-short : (is_level : Bool) (xs : List ℤ) → length xs < 1 → turning_lines is_level xs ≡ []
turning_lines-short is_level [] few = refl
turning_lines-short is_level (a ∷ xs) few = absurd (omega arith)

pub curves-short : (xs : List ℤ) → length xs < 6 → curves_of xs ≡ []
curves-short [] few = refl
curves-short (a ∷ []) few = refl
curves-short (a ∷ b ∷ []) few = refl
curves-short (a ∷ b ∷ c ∷ []) few = refl
curves-short (a ∷ b ∷ c ∷ d ∷ []) few = refl
curves-short (a ∷ b ∷ c ∷ d ∷ e ∷ []) few = refl
curves-short (a ∷ b ∷ c ∷ d ∷ e ∷ f ∷ xs) few = absurd (omega arith)

pub even-short : (is_level : Bool) (aside : ℤ) (xs : List ℤ) → length xs < 4 → even_curves is_level aside xs ≡ []
even-short is_level aside [] few = refl
even-short is_level aside (a ∷ []) few = refl
even-short is_level aside (a ∷ b ∷ []) few = refl
even-short is_level aside (a ∷ b ∷ c ∷ []) few = refl
even-short is_level aside (a ∷ b ∷ c ∷ d ∷ xs) few = absurd (omega arith)

pub turning-short : (is_level : Bool) (xs : List ℤ) → length xs < 4 → turning_curves is_level xs ≡ []
turning-short is_level [] few = refl
turning-short is_level (a ∷ []) few = refl
turning-short is_level (a ∷ b ∷ []) few = refl
turning-short is_level (a ∷ b ∷ c ∷ []) few = refl
turning-short is_level (a ∷ b ∷ c ∷ d ∷ xs) few = absurd (omega arith)

pub steps-short : (p : Point) (xs : List ℤ) → length xs < 2 → end_of_steps p xs ≡ Some p
steps-short p [] few = refl
steps-short p (a ∷ []) few = refl
steps-short p (a ∷ b ∷ xs) few = absurd (omega arith)
