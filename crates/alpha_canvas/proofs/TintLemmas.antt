-- Rectangles whose bounds a call is shown by their bits.
use Rattle.std.proofs.Common.{◌≡◌, ℤ, Bool, refl, ◌∙◌}
use Rattle.blend.specs.Blending.{in_rect}

pub in-rect-of : (r : Bool) (x1 y1 x2 y2 p1 q1 p2 q2 i j : ℤ) → r ≡ in_rect p1 q1 p2 q2 i j → p1 ≡ x1 → q1 ≡ y1 → p2 ≡ x2 → q2 ≡ y2 → r ≡ in_rect x1 y1 x2 y2 i j
in-rect-of r x1 y1 x2 y2 p1 q1 p2 q2 i j is a b c d = is ∙ rw (a, b, c, d) refl
