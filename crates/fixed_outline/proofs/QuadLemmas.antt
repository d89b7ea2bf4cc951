-- The rings of boxes and bitmaps, one after another.
use Rattle.std.proofs.Common.{◌≡◌, ℕ, Bool, true, false, if◌then◌else◌, ◌+ℤ◌, ◌-ℤ◌, neg_ℤ, List, [], ◌∷◌, ◌++◌, refl, sym, ap, ◌∙◌, append_assoc, ℤ, pos}
use Rattle.ass_num.specs.declared.geometry.Point.{Point}
use Rattle.ass_num.specs.declared.geometry.Matrix.{Matrix}
use Rattle.ass_num.specs.Bitmaps.{pixel_is_set}
use Rattle.outline_points.specs.Placing.{outline_point}
use Rattle.outline_points.specs.Boxes.{box_ring}
use Rattle.outline_points.specs.Glyphs.{Bitmap, pixel_quad, set_quads, pixel_quads}

pub box_same : (w h turn angle : ℤ) (a b c d : Point) → angle ≡ turn → a ≡ outline_point angle (record { x = pos 0; y = pos 0 }) → b ≡ outline_point angle (record { x = w; y = pos 0 })
    → c ≡ outline_point angle (record { x = w; y = h }) → d ≡ outline_point angle (record { x = pos 0; y = h }) → a ∷ b ∷ c ∷ d ∷ [] ≡ box_ring w h turn
box_same w h turn angle a b c d same p q r s = rw (p, q, r, s, same) refl

-- A set pixel of a bold glyph, and of another.
pub pixel_bold : (m : Matrix) (bold : Bool) (a b : ℤ) (rings first second : List (List Point)) → bold ≡ true → first ≡ rings ++ pixel_quad m a b ∷ [] → second ≡ first ++ pixel_quad m (a +ℤ pos 1) b ∷ [] → second ≡ rings ++ set_quads m bold a b
pixel_bold m bold a b rings first second is p q =
    q ∙ ap (λ rs. rs ++ pixel_quad m (a +ℤ pos 1) b ∷ []) p ∙ append_assoc rings (pixel_quad m a b ∷ []) (pixel_quad m (a +ℤ pos 1) b ∷ []) ∙ ap (λ t. rings ++ set_quads m t a b) (sym is)

pub pixel_plain : (m : Matrix) (bold : Bool) (a b : ℤ) (rings first : List (List Point)) → bold ≡ false → first ≡ rings ++ pixel_quad m a b ∷ [] → first ≡ rings ++ set_quads m bold a b
pixel_plain m bold a b rings first is p = p ∙ ap (λ t. rings ++ set_quads m t a b) (sym is)

pub place_set : (m : Matrix) (bold set : Bool) (bitmap : Bitmap) (i j : ℕ) (a b : ℤ) (rings new : List (List Point)) → set ≡ pixel_is_set bitmap.w bitmap.bits i j → set ≡ true → a ≡ bitmap.x +ℤ pos i → b ≡ neg_ℤ ((bitmap.y +ℤ pos bitmap.h) -ℤ pos j)
    → new ≡ rings ++ set_quads m bold a b → new ≡ rings ++ pixel_quads m bold bitmap j i
place_set m bold set bitmap i j a b rings new is drawn column row added =
    added ∙ ap (λ z. rings ++ set_quads m bold z b) column ∙ ap (λ z. rings ++ set_quads m bold (bitmap.x +ℤ pos i) z) row
    ∙ ap (λ t. rings ++ (if t then set_quads m bold (bitmap.x +ℤ pos i) (neg_ℤ ((bitmap.y +ℤ pos bitmap.h) -ℤ pos j)) else [])) (sym drawn ∙ is)
