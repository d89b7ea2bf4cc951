-- Pens, pixels, phases and sweeps that are moved by whole pixels.
use Rattle.std.proofs.Common.{◌≡◌, refl, sym, ap, ap₂, ◌∙◌, ℕ, ◌≤◌, true, ℤ, pos, negsuc, neg_ℤ, ◌+ℤ◌, ◌-ℤ◌, ◌*ℤ◌, ◌≤ℤ◌, ◌<ℤ◌, int_le, int_lt, subst, arith}
use Rattle.std.proofs.lemmas.Bool.{and_parts}
use Rattle.std.proofs.lemmas.Int.{ints, clamps}
use Rattle.ass_num.proofs.Floor.{floor_div-above, floor_div-add_mul, floor_div-below}
use Rattle.ass_num.proofs.OrderLemmas.{le_is, lt_is}
use Rattle.ass_num.specs.Floor.{floor_div, held}
use Rattle.ass_num.specs.Limits.{IsFrameSize, max_frame_side}
use Rattle.ass_num.specs.declared.geometry.Point.{Point}
use Rattle.ass_num.specs.declared.size.Size.{Size}
use Rattle.draw_numbers.specs.Limits.{max_pen, max_reach, sample}
use Rattle.draw_numbers.specs.Pens.{held_pen, is_near_frame, pen_of, phase_of, pixel_of, point_difference, point_sum, reaches, spot_at, spot_of, turned_about}
use Rattle.draw_numbers.specs.declared.pens.Spot.{Spot}
use Rattle.draw_numbers.specs.declared.widths.Offsets.{Offsets}
use Rattle.outline_points.specs.Placing.{turned_point}

-- so many columns and rows, as a length
abbrev pub whole_step : ℤ → ℤ → Point
whole_step columns rows = record { x = pos 64 *ℤ columns; y = pos 64 *ℤ rows }

pub same_point : (a b c d : ℤ) → a ≡ b → c ≡ d → (let p : Point = record { x = a; y = c } in p) ≡ record { x = b; y = d }
same_point a b c d e f = ap₂ (λ (x y : ℤ). let p : Point = record { x = x; y = y } in p) e f

-- ---- turning

same_gap : (by p o : Point) → point_difference (point_sum p by) (point_sum o by) ≡ point_difference p o
same_gap by p o = same_point _ _ _ _ (omega (arith, ints)) (omega (arith, ints))

moved_sum : (by p q : Point) → point_sum (point_sum p by) q ≡ point_sum (point_sum p q) by
moved_sum by p q = same_point _ _ _ _ (omega (arith, ints)) (omega (arith, ints))

-- What is turned about a point that is moved as much is turned and later moved.
pub turned_moved : (by o p : Point) (turn : ℤ) → turned_about (point_sum o by) turn (point_sum p by) ≡ point_sum (turned_about o turn p) by
turned_moved by o p turn =
    ap (λ (gap : Point). point_sum (point_sum o by) (turned_point turn gap)) (same_gap by p o) ∙ moved_sum by o (turned_point turn (point_difference p o))

-- ---- pens

-- the number of samples before it is held
abbrev free_pen : ℤ → ℤ → ℤ
free_pen units offset = floor_div units (pos sample) +ℤ offset

free_moved : (units offset n : ℤ) → free_pen (units +ℤ (pos 64 *ℤ n)) offset ≡ free_pen units offset +ℤ (pos 16 *ℤ n)
free_moved units offset n =
    let times : pos 64 *ℤ n ≡ (pos 16 *ℤ n) *ℤ pos 4 = omega (arith, ints) in
    let quotient : floor_div (units +ℤ (pos 64 *ℤ n)) (pos 4) ≡ floor_div units (pos 4) +ℤ (pos 16 *ℤ n) =
    ap (λ z. floor_div (units +ℤ z) (pos 4)) times ∙ floor_div-add_mul units (pos 16 *ℤ n) 4 (omega arith) in
    omega (arith, ints, quotient)

by_pixel : (side : ℕ) (z pen pixel : ℤ) → pen ≡ held (neg_ℤ (pos max_pen)) (pos max_pen) z → side ≤ 4096 → neg_ℤ (pos 8192) ≤ℤ pixel → pixel <ℤ (pos side +ℤ pos 8192)
    → (pixel *ℤ pos 16) ≤ℤ pen → pen <ℤ ((pixel *ℤ pos 16) +ℤ pos 16) → pen ≡ z
by_pixel side z pen pixel e small low high below above = omega (arith, ints, clamps)

-- Where a pixel isn't too far from the frame, its pen isn't held.
pub not_held : (side : ℕ) (z : ℤ) → side ≤ max_frame_side → reaches side (pixel_of (held (neg_ℤ (pos max_pen)) (pos max_pen) z)) ≡ true → held (neg_ℤ (pos max_pen)) (pos max_pen) z ≡ z
not_held side z small near =
    let pen = held (neg_ℤ (pos max_pen)) (pos max_pen) z in
    let parts = and_parts (int_le (neg_ℤ (pos max_reach)) (pixel_of pen)) (int_lt (pixel_of pen) (pos side +ℤ pos max_reach)) near in
    let low = le_is (neg_ℤ (pos max_reach)) (pixel_of pen) parts.0 in
    let high = lt_is (pixel_of pen) (pos side +ℤ pos max_reach) parts.1 in
    by_pixel side z pen (pixel_of pen) refl small low high (floor_div-below pen 16 (omega arith)) (floor_div-above pen 16 (omega arith))

-- ---- pixels and phases

pixel_moved : (pen n : ℤ) → pixel_of (pen +ℤ (pos 16 *ℤ n)) ≡ pixel_of pen +ℤ n
pixel_moved pen n =
    let times : pos 16 *ℤ n ≡ n *ℤ pos 16 = omega (arith, ints) in
    ap (λ z. floor_div (pen +ℤ z) (pos 16)) times ∙ floor_div-add_mul pen n 16 (omega arith)

-- A phase is what a pen lies behind its pixel's first sample.
pub phase_is : (pen : ℤ) → pos (phase_of pen) ≡ pen -ℤ (pos 16 *ℤ pixel_of pen)
phase_is (pos a) = omega (arith, ints)
phase_is (negsuc a) = omega (arith, ints)

phase_moved : (pen n : ℤ) → phase_of (pen +ℤ (pos 16 *ℤ n)) ≡ phase_of pen
phase_moved pen n =
    let there = phase_is (pen +ℤ (pos 16 *ℤ n)) in
    let here = phase_is pen in
    let pixels = pixel_moved pen n in
    omega (arith, ints, there, here, pixels)

-- ---- spots

-- The same phases, so many pixels farther.
pub record IsMovedSpot (columns rows : ℤ) (a b : Spot) : Type 0 where
  pub x : b.x ≡ a.x +ℤ columns
  pub y : b.y ≡ a.y +ℤ rows
  pub px : b.px ≡ a.px
  pub py : b.py ≡ a.py

record IsMovedPixel (n old new : ℤ) : Type 0 where
  pixel : pixel_of new ≡ pixel_of old +ℤ n
  phase : phase_of new ≡ phase_of old

held_moved : (side : ℕ) (units offset n : ℤ) → side ≤ max_frame_side → reaches side (pixel_of (held_pen units offset)) ≡ true
    → reaches side (pixel_of (held_pen (units +ℤ (pos 64 *ℤ n)) offset)) ≡ true → IsMovedPixel n (held_pen units offset) (held_pen (units +ℤ (pos 64 *ℤ n)) offset)
held_moved side units offset n small near later =
    let old : held_pen units offset ≡ free_pen units offset = not_held side (free_pen units offset) small near in
    let new : held_pen (units +ℤ (pos 64 *ℤ n)) offset ≡ held_pen units offset +ℤ (pos 16 *ℤ n) =
    not_held side (free_pen (units +ℤ (pos 64 *ℤ n)) offset) small later ∙ free_moved units offset n ∙ ap (λ z. z +ℤ (pos 16 *ℤ n)) (sym old) in
    record {
      pixel = ap pixel_of new ∙ pixel_moved (held_pen units offset) n;
      phase = ap phase_of new ∙ phase_moved (held_pen units offset) n;
    }

spot_moved_at : (size : Size) (offsets : Offsets) (columns rows : ℤ) (p q : Point) → IsFrameSize size → q ≡ point_sum p (whole_step columns rows)
    → is_near_frame size (spot_of (pen_of p offsets)) ≡ true → is_near_frame size (spot_of (pen_of q offsets)) ≡ true
    → IsMovedSpot columns rows (spot_of (pen_of p offsets)) (spot_of (pen_of q offsets))
spot_moved_at size offsets columns rows p q framed e near later =
    let moved = subst (λ (z : Point). is_near_frame size (spot_of (pen_of z offsets)) ≡ true) e later in
    let here = and_parts (reaches size.w (pixel_of (held_pen p.x offsets.x))) (reaches size.h (pixel_of (held_pen p.y offsets.y))) near in
    let there = and_parts (reaches size.w (pixel_of (held_pen (p.x +ℤ (pos 64 *ℤ columns)) offsets.x))) (reaches size.h (pixel_of (held_pen (p.y +ℤ (pos 64 *ℤ rows)) offsets.y))) moved in
    let across = held_moved size.w p.x offsets.x columns framed.wide here.0 there.0 in
    let down = held_moved size.h p.y offsets.y rows framed.high here.1 there.1 in
    subst (λ (z : Point). IsMovedSpot columns rows (spot_of (pen_of p offsets)) (spot_of (pen_of z offsets))) (sym e)
    (record { x = across.pixel; y = down.pixel; px = across.phase; py = down.phase })

pub spot_moved : (size : Size) (origin : Point) (angle : ℤ) (offsets : Offsets) (columns rows : ℤ) (pen : Point) → IsFrameSize size
    → is_near_frame size (spot_at origin angle pen offsets) ≡ true
    → is_near_frame size (spot_at (point_sum origin (whole_step columns rows)) angle (point_sum pen (whole_step columns rows)) offsets) ≡ true
    → IsMovedSpot columns rows (spot_at origin angle pen offsets)
    (spot_at (point_sum origin (whole_step columns rows)) angle (point_sum pen (whole_step columns rows)) offsets)
spot_moved size origin angle offsets columns rows pen framed near later =
    spot_moved_at size offsets columns rows (turned_about origin angle pen) (turned_about (point_sum origin (whole_step columns rows)) angle (point_sum pen (whole_step columns rows)))
    framed (turned_moved (whole_step columns rows) origin pen angle) near later
