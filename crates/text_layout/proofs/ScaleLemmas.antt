-- How far from 0 lengths of the frame lie.
use Rattle.std.proofs.Common.{ℕ, ◌*◌, ◌≤◌, ℤ, pos, ◌+ℤ◌, ◌*ℤ◌, FitsSigned, w64, arith}
use Rattle.std.proofs.lemmas.Int.{ints}
use Rattle.ass_num.specs.Floor.{floor_div}
use Rattle.ass_num.specs.Limits.{IsWithin, IsHeldLength, IsHeldNumber, max_frame_side, max_held, one_16}
use Rattle.ass_num.proofs.LimitLemmas.{IsWithin-wider}
use Rattle.frame_view.specs.FrameViews.{IsLayoutSide}
use Rattle.outline_points.proofs.Bounds.{scale_within, within_product, within_quotient}
use Rattle.outline_points.specs.Limits.{max_pixel, max_scale}
use Rattle.outline_points.specs.Placing.{IsScale}
use Rattle.text_layout.specs.Metrics.{scaled_pixels, spacing_of}
use Rattle.text_layout.specs.Limits.{max_dividend, max_factor, max_framed, max_script_length}
use Rattle.text_layout.specs.Scales.{framed, pixel, whole_milli, whole_per_cent}
use mir.Syntax.{w128}

pub factor_within : (n limit : ℕ) → n ≤ limit → IsWithin limit (pos n)
factor_within n limit l = (omega (arith, ints), omega (arith, ints))

pub dividend_within : (a : ℤ) (factor : ℕ) → IsWithin max_dividend a → factor ≤ max_factor → IsWithin (max_dividend * max_factor) (a *ℤ pos factor)
dividend_within a factor h l = within_product max_dividend max_factor a (pos factor) h (factor_within factor max_factor l)

pub dividend_fits : (z : ℤ) → IsWithin (max_dividend * max_factor) z → FitsSigned w128 z
dividend_fits z h = omega (arith, ints)

pub product_within : (a b : ℤ) → IsHeldNumber a → IsHeldNumber b → IsWithin max_dividend (a *ℤ b)
product_within a b h k = within_product max_held max_held a b h k

pub length_fits : (z : ℤ) → IsWithin max_framed z → FitsSigned w64 z
length_fits z h = omega (arith, ints)

-- the most units that a side of a frame has
abbrev max_units : ℕ
max_units = 262144

pub framed_within : (len : ℤ) (side res : ℕ) → IsWithin max_script_length len → side ≤ max_frame_side → IsLayoutSide res → IsWithin max_framed (framed len side res)
framed_within len side res h s r =
    within_quotient max_framed (whole_milli * res) (len *ℤ pos (pixel * side)) (omega (arith, r.0))
    (IsWithin-wider (max_script_length * max_units) (max_framed * (whole_milli * res)) (len *ℤ pos (pixel * side)) (omega (arith, r.0))
    (within_product max_script_length max_units len (pos (pixel * side)) h (factor_within (pixel * side) max_units (omega arith))))

pub spacing_within : (spacing scale : ℤ) (side res : ℕ) → IsHeldNumber spacing → IsHeldNumber scale → side ≤ max_frame_side → IsLayoutSide res → IsWithin max_framed (spacing_of spacing scale side res)
spacing_within spacing scale side res h k s r =
    within_quotient max_framed (whole_milli * whole_per_cent * res) ((spacing *ℤ scale) *ℤ pos (pixel * side)) (omega (arith, r.0))
    (IsWithin-wider (max_dividend * max_units) (max_framed * (whole_milli * whole_per_cent * res)) ((spacing *ℤ scale) *ℤ pos (pixel * side)) (omega (arith, r.0))
    (within_product max_dividend max_units (spacing *ℤ scale) (pos (pixel * side)) (product_within spacing scale h k) (factor_within (pixel * side) max_units (omega arith))))

pub pixels_within : (pixels scale : ℤ) → IsWithin max_pixel pixels → IsScale scale → IsWithin max_framed (scaled_pixels pixels scale)
pixels_within pixels scale h k =
    within_quotient max_framed one_16 (pixels *ℤ scale) (omega arith)
    (IsWithin-wider (max_pixel * max_scale) (max_framed * one_16) (pixels *ℤ scale) (omega arith) (within_product max_pixel max_scale pixels scale h (scale_within scale k)))

pub held_is_number : (z : ℤ) → IsHeldLength z → IsHeldNumber z
held_is_number z h = (omega (arith, ints), h.1)

-- ---- edges

pub middle_within : (limit : ℕ) (near far : ℤ) → IsWithin limit near → IsWithin limit far → IsWithin limit (floor_div (near +ℤ far) (pos 2))
middle_within limit near far h k = within_quotient limit 2 (near +ℤ far) (omega arith) (omega (arith, ints), omega (arith, ints))
