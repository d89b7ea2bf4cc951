-- Quotients that are rounded down and held.
use Rattle.std.proofs.Common.{◌≡◌, refl, sym, ℕ, ◌*◌, ◌<◌, ◌≤◌, ℤ, pos, negsuc, neg_ℤ, ◌+ℤ◌, ◌-ℤ◌, ◌*ℤ◌, ◌≤ℤ◌, unsigned_abs, subst, arith}
use Rattle.std.proofs.lemmas.Int.{ints}
use Rattle.ass_num.proofs.Floor.{floor_div-above, floor_div-below, held_above, held_below, held_same, held_within}
use Rattle.ass_num.specs.Floor.{floor_div, held}
use Rattle.ass_num.specs.declared.geometry.Point.{Point}
use Rattle.draw_numbers.specs.Clips.{clip_bound}
use Rattle.draw_numbers.specs.Limits.{max_bound, max_pen, one_milli, sample}
use Rattle.draw_numbers.specs.Pens.{pen_of, phase_of, pixel_of}
use Rattle.draw_numbers.specs.Widths.{blur_radius, radius}
use Rattle.draw_numbers.specs.declared.widths.Offsets.{Offsets}
use Rattle.frame_view.specs.FrameScales.{IsScales, magnified}
use Rattle.frame_view.specs.Limits.{whole_letter_scale}
use Rattle.frame_view.specs.declared.scales.Ratio.{Ratio}
use Rattle.frame_view.specs.declared.scales.Scales.{Scales}
use Rattle.mask_keys.specs.Keys.{max_blur_radius, max_border, max_passes, samples_across}
use Rattle.override_tags.specs.declared.view.State.{State}
use Rattle.draw_laws.specs.Rounding.{ArePensRounded, AreWidthsOf, HasSamples, IsBoundOf, IsHeldBetween, IsHeldQuotient, IsQuotient, IsRadius, IsSoftnessOf}
use Rattle.draw_laws.proofs.DrawnParts.{phase_small}
use Rattle.draw_laws.proofs.MovedNumbers.{phase_is}

-- ---- rounding and holding

quotient_is : (a : ℤ) (n : ℕ) → 0 < n → IsQuotient a (pos n) (floor_div a (pos n))
quotient_is a n some = record { least = floor_div-below a n some; most = floor_div-above a n some }

held_is : (from to z : ℤ) → from ≤ℤ to → IsHeldBetween from to z (held from to z)
held_is from to z range = record {
  within = λ low high. held_same from to z low high;
  below = λ low. held_below from to z range (omega (arith, ints, low));
  above = λ high. held_above from to z range (omega (arith, ints, high));
}

abs_is : (z : ℤ) → pos 0 ≤ℤ z → pos (unsigned_abs z) ≡ z
abs_is (pos a) h = refl
abs_is (negsuc a) h = absurd (omega (arith, ints))

-- Held from 0 on, as a number that has no sign.
held_quotient : (most : ℕ) (a : ℤ) (n : ℕ) → 0 < n → IsHeldQuotient (pos 0) (pos most) a (pos n) (pos (unsigned_abs (held (pos 0) (pos most) (floor_div a (pos n)))))
held_quotient most a n some =
    let q = floor_div a (pos n) in
    let range : pos 0 ≤ℤ pos most = omega (arith, ints) in
    record {
      quotient = q;
      whole = quotient_is a n some;
      held = subst (λ (z : ℤ). IsHeldBetween (pos 0) (pos most) q z) (sym (abs_is (held (pos 0) (pos most) q) (held_within (pos 0) (pos most) q range).0)) (held_is (pos 0) (pos most) q range);
    }

-- ---- widths

own_size : (letter_scale : ℕ) (z : ℤ) → letter_scale ≡ whole_letter_scale → magnified letter_scale z ≡ z
own_size letter_scale z e = subst (λ (n : ℕ). magnified n z ≡ z) (sym e) refl

radius_is : (letter_scale : ℕ) (width : ℤ) (ratio : Ratio) → letter_scale ≡ whole_letter_scale → 1 ≤ ratio.units → IsRadius width ratio (radius (magnified letter_scale width) ratio)
radius_is letter_scale width ratio e some =
    subst (λ (z : ℤ). IsRadius width ratio (radius z ratio)) (sym (own_size letter_scale width e))
    (held_quotient max_border (width *ℤ pos (samples_across * ratio.pixels)) (one_milli * ratio.units) (omega (arith, some)))

samples_are : (letter_scale : ℕ) (width : ℤ) (ratio : Ratio) → letter_scale ≡ whole_letter_scale → 1 ≤ ratio.units
    → HasSamples width ratio (floor_div (magnified letter_scale width *ℤ pos (samples_across * ratio.pixels)) (pos (one_milli * ratio.units)))
samples_are letter_scale width ratio e some =
    subst (λ (z : ℤ). HasSamples width ratio (floor_div (z *ℤ pos (samples_across * ratio.pixels)) (pos (one_milli * ratio.units)))) (sym (own_size letter_scale width e))
    (quotient_is (width *ℤ pos (samples_across * ratio.pixels)) (one_milli * ratio.units) (omega (arith, some)))

abbrev IsBlurOf : ℤ → Ratio → ℕ → Type 0
IsBlurOf blur ratio n =
    IsHeldQuotient (pos 0) (pos max_blur_radius) ((blur *ℤ pos (2 * ratio.pixels)) +ℤ pos (one_milli * ratio.units)) (pos (2 * (one_milli * ratio.units))) (pos n)

blur_is : (letter_scale : ℕ) (blur : ℤ) (ratio : Ratio) → letter_scale ≡ whole_letter_scale → 1 ≤ ratio.units → IsBlurOf blur ratio (blur_radius (magnified letter_scale blur) ratio)
blur_is letter_scale blur ratio e some =
    subst (λ (z : ℤ). IsBlurOf blur ratio (blur_radius z ratio)) (sym (own_size letter_scale blur e))
    (held_quotient max_blur_radius ((blur *ℤ pos (2 * ratio.pixels)) +ℤ pos (one_milli * ratio.units)) (2 * (one_milli * ratio.units)) (omega (arith, some)))

pub widths_rounded : (scales : Scales) (state : State) → IsScales scales → scales.letter_scale ≡ whole_letter_scale → AreWidthsOf scales state × IsSoftnessOf scales state
widths_rounded scales state sound e = (
  record {
    across = radius_is scales.letter_scale state.border_x scales.borders.x e sound.borders.x.some;
    down = radius_is scales.letter_scale state.border_y scales.borders.y e sound.borders.y.some;
    shadow_x = samples_are scales.letter_scale state.shadow_x scales.borders.x e sound.borders.x.some;
    shadow_y = samples_are scales.letter_scale state.shadow_y scales.borders.y e sound.borders.y.some;
  },
  record {
    passes = held_quotient max_passes state.edges one_milli (omega arith);
    blur = blur_is scales.letter_scale state.blur scales.blur e sound.blur.some;
  },
)

-- ---- pens and bounds

spot_sum : (pen pixel : ℤ) (phase : ℕ) → pos phase ≡ pen -ℤ (pos 16 *ℤ pixel) → (pos 16 *ℤ pixel) +ℤ pos phase ≡ pen
spot_sum pen pixel phase e = omega (arith, ints, e)

pub pens_rounded : (p : Point) (offsets : Offsets) → ArePensRounded p offsets
pens_rounded p offsets =
    let pen = pen_of p offsets in
    record {
      pen =
          record {
            column = floor_div p.x (pos sample);
            row = floor_div p.y (pos sample);
            across = quotient_is p.x sample (omega arith);
            down = quotient_is p.y sample (omega arith);
            x = held_is (neg_ℤ (pos max_pen)) (pos max_pen) (floor_div p.x (pos sample) +ℤ offsets.x) (omega (arith, ints));
            y = held_is (neg_ℤ (pos max_pen)) (pos max_pen) (floor_div p.y (pos sample) +ℤ offsets.y) (omega (arith, ints));
          };
      spot =
          record {
            across = spot_sum pen.x (pixel_of pen.x) (phase_of pen.x) (phase_is pen.x);
            down = spot_sum pen.y (pixel_of pen.y) (phase_of pen.y) (phase_is pen.y);
            px = phase_small pen.x;
            py = phase_small pen.y;
          };
    }

pub bounds_rounded : (begin coordinate : ℤ) (ratio : Ratio) → 1 ≤ ratio.units → IsBoundOf begin coordinate ratio (clip_bound begin coordinate ratio)
bounds_rounded begin coordinate ratio some = record {
  pixel = floor_div (coordinate *ℤ pos ratio.pixels) (pos (one_milli * ratio.units));
  whole = quotient_is (coordinate *ℤ pos ratio.pixels) (one_milli * ratio.units) (omega (arith, some));
  held = held_is (neg_ℤ (pos max_bound)) (pos max_bound) (begin +ℤ floor_div (coordinate *ℤ pos ratio.pixels) (pos (one_milli * ratio.units))) (omega (arith, ints));
}
