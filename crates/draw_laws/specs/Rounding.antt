-- Public: the numbers of draws are those of the script, rounded and held within their ranges.
-- (Aegisub tag reference, "\bord", "\shad", "\be", "\blur", "\clip"; Advanced SubStation Alpha, "ScaledBorderAndShadow".)
use Rattle.std.specs.Prelude.{◌≡◌, ℕ, ◌*◌, ◌<◌, ◌≤◌, ℤ, pos, neg_ℤ, ◌+ℤ◌, ◌*ℤ◌, ◌≤ℤ◌, ◌<ℤ◌}
use Rattle.ass_num.specs.declared.geometry.Point.{Point}
use Rattle.draw_numbers.specs.Clips.{clip_bound}
use Rattle.draw_numbers.specs.Limits.{max_bound, max_pen, one_milli, sample}
use Rattle.draw_numbers.specs.Pens.{pen_of, spot_of}
use Rattle.draw_numbers.specs.Widths.{offsets_of, radii_of, softness_of}
use Rattle.draw_numbers.specs.declared.pens.Spot.{Spot}
use Rattle.draw_numbers.specs.declared.widths.Offsets.{Offsets}
use Rattle.frame_view.specs.FrameScales.{IsScales}
use Rattle.frame_view.specs.Limits.{whole_letter_scale}
use Rattle.frame_view.specs.declared.scales.Ratio.{Ratio}
use Rattle.frame_view.specs.declared.scales.Scales.{Scales}
use Rattle.mask_keys.specs.Keys.{max_blur_radius, max_border, max_passes, samples_across}
use Rattle.override_tags.specs.declared.view.State.{State}

-- ---- rounding and holding

-- so many times b are in a, and no more
pub record IsQuotient (a b q : ℤ) : Type 0 where
  pub least : (q *ℤ b) ≤ℤ a
  pub most : a <ℤ ((q *ℤ b) +ℤ b)

-- n is a number if that lies in a range, and else the end of the range that is nearest to it
pub record IsHeldBetween (from to z n : ℤ) : Type 0 where
  pub within : from ≤ℤ z → z ≤ℤ to → n ≡ z
  pub below : z <ℤ from → n ≡ from
  pub above : to <ℤ z → n ≡ to

-- n is the quotient, held in a range
pub record IsHeldQuotient (from to a b n : ℤ) : Type 0 where
  pub quotient : ℤ
  pub whole : IsQuotient a b quotient
  pub held : IsHeldBetween from to quotient n

-- ---- widths

-- A width in thousandths of a script pixel has so many samples, of which a pixel of the frame has 16 in a row, rounded down.
abbrev pub HasSamples : ℤ → Ratio → ℤ → Type 0
HasSamples width ratio n = IsQuotient (width *ℤ pos (samples_across * ratio.pixels)) (pos (one_milli * ratio.units)) n

-- A border has no radius below 0, and none above the largest.
abbrev pub IsRadius : ℤ → Ratio → ℕ → Type 0
IsRadius width ratio n = IsHeldQuotient (pos 0) (pos max_border) (width *ℤ pos (samples_across * ratio.pixels)) (pos (one_milli * ratio.units)) (pos n)

-- Where letters aren't magnified, the widths of a state are its own at the scale of borders.
pub record AreWidthsOf (scales : Scales) (state : State) : Type 0 where
  pub across : IsRadius state.border_x scales.borders.x (radii_of scales state).x
  pub down : IsRadius state.border_y scales.borders.y (radii_of scales state).y
  pub shadow_x : HasSamples state.shadow_x scales.borders.x (offsets_of scales state).x
  pub shadow_y : HasSamples state.shadow_y scales.borders.y (offsets_of scales state).y

-- The passes are whole ones; a blur's radius is the nearest whole number of pixels.
pub record IsSoftnessOf (scales : Scales) (state : State) : Type 0 where
  pub passes : IsHeldQuotient (pos 0) (pos max_passes) state.edges (pos one_milli) (pos (softness_of scales state).edges)
  pub blur : IsHeldQuotient (pos 0) (pos max_blur_radius) ((state.blur *ℤ pos (2 * scales.blur.pixels)) +ℤ pos (one_milli * scales.blur.units))
      (pos (2 * (one_milli * scales.blur.units))) (pos (softness_of scales state).blur)

abbrev pub WidthsAreRounded : Type 0
WidthsAreRounded = (scales : Scales) (state : State) → IsScales scales → scales.letter_scale ≡ whole_letter_scale → AreWidthsOf scales state × IsSoftnessOf scales state

-- ---- pens

-- A mask stands in the pixel in which its pen lies, so many samples behind the pixel's first.
pub record IsSpotOf (pen : Point) (spot : Spot) : Type 0 where
  pub across : (pos samples_across *ℤ spot.x) +ℤ pos spot.px ≡ pen.x
  pub down : (pos samples_across *ℤ spot.y) +ℤ pos spot.py ≡ pen.y
  pub px : spot.px < samples_across
  pub py : spot.py < samples_across

-- The pen is the sample in which a point lies, moved by offsets, and held.
pub record IsPenOf (p : Point) (offsets : Offsets) (pen : Point) : Type 0 where
  pub column : ℤ
  pub row : ℤ
  pub across : IsQuotient p.x (pos sample) column
  pub down : IsQuotient p.y (pos sample) row
  pub x : IsHeldBetween (neg_ℤ (pos max_pen)) (pos max_pen) (column +ℤ offsets.x) pen.x
  pub y : IsHeldBetween (neg_ℤ (pos max_pen)) (pos max_pen) (row +ℤ offsets.y) pen.y

pub record ArePensRounded (p : Point) (offsets : Offsets) : Type 0 where
  pub pen : IsPenOf p offsets (pen_of p offsets)
  pub spot : IsSpotOf (pen_of p offsets) (spot_of (pen_of p offsets))

abbrev pub PensAreRounded : Type 0
PensAreRounded = (p : Point) (offsets : Offsets) → ArePensRounded p offsets

-- ---- clips

-- A bound of a clip is the pixel of the frame in which a coordinate of the script lies, from where its canvas begins, and held.
pub record IsBoundOf (begin coordinate : ℤ) (ratio : Ratio) (bound : ℤ) : Type 0 where
  pub pixel : ℤ
  pub whole : IsQuotient (coordinate *ℤ pos ratio.pixels) (pos (one_milli * ratio.units)) pixel
  pub held : IsHeldBetween (neg_ℤ (pos max_bound)) (pos max_bound) (begin +ℤ pixel) bound

abbrev pub ClipBoundsAreRounded : Type 0
ClipBoundsAreRounded = (begin coordinate : ℤ) (ratio : Ratio) → 1 ≤ ratio.units → IsBoundOf begin coordinate ratio (clip_bound begin coordinate ratio)
