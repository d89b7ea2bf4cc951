-- Public: how wide borders are, how far shadows lie, and how much masks are softened and blurred.
-- (Aegisub tag reference, "\bord", "\shad", "\be", "\blur"; Advanced SubStation Alpha, "ScaledBorderAndShadow".)
use Rattle.std.specs.Prelude.{ℕ, ◌*◌, ◌==◌, ◌&&◌, Bool, ℤ, pos, ◌+ℤ◌, ◌*ℤ◌, unsigned_abs}
use Rattle.std.specs.Ordering.{int_eq}
use Rattle.ass_num.specs.Floor.{floor_div, held}
use Rattle.frame_view.specs.FrameScales.{magnified}
use Rattle.frame_view.specs.declared.scales.Ratio.{Ratio}
use Rattle.frame_view.specs.declared.scales.Scales.{Scales}
use Rattle.mask_keys.specs.Keys.{max_border, max_passes, max_blur_radius, samples_across}
use Rattle.override_tags.specs.declared.view.State.{State}
use Rattle.draw_numbers.specs.declared.widths.Offsets.{Offsets}
use Rattle.draw_numbers.specs.declared.widths.Radii.{Radii}
use Rattle.draw_numbers.specs.declared.widths.Softness.{Softness}
use Rattle.draw_numbers.specs.Limits.{one_milli}

-- a width of the script in samples
abbrev pub in_samples : ℤ → Ratio → ℤ
in_samples width ratio = floor_div (width *ℤ pos (samples_across * ratio.pixels)) (pos (one_milli * ratio.units))

-- the nearest radius that a border may have
abbrev pub radius : ℤ → Ratio → ℕ
radius width ratio = unsigned_abs (held (pos 0) (pos max_border) (in_samples width ratio))

-- the radii of the border of a state
abbrev pub radii_of : Scales → State → Radii
radii_of scales state = record {
  x = radius (magnified scales.letter_scale state.border_x) scales.borders.x;
  y = radius (magnified scales.letter_scale state.border_y) scales.borders.y;
}

-- no border
abbrev pub no_radii : Radii
no_radii = record { x = 0; y = 0 }

abbrev pub are_no_radii : Radii → Bool
are_no_radii radii = (radii.x == 0) && (radii.y == 0)

-- where the shadow of a state lies
abbrev pub offsets_of : Scales → State → Offsets
offsets_of scales state = record {
  x = in_samples (magnified scales.letter_scale state.shadow_x) scales.borders.x;
  y = in_samples (magnified scales.letter_scale state.shadow_y) scales.borders.y;
}

-- where nothing is moved
abbrev pub no_offsets : Offsets
no_offsets = record { x = pos 0; y = pos 0 }

abbrev pub are_no_offsets : Offsets → Bool
are_no_offsets offsets = int_eq offsets.x (pos 0) && int_eq offsets.y (pos 0)

-- how many passes soften a mask
abbrev pub passes : ℤ → ℕ
passes edges = unsigned_abs (held (pos 0) (pos max_passes) (floor_div edges (pos one_milli)))

-- the radius of a blur in pixels, rounded; a blur scales down the frame
abbrev pub blur_radius : ℤ → Ratio → ℕ
blur_radius blur ratio =
    unsigned_abs (held (pos 0) (pos max_blur_radius)
    (floor_div ((blur *ℤ pos (2 * ratio.pixels)) +ℤ pos (one_milli * ratio.units)) (pos (2 * (one_milli * ratio.units)))))

-- how the masks of a state are softened
abbrev pub softness_of : Scales → State → Softness
softness_of scales state = record {
  edges = passes state.edges;
  blur = blur_radius (magnified scales.letter_scale state.blur) scales.blur;
}

-- not at all
abbrev pub no_softness : Softness
no_softness = record { edges = 0; blur = 0 }
