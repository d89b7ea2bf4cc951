-- Public: the colours of draws: what a fade leaves of them, and which of them a syllable has at an instant.
-- (Aegisub tag reference, "\fad", "\k", "\kf", "\ko".)
use Rattle.std.specs.Prelude.{ℕ, ◌*◌, ◌&&◌, Bool, true, false, if◌then◌else◌, slice_index_or, Option, Some, None, ℤ, pos, neg_ℤ, ◌-ℤ◌, int_le, int_lt}
use Rattle.ass_num.specs.Floor.{floor_div, held}
use Rattle.ass_num.specs.declared.colour.Rgba.{Rgba}
use Rattle.event_instants.specs.Instants.{between, faded}
use Rattle.mask_keys.specs.Keys.{samples_across}
use Rattle.override_tags.specs.declared.view.State.{State}
use Rattle.override_tags.specs.declared.view.Syllable.{Syllable}
use Rattle.tag_arguments.specs.declared.kinds.Sung.{Sung}
use Rattle.tag_arguments.specs.declared.kinds.Sung.TheVariants.{Sweep, Outline}
use Rattle.draw_numbers.specs.declared.colours.Paint.{Paint}
use Rattle.draw_numbers.specs.Limits.{max_bound, sample}

-- the colour, as far as a fade leaves it
abbrev pub faded_colour : ℕ → Rgba → Rgba
faded_colour fade colour = record colour { a = faded colour.a fade }

abbrev pub no_colour : Rgba
no_colour = record { r = 0; g = 0; b = 0; a = 0 }

-- the colours of a state under a fade
abbrev pub primary : ℕ → State → Rgba
primary fade state = faded_colour fade (slice_index_or state.colours 0 no_colour)

abbrev pub secondary : ℕ → State → Rgba
secondary fade state = faded_colour fade (slice_index_or state.colours 1 no_colour)

abbrev pub outline_colour : ℕ → State → Rgba
outline_colour fade state = faded_colour fade (slice_index_or state.colours 2 no_colour)

abbrev pub back_colour : ℕ → State → Rgba
back_colour fade state = faded_colour fade (slice_index_or state.colours 3 no_colour)

-- one colour on both sides of an edge at 0
abbrev pub plain_paint : Rgba → Paint
plain_paint colour = record { left = colour; right = colour; edge = pos 0 }

-- ---- syllables

-- A syllable hasn't begun.
abbrev pub is_awaited : ℤ → Option Syllable → Bool
is_awaited elapsed None = false
is_awaited elapsed (Some syllable) = int_lt elapsed syllable.begin

abbrev pub is_sweep : Sung → Bool
is_sweep Sweep = true
is_sweep _ = false

abbrev pub is_outlined : Sung → Bool
is_outlined Outline = true
is_outlined _ = false

-- It is one that is swept, and has begun and not ended.
abbrev pub is_swept : ℤ → Syllable → Bool
is_swept elapsed syllable = is_sweep syllable.kind && (int_le syllable.begin elapsed && int_lt elapsed syllable.end)

-- It is one whose border comes with it, and hasn't begun.
abbrev pub lacks_border : ℤ → Option Syllable → Bool
lacks_border elapsed None = false
lacks_border elapsed (Some syllable) = is_outlined syllable.kind && int_lt elapsed syllable.begin

-- where a sweep has come to that goes from `left` to `right`, in 1/64 pixel
abbrev pub swept_to : ℤ → ℤ → Syllable → ℤ → ℤ
swept_to left right syllable elapsed = between left right (elapsed -ℤ syllable.begin) (syllable.end -ℤ syllable.begin)

-- the column of the frame there
abbrev pub sweep_edge : ℤ → ℤ → Syllable → ℤ → ℤ
sweep_edge left right syllable elapsed =
    held (neg_ℤ (pos max_bound)) (pos max_bound) (floor_div (swept_to left right syllable elapsed) (pos (sample * samples_across)))

-- primary up to there, and secondary from there on
abbrev pub swept_paint : ℕ → ℤ → State → ℤ → ℤ → Syllable → Paint
swept_paint fade elapsed state left right syllable =
    record { left = primary fade state; right = secondary fade state; edge = sweep_edge left right syllable elapsed }

-- what a syllable that has begun is filled with
abbrev pub sung_paint : ℕ → ℤ → State → ℤ → ℤ → Option Syllable → Paint
sung_paint fade elapsed state left right None = plain_paint (primary fade state)
sung_paint fade elapsed state left right (Some syllable) =
    if is_swept elapsed syllable then swept_paint fade elapsed state left right syllable else plain_paint (primary fade state)

-- What a state is filled with under a fade, so many milliseconds after the event's start. Its syllable's items on the line go from
-- `left` to `right`.
abbrev pub fill_paint : ℕ → ℤ → State → ℤ → ℤ → Paint
fill_paint fade elapsed state left right =
    if is_awaited elapsed state.sung then plain_paint (secondary fade state) else sung_paint fade elapsed state left right state.sung
