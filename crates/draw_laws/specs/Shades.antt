-- Public: the colours of draws, by the state of what they show and the fade of its event.
-- (Advanced SubStation Alpha, "PrimaryColour", "SecondaryColour", "OutlineColour", "BackColour"; Aegisub tag reference, "\fad", "\k", "\kf".)
use Rattle.std.specs.Prelude.{◌≡◌, ℕ, ◌+◌, ◌-◌, ◌*◌, ◌<◌, ◌≤◌, slice_index_or, None, Some, ℤ, ◌≤ℤ◌, ◌<ℤ◌}
use Rattle.ass_num.specs.declared.colour.Rgba.{Rgba}
use Rattle.draw_numbers.specs.Colours.{no_colour}
use Rattle.mask_keys.specs.declared.plans.Draw.{Draw}
use Rattle.override_tags.specs.declared.view.State.{State}
use Rattle.override_tags.specs.declared.view.Syllable.{Syllable}
use Rattle.tag_arguments.specs.declared.kinds.Sung.TheVariants.{Sweep}

-- ---- colours

-- the four colours of a state
abbrev pub primary_of : State → Rgba
primary_of state = slice_index_or state.colours 0 no_colour

abbrev pub secondary_of : State → Rgba
secondary_of state = slice_index_or state.colours 1 no_colour

abbrev pub outline_of : State → Rgba
outline_of state = slice_index_or state.colours 2 no_colour

abbrev pub back_of : State → Rgba
back_of state = slice_index_or state.colours 3 no_colour

-- What a fade leaves of a colour: as red, green and blue as it was, and the product of both opacities, in 255ths, rounded to the nearest. (An
-- alpha of 0 is opaque, and 255 wholly transparent.)
pub record IsLeftOf (fade : ℕ) (colour left : Rgba) : Type 0 where
  pub red : left.r ≡ colour.r
  pub green : left.g ≡ colour.g
  pub blue : left.b ≡ colour.b
  pub least : 255 * (255 - left.a) ≤ (255 - colour.a) * (255 - fade) + 127
  pub most : (255 - colour.a) * (255 - fade) < 255 * (255 - left.a) + 128

-- ---- draws

-- The draw has one colour, and a fade has left it.
pub record HasOneColour (fade : ℕ) (colour : Rgba) (draw : Draw) : Type 0 where
  pub left : IsLeftOf fade colour draw.left
  pub same : draw.right ≡ draw.left

-- It is swept: primary at the left, and secondary at the right.
pub record HasBothColours (fade : ℕ) (state : State) (draw : Draw) : Type 0 where
  pub left : IsLeftOf fade (primary_of state) draw.left
  pub right : IsLeftOf fade (secondary_of state) draw.right

-- A fill is primary, but before its syllable begins it is secondary, and while a syllable is swept it is both.
pub record HasFillColours (fade : ℕ) (elapsed : ℤ) (state : State) (draw : Draw) : Type 0 where
  pub unsung : state.sung ≡ None → HasOneColour fade (primary_of state) draw
  pub awaited : (s : Syllable) → state.sung ≡ Some s → elapsed <ℤ s.begin → HasOneColour fade (secondary_of state) draw
  pub swept : (s : Syllable) → state.sung ≡ Some s → s.kind ≡ Sweep → s.begin ≤ℤ elapsed → elapsed <ℤ s.end → HasBothColours fade state draw
  pub sung : (s : Syllable) → state.sung ≡ Some s → s.begin ≤ℤ elapsed → (s.kind ≡ Sweep → s.end ≤ℤ elapsed) → HasOneColour fade (primary_of state) draw
