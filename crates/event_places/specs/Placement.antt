-- Public: boxes on the screen, and the least shifts that keep them apart. Lengths are in 1/64 pixel, and y grows downwards.
-- (Advanced SubStation Alpha, "Layer": within a layer, events don't overlap each other.)
use Rattle.std.specs.Prelude.{◌≡◌, ℕ, ℤ, pos, ◌+◌, ◌*◌, ◌<◌, ◌^◌, ◌+ℤ◌, ◌-ℤ◌, ◌<ℤ◌, ◌≤ℤ◌, int_lt, Bool, true, false, List, [], ◌∷◌, length, take, map, slice_index_or}
use Rattle.std.specs.List.{All, filter}
use Rattle.ass_num.specs.Limits.{IsWithin}
use Rattle.event_places.specs.declared.stands.Box2.{Box2}
use Rattle.event_places.specs.declared.stands.Stand.{Stand}

-- The open range from `a` to `b` and the one from `c` to `d` overlap: neither is empty, and each begins before the other ends.
abbrev pub Overlap : ℤ → ℤ → ℤ → ℤ → Type 0
Overlap a b c d = (a <ℤ b) × (c <ℤ d) × (a <ℤ d) × (c <ℤ b)

-- Two boxes meet where they overlap across and down. A box without an inside meets nothing.
abbrev pub Meet : Box2 → Box2 → Type 0
Meet a b = Overlap a.left a.right b.left b.right × Overlap a.top a.bottom b.top b.bottom

-- the box, moved by `shift` down or up
abbrev pub moved_box : Bool → ℤ → Box2 → Box2
moved_box true shift b = record b { top = b.top +ℤ shift; bottom = b.bottom +ℤ shift }
moved_box false shift b = record b { top = b.top -ℤ shift; bottom = b.bottom -ℤ shift }

-- The box, moved by `shift`, meets none of the others.
abbrev pub IsClear : Box2 → List Box2 → Bool → ℤ → Type 0
IsClear b others down shift = All (λ other. Meet (moved_box down shift b) other → ⊥) others

-- Of the numbers from 0 on, `shift` is the least by which the box is moved clear of the others.
pub record IsLeastShift (b : Box2) (others : List Box2) (down : Bool) (shift : ℤ) : Type 0 where
  pub from_zero : pos 0 ≤ℤ shift
  pub clear : IsClear b others down shift
  pub least : (other : ℤ) → pos 0 ≤ℤ other → IsClear b others down other → shift ≤ℤ other

-- the stand with its box moved
abbrev pub moved_stand : ℤ → Stand → Stand
moved_stand shift s = record s { place = moved_box s.down shift s.place }

-- each stand with its box where its shift puts it
abbrev pub placed_stands : List Stand → List ℤ → List Stand
placed_stands [] shifts = []
placed_stands (s ∷ stands) [] = []
placed_stands (s ∷ stands) (shift ∷ shifts) = moved_stand shift s ∷ placed_stands stands shifts

-- The stand ends after `time`.
abbrev pub ends_after : ℤ → Stand → Bool
ends_after time s = int_lt time s.end

-- the stands' boxes
abbrev pub boxes_of : List Stand → List Box2
boxes_of stands = map (λ (s : Stand). s.place) stands

-- the boxes of the stands that end after `time`
abbrev pub places_after : ℤ → List Stand → List Box2
places_after time stands = boxes_of (filter (ends_after time) stands)

-- Each shift is the least that keeps its stand's box clear of the boxes, where they were moved to, of all stands before it in the list
-- that end after it starts.
pub record AreLeastShifts (stands : List Stand) (shifts : List ℤ) : Type 0 where
  pub each : length shifts ≡ length stands
  pub least : (k : ℕ) (s : Stand) → k < length stands → s ≡ slice_index_or stands k s
      → IsLeastShift s.place (places_after s.start (placed_stands (take k stands) (take k shifts))) s.down (slice_index_or shifts k (pos 0))

-- The stands are in order of start.
abbrev pub AreInOrder : List Stand → Type 0
AreInOrder stands = (k : ℕ) (s : Stand) → k + 1 < length stands → (slice_index_or stands k s).start ≤ℤ (slice_index_or stands (k + 1) s).start

-- ---- limits

-- the most stands of a list
abbrev pub max_stands : ℕ
max_stands = 1000000

-- the farthest from 0 that the box of a stand may lie
abbrev pub max_place : ℕ
max_place = 2 ^ 50

-- the tallest that it may be
abbrev pub max_height : ℕ
max_height = 2 ^ 40

-- the farthest from 0 that it is moved
abbrev pub max_moved : ℕ
max_moved = max_place + max_stands * max_height

-- the farthest from 0 that any box may lie that is moved or kept clear of
abbrev pub max_box : ℕ
max_box = 2 ^ 61

-- All four sides lie within `limit` of 0.
pub record IsBoxWithin (limit : ℕ) (b : Box2) : Type 0 where
  pub left : IsWithin limit b.left
  pub top : IsWithin limit b.top
  pub right : IsWithin limit b.right
  pub bottom : IsWithin limit b.bottom

-- The box isn't higher than `height`.
abbrev pub IsLow : ℕ → Box2 → Type 0
IsLow height b = b.bottom ≤ℤ (b.top +ℤ pos height)

-- The stand's box lies where it may, and isn't too high.
pub record IsPlaceableStand (s : Stand) : Type 0 where
  pub within : IsBoxWithin max_place s.place
  pub height : IsLow max_height s.place

-- The stand's box lies within `limit` of 0.
abbrev pub IsStandWithin : ℕ → Stand → Type 0
IsStandWithin limit s = IsBoxWithin limit s.place

-- a shift from 0 up to `limit`
pub record IsShift (limit : ℕ) (shift : ℤ) : Type 0 where
  pub from_zero : pos 0 ≤ℤ shift
  pub bounded : shift ≤ℤ pos limit

-- the shift at which the moved box comes to touch the other one, on the other one's far side
abbrev pub passing : Bool → Box2 → Box2 → ℤ
passing true b other = other.bottom -ℤ b.top
passing false b other = b.bottom -ℤ other.top
