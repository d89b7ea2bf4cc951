-- Public: how two plans differ, and the box of the pixels at which two pictures differ.
use Rattle.std.specs.Prelude.{◌≡◌, ◌≢◌, ℕ, ◌+◌, ◌*◌, ◌<◌, ◌≤◌, pos, List, length, map, slice_index}
use Rattle.ass_num.specs.declared.size.Size.{Size}
use Rattle.mask_keys.specs.declared.plans.Draw.{Draw}
use Rattle.mask_keys.specs.declared.plans.Plan.{Plan}
use Rattle.frame_change.specs.declared.kinds.ChangeKind.{ChangeKind}
use Rattle.frame_change.specs.declared.kinds.ChangeKind.TheVariants.{Same, Moved, Other}
use Rattle.frame_change.specs.declared.pixels.Changed.{Changed}

-- a draw without the place of its mask
abbrev pub unplaced : Draw → Draw
unplaced draw = record draw { x = pos 0; y = pos 0 }

-- `Same`: the lists of draws are equal. `Moved`: they aren't, and are where the places of all masks are left out. `Other`: not even then.
abbrev pub IsChange : ChangeKind → Plan → Plan → Type 0
IsChange Same a b = a.draws ≡ b.draws
IsChange Moved a b = (a.draws ≢ b.draws) × (map unplaced a.draws ≡ map unplaced b.draws)
IsChange Other a b = map unplaced a.draws ≢ map unplaced b.draws

-- ---- pictures of three bytes for each pixel, row by row

-- Two pictures of w columns differ in a byte of pixel (i, j).
abbrev pub DiffersAt : ℕ → List ℕ → List ℕ → ℕ → ℕ → Type 0
DiffersAt w a b i j = (k : ℕ) × (k < 3) × (slice_index a (3 * (j * w + i) + k) ≢ slice_index b (3 * (j * w + i) + k))

pub record IsInBox (box : Changed) (i j : ℕ) : Type 0 where
  pub left : box.x1 ≤ i
  pub right : i < box.x2
  pub top : box.y1 ≤ j
  pub bottom : j < box.y2

-- The box has each pixel at which two pictures differ.
abbrev pub HasChanges : Size → List ℕ → List ℕ → Changed → Type 0
HasChanges size a b box = (i j : ℕ) → i < size.w → j < size.h → DiffersAt size.w a b i j → IsInBox box i j

pub record LiesInside (box other : Changed) : Type 0 where
  pub left : other.x1 ≤ box.x1
  pub right : box.x2 ≤ other.x2
  pub top : other.y1 ≤ box.y1
  pub bottom : box.y2 ≤ other.y2

-- The least box that has each pixel at which two pictures differ.
pub record IsLeastChanged (size : Size) (a b : List ℕ) (box : Changed) : Type 0 where
  pub has : HasChanges size a b box
  pub least : (other : Changed) → HasChanges size a b other → LiesInside box other

-- A picture of this size has so many bytes.
abbrev pub IsPicture : Size → List ℕ → Type 0
IsPicture size bytes = length bytes ≡ 3 * (size.w * size.h)
