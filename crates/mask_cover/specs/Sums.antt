-- Public: sums of masks, the boxes and the sums of the masks that were added so far, and how far moved masks may reach.
use Rattle.std.specs.Prelude.{◌≡◌, ℕ, ℤ, ◌+◌, List, Any, sum_by, min}
use Rattle.ass_num.specs.Limits.{IsWithin, IsMaskWithin, max_mask_corner, max_mask_side, max_mask_shift}
use Rattle.ass_num.specs.Masks.{MaskValue, value_at}
use Rattle.ass_num.specs.Coverage.{PixelBox, box_of, InBox, IsLeastBox, moved_value, IsMovedPixel}

-- A mask so near to 0 and so small, that is moved by no more than `shift`.
pub record IsMovedWithin (corner side shift : ℕ) (p : MaskValue × ℤ × ℤ) : Type 0 where
  pub mask : IsMaskWithin corner side p.0
  pub dx : IsWithin shift p.1
  pub dy : IsWithin shift p.2

-- a mask that may be added
abbrev pub IsPlaceableMask : MaskValue × ℤ × ℤ → Type 0
IsPlaceableMask p = IsMovedWithin max_mask_corner max_mask_side max_mask_shift p

-- The least box that has the boxes of the moved masks.
abbrev pub IsBoxOf : List (MaskValue × ℤ × ℤ) → PixelBox → Type 0
IsBoxOf parts b = IsLeastBox (λ x y. Any (λ p. IsMovedPixel p x y) parts) b

-- At each pixel the mask has the sum of the moved masks, at most 255.
abbrev pub HasSum : List (MaskValue × ℤ × ℤ) → MaskValue → Type 0
HasSum parts m = (x y : ℤ) → value_at m x y ≡ min 255 (sum_by (λ p. moved_value p x y) parts)

-- The least box that has a box and the box of a moved mask.
pub record IsJoin (old : PixelBox) (p : MaskValue × ℤ × ℤ) (new : PixelBox) : Type 0 where
  pub keeps : (i j : ℤ) → InBox old i j → InBox new i j
  pub has : (i j : ℤ) → IsMovedPixel p i j → InBox new i j
  pub least : (other : PixelBox) → ((i j : ℤ) → InBox old i j → InBox other i j) → ((i j : ℤ) → IsMovedPixel p i j → InBox other i j) → (i j : ℤ) → InBox new i j → InBox other i j

-- A sum with one moved mask more, in the same box: at most 255 at each pixel.
pub record AddsMask (p : MaskValue × ℤ × ℤ) (old new : MaskValue) : Type 0 where
  pub box : box_of new ≡ box_of old
  pub value : (x y : ℤ) → value_at new x y ≡ min 255 (value_at old x y + moved_value p x y)
