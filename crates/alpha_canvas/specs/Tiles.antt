-- Inner: the layers of neighbouring pixels of row j, of which the first is in column `left`.
use Rattle.std.specs.Prelude.{◌≡◌, ℕ, ℤ, pos, ◌+◌, ◌+ℤ◌, ◌<◌, ◌≤◌, ◌⊎◌, Bool, ◌&&◌, int_le, int_lt, List, length, slice_index_or}
use Rattle.ass_num.specs.Masks.{MaskValue}
use Rattle.blend.specs.Blending.{Image, tint_at}
use Rattle.alpha_canvas.specs.Alpha.{layers_at, under}
use Rattle.alpha_canvas.specs.declared.layers.Layers.{Layers}

-- The image is painted on the pixels from number `from` on up to but not with `to`, and the others are as before.
pub record IsPaintedOn (image : Image) (left j from to : ℕ) (old new : List Layers) : Type 0 where
  pub count : length new ≡ length old
  pub painted : (k : ℕ) (p : Layers) → from ≤ k → k < to → slice_index_or new k p ≡ under (slice_index_or old k p) (tint_at image (left + k) j)
  pub others : (k : ℕ) (p : Layers) → (k < from) ⊎ (to ≤ k) → slice_index_or new k p ≡ slice_index_or old k p

-- Each pixel has the layers that the images make of it.
abbrev pub AreLayers : List Image → ℕ → ℕ → List Layers → Type 0
AreLayers images left j pixels = (k : ℕ) (p : Layers) → k < length pixels → slice_index_or pixels k p ≡ layers_at images (left + k) j

-- column i lies in those of the box of a placed mask, and row j in its rows
abbrev pub in_moved_columns : MaskValue × ℤ × ℤ → ℕ → Bool
in_moved_columns p i = int_le (p.0.x +ℤ p.1) (pos i) && int_lt (pos i) (p.0.x +ℤ p.1 +ℤ pos p.0.w)

abbrev pub in_moved_rows : MaskValue × ℤ × ℤ → ℕ → Bool
in_moved_rows p j = int_le (p.0.y +ℤ p.2) (pos j) && int_lt (pos j) (p.0.y +ℤ p.2 +ℤ pos p.0.h)
