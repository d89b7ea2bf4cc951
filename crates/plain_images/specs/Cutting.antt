-- Inner: what is cut out of a mask, and its bytes.
use Rattle.std.specs.Prelude.{◌≡◌, ℕ, ℤ, pos, ◌+◌, ◌*◌, ◌<◌, ◌≤◌, ◌+ℤ◌, ◌≤ℤ◌, ◌-◌, true, false, List, length, slice_index, Option, Some, None}
use Rattle.ass_num.specs.Coverage.{moved_value}
use Rattle.ass_num.specs.Limits.{max_frame_side}
use Rattle.ass_num.specs.Masks.{MaskValue, is_mask, value_at}
use Rattle.blend.specs.Areas.{in_moved_box}
use Rattle.blend.specs.Blending.{StencilValue, Free, Drawn, stencilled}
use Rattle.plain_images.specs.Panes.{IsPartOf, box_pane, in_pane}
use Rattle.plain_images.specs.declared.cutting.DrawnClip.{DrawnClip}
use Rattle.plain_images.specs.declared.cutting.Part.{Part}
use Rattle.plain_images.specs.declared.panes.Pane.{Pane}

-- a drawn clip as a stencil; without one nothing is hidden
abbrev pub clip_stencil : Option DrawnClip → StencilValue
clip_stencil None = Free
clip_stencil (Some clip) = Drawn clip.over.mask.now clip.over.x clip.over.y clip.inverse

-- The pane lies in the box of a moved mask and in a frame.
pub record IsCuttable (moved : MaskValue × ℤ × ℤ) (pane : Pane) : Type 0 where
  pub box : IsPartOf pane (box_pane moved.0 moved.1 moved.2)
  pub left : pos 0 ≤ℤ pane.x1
  pub top : pos 0 ≤ℤ pane.y1
  pub right : pane.x2 ≤ℤ pos max_frame_side
  pub bottom : pane.y2 ≤ℤ pos max_frame_side

-- Pixels from column x on, w of them, lie in row j of the box of a moved mask.
pub record IsRowCovered (moved : MaskValue × ℤ × ℤ) (x w j : ℕ) : Type 0 where
  pub some : 0 < w
  pub first : in_pane (box_pane moved.0 moved.1 moved.2) (pos x) (pos j) ≡ true
  pub last : in_pane (box_pane moved.0 moved.1 moved.2) (pos (x + w - 1)) (pos j) ≡ true

-- The pane has the pixels of row j from column x on, count of them.
pub record IsRowPane (x j count : ℕ) (row : Pane) : Type 0 where
  pub left : row.x1 ≡ pos x
  pub right : row.x2 ≡ pos (x + count)
  pub top : row.y1 ≡ pos j
  pub bottom : row.y2 ≡ pos (j + 1)

-- Of the `count` pixels of row j from column x on, those of the part lie in the box of a moved mask, and no others.
pub record IsPartInBox (moved : MaskValue × ℤ × ℤ) (x j count : ℕ) (part : Part) : Type 0 where
  pub ordered : part.from ≤ part.to
  pub within : part.to ≤ count
  pub before : (k : ℕ) → k < part.from → in_moved_box moved (x + k) j ≡ false
  pub inside : (k : ℕ) → part.from ≤ k → k < part.to → in_moved_box moved (x + k) j ≡ true
  pub behind : (k : ℕ) → part.to ≤ k → k < count → in_moved_box moved (x + k) j ≡ false

-- what a stencil leaves of a moved mask at pixel (i, j)
abbrev pub stencilled_at : MaskValue × ℤ × ℤ → StencilValue → ℕ → ℕ → ℕ
stencilled_at moved stencil i j = stencilled stencil i j (moved_value moved (pos i) (pos j))

-- Behind the old bytes there are n more, those of f.
pub record AddsBytes (f : ℕ → ℕ) (n : ℕ) (old new : List ℕ) : Type 0 where
  pub count : length new ≡ length old + n
  pub kept : (k : ℕ) → k < length old → slice_index new k ≡ slice_index old k
  pub added : (k : ℕ) → k < n → slice_index new (length old + k) ≡ f k

-- The bytes are n rows of w pixels each, those of f.
pub record AreRowsOf (f : ℕ → ℕ → ℕ) (w n : ℕ) (bytes : List ℕ) : Type 0 where
  pub count : length bytes ≡ n * w
  pub each : (k l : ℕ) → k < w → l < n → slice_index bytes (l * w + k) ≡ f k l

-- The mask is what the stencil leaves of the moved mask in the pane, and its box is the pane.
pub record IsCutOf (moved : MaskValue × ℤ × ℤ) (stencil : StencilValue) (pane : Pane) (mask : MaskValue) : Type 0 where
  pub left : mask.x ≡ pane.x1
  pub top : mask.y ≡ pane.y1
  pub right : (mask.x +ℤ pos mask.w) ≡ pane.x2
  pub bottom : (mask.y +ℤ pos mask.h) ≡ pane.y2
  pub whole : is_mask mask ≡ true
  pub values : (i j : ℕ) → in_pane pane (pos i) (pos j) ≡ true → value_at mask (pos i) (pos j) ≡ stencilled_at moved stencil i j
