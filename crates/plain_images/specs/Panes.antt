-- Public: rectangles of pixels, which may be empty.
use Rattle.std.specs.Prelude.{ℤ, pos, ◌+ℤ◌, ◌≤ℤ◌, ◌<ℤ◌, Bool, ◌||◌, int_le, List, [], ◌∷◌, if◌then◌else◌}
use Rattle.std.specs.Int.{int_min, int_max}
use Rattle.ass_num.specs.Masks.{MaskValue}
use Rattle.ass_num.specs.declared.size.Size.{Size}
use Rattle.blend.specs.Blending.{in_rect}
use Rattle.plain_images.specs.declared.panes.Pane.{Pane}

-- pixel (i, j) lies in the pane
abbrev pub in_pane : Pane → ℤ → ℤ → Bool
in_pane pane i j = in_rect pane.x1 pane.y1 pane.x2 pane.y2 i j

abbrev pub is_empty_pane : Pane → Bool
is_empty_pane pane = int_le pane.x2 pane.x1 || int_le pane.y2 pane.y1

-- A pane that isn't empty: its bounds are apart.
pub record HasSides (pane : Pane) : Type 0 where
  pub wide : pane.x1 <ℤ pane.x2
  pub high : pane.y1 <ℤ pane.y2

-- The bounds of a part lie in those of a pane.
pub record IsPartOf (part pane : Pane) : Type 0 where
  pub left : pane.x1 ≤ℤ part.x1
  pub top : pane.y1 ≤ℤ part.y1
  pub right : part.x2 ≤ℤ pane.x2
  pub bottom : part.y2 ≤ℤ pane.y2

-- all pixels of a frame
abbrev pub frame_pane : Size → Pane
frame_pane size = record { x1 = pos 0; y1 = pos 0; x2 = pos size.w; y2 = pos size.h }

-- the box of a mask that is moved right by x and down by y
abbrev pub box_pane : MaskValue → ℤ → ℤ → Pane
box_pane mask x y = record {
  x1 = mask.x +ℤ x;
  y1 = mask.y +ℤ y;
  x2 = (mask.x +ℤ x) +ℤ pos mask.w;
  y2 = (mask.y +ℤ y) +ℤ pos mask.h;
}

-- what lies in both
abbrev pub both_panes : Pane → Pane → Pane
both_panes a b = record { x1 = int_max a.x1 b.x1; y1 = int_max a.y1 b.y1; x2 = int_min a.x2 b.x2; y2 = int_min a.y2 b.y2 }

-- what lies left of a column, and what lies in it and right of it
abbrev pub pane_before : Pane → ℤ → Pane
pane_before pane edge = record pane { x2 = int_min pane.x2 edge }

abbrev pub pane_from : Pane → ℤ → Pane
pane_from pane edge = record pane { x1 = int_max pane.x1 edge }

-- What a pane has above, below, left and right of a part that isn't empty.
abbrev pub panes_beside : Pane → Pane → List Pane
panes_beside pane hole = record pane { y2 = hole.y1 } ∷ record pane { y1 = hole.y2 } ∷ record hole { x1 = pane.x1; x2 = hole.x1 } ∷ record hole { x1 = hole.x2; x2 = pane.x2 } ∷ []

-- What a pane has outside a part of it. Of an empty part that is the whole pane.
abbrev pub panes_around : Pane → Pane → List Pane
panes_around pane hole = if is_empty_pane hole then pane ∷ [] else panes_beside pane hole
