-- Plain images have pixels, and lie in the frame.
use Rattle.std.proofs.Common.{◌≡◌, ℤ, Bool, true, false, List, [], ◌∷◌, ◌++◌, refl, arith}
use Rattle.std.specs.List.{AllByRecursion}
use Rattle.std.proofs.lemmas.Int.{ints}
use Rattle.std.proofs.lemmas.List.Elements.{All-from_recursion}
use Rattle.ass_num.specs.declared.colour.Rgba.{Rgba}
use Rattle.ass_num.specs.declared.size.Size.{Size}
use Rattle.blend.specs.Blending.{Image}
use Rattle.plain_images.specs.Panes.{HasSides, IsPartOf, is_empty_pane, frame_pane, box_pane, pane_before, pane_from}
use Rattle.plain_images.specs.PlainImages.{ArePanesOf, ArePlainImages, IsPaneOf, LiesInFrame, PlainImagesLieInTheFrame, coloured_panes, image_pane, in_colour}
use Rattle.plain_images.specs.PlainImages as plain
use Rattle.plain_images.specs.declared.panes.Pane.{Pane}
use Rattle.plain_images.specs.declared.plain.PlainImage.{PlainImage}
use Rattle.plain_images.proofs.PaneLemmas.{AreParts, both_part, part_of_part, sides, stencil_parts}

-- Coloured panes lie in this one, and have pixels.
abbrev AreFine : List (Pane × Rgba) → Pane → Type 0
AreFine [] outer = Unit {0}
AreFine (c ∷ cs) outer = (IsPartOf c.0 outer × HasSides c.0) × AreFine cs outer

pub before_part : (p : Pane) (edge : ℤ) → IsPartOf (pane_before p edge) p
before_part p edge = record { left = grind (arith, ints); top = grind (arith, ints); right = grind (arith, ints); bottom = grind (arith, ints) }

pub from_part : (p : Pane) (edge : ℤ) → IsPartOf (pane_from p edge) p
from_part p edge = record { left = grind (arith, ints); top = grind (arith, ints); right = grind (arith, ints); bottom = grind (arith, ints) }

fine_colour : (colour : Rgba) (ps : List Pane) (cs : List (Pane × Rgba)) (outer : Pane) → AreParts ps outer → AreFine cs outer → AreFine (in_colour colour ps ++ cs) outer
fine_colour colour [] cs outer h g = g
fine_colour colour (p ∷ ps) cs outer h g = go (is_empty_pane p) refl (fine_colour colour ps cs outer h.1 g)
  where
    go : (b : Bool) → is_empty_pane p ≡ b → AreFine (in_colour colour ps ++ cs) outer → AreFine (in_colour colour (p ∷ ps) ++ cs) outer
    go true e rest = rw e rest
    go false e rest = rw e ((h.0, sides p e), rest)

fine_alone : (colour : Rgba) (ps : List Pane) (outer : Pane) → AreParts ps outer → AreFine (in_colour colour ps) outer
fine_alone colour [] outer h = tt
fine_alone colour (p ∷ ps) outer h = go (is_empty_pane p) refl (fine_alone colour ps outer h.1)
  where
    go : (b : Bool) → is_empty_pane p ≡ b → AreFine (in_colour colour ps) outer → AreFine (in_colour colour (p ∷ ps)) outer
    go true e rest = rw e rest
    go false e rest = rw e ((h.0, sides p e), rest)

image_fine : (size : Size) (image : Image) → AreFine (coloured_panes size image) (frame_pane size)
image_fine size image =
    let outer = image_pane size image in
    let inner : IsPartOf outer (frame_pane size) = both_part (frame_pane size) (box_pane image.mask image.x image.y) in
    fine_colour image.left _ _ (frame_pane size) (stencil_parts image.stencil _ _ (part_of_part _ outer _ (before_part outer image.edge) inner))
    (fine_alone image.right _ (frame_pane size) (stencil_parts image.stencil _ _ (part_of_part _ outer _ (from_part outer image.edge) inner)))

lies : (size : Size) (image : Image) (pane : Pane) (colour : Rgba) (p : PlainImage) → IsPaneOf image pane colour p → IsPartOf pane (frame_pane size) → HasSides pane → LiesInFrame size p
lies size image pane colour p is part sided = record {
  wide = omega (arith, ints, is.left, is.right, sided.wide);
  high = omega (arith, ints, is.top, is.bottom, sided.high);
  left = omega (arith, ints, is.left, part.left);
  top = omega (arith, ints, is.top, part.top);
  right = omega (arith, ints, is.right, part.right);
  bottom = omega (arith, ints, is.bottom, part.bottom);
}

-- the plain images of an image, before others that lie in the frame
all_lie : (size : Size) (image : Image) (cs : List (Pane × Rgba)) (ps rest : List PlainImage) → ArePanesOf image cs ps → AreFine cs (frame_pane size)
    → AllByRecursion (LiesInFrame size) rest → AllByRecursion (LiesInFrame size) (ps ++ rest)
all_lie size image [] [] rest are fine more = more
all_lie size image [] (p ∷ ps) rest are fine more = absurd are
all_lie size image (c ∷ cs) [] rest are fine more = absurd are
all_lie size image (c ∷ cs) (p ∷ ps) rest are fine more =
    (lies size image c.0 c.1 p are.0 fine.0.0 fine.0.1, all_lie size image cs ps rest are.1 fine.1 more)

images_lie : (size : Size) (images : List Image) (ps : List PlainImage) → ArePlainImages size images ps → AllByRecursion (LiesInFrame size) ps
images_lie size _ _ plain.None = tt
images_lie size _ _ (plain.Next image above ps rest of_image more) =
    all_lie size image (coloured_panes size image) ps rest of_image (image_fine size image) (images_lie size above rest more)

pub frame : PlainImagesLieInTheFrame
frame size images ps are = All-from_recursion (LiesInFrame size) ps (images_lie size images ps are)
