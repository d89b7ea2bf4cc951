use Rattle.std.proofs.Common.{◌≡◌, w32, rules}
use Rattle.std.proofs.lemmas.Int.{to_z-of_z}
use Rattle.std.specs.Int.RustNames.{FitsSigned}
use Rattle.blend.specs.Blending.{Image}
use Rattle.blend.specs.Images.{image_value}
use Rattle.plain_images.specs.Panes.{box_pane, pane_before, pane_from}
use Rattle.plain_images.specs.PlainImages.{image_pane}
use Rattle.plain_images.proofs.FrameLemmas.{before_part, from_part}
use Rattle.plain_images.proofs.ListingLemmas.{both_sides, image_cuttable, part_cuttable}
use Rattle.plain_images.proofs.listing.plain_images_of.Goals as goal

pub add_stencilled-requires : goal.add_stencilled-requires
add_stencilled-requires g c =
    let i = c.args.image.now in
    let size = c.args.size.now in
    let image : Image = image_value g.M.AsMask.mask i in
    let x : FitsSigned w32 i.x = search rules in
    let y : FitsSigned w32 i.y = search rules in
    let edge : FitsSigned w32 i.edge = search rules in
    let box_is : c.box_pane.result ≡ box_pane image.mask i.x i.y = rw (c.as_mask.ensures, to_z-of_z w32 i.x x, to_z-of_z w32 i.y y) at c.box_pane.ensures in
    let pane_is : c.both-pane.result ≡ image_pane size image = rw (c.frame_pane.ensures, box_is) at c.both-pane.ensures in
    rw (c.as_mask.ensures, to_z-of_z w32 i.x x, to_z-of_z w32 i.y y, c.before_column.ensures, to_z-of_z w32 i.edge edge, pane_is)
    (part_cuttable (image.mask, i.x, i.y) (pane_before (image_pane size image) i.edge) (image_pane size image)
    (before_part (image_pane size image) i.edge) (image_cuttable size image.mask i.x i.y c.requires))

pub add_stencilled-requires-2 : goal.add_stencilled-requires-2
add_stencilled-requires-2 g c =
    let i = c.args.image.now in
    let size = c.args.size.now in
    let image : Image = image_value g.M.AsMask.mask i in
    let x : FitsSigned w32 i.x = search rules in
    let y : FitsSigned w32 i.y = search rules in
    let edge : FitsSigned w32 i.edge = search rules in
    let box_is : c.box_pane.result ≡ box_pane image.mask i.x i.y = rw (c.as_mask.ensures, to_z-of_z w32 i.x x, to_z-of_z w32 i.y y) at c.box_pane.ensures in
    let pane_is : c.both-pane.result ≡ image_pane size image = rw (c.frame_pane.ensures, box_is) at c.both-pane.ensures in
    rw (c.as_mask.ensures, to_z-of_z w32 i.x x, to_z-of_z w32 i.y y, c.from_column.ensures, to_z-of_z w32 i.edge edge, pane_is)
    (part_cuttable (image.mask, i.x, i.y) (pane_from (image_pane size image) i.edge) (image_pane size image)
    (from_part (image_pane size image) i.edge) (image_cuttable size image.mask i.x i.y c.requires))

pub returns : goal.returns
returns g c =
    let i = c.args.image.now in
    let size = c.args.size.now in
    let image : Image = image_value g.M.AsMask.mask i in
    let x : FitsSigned w32 i.x = search rules in
    let y : FitsSigned w32 i.y = search rules in
    let edge : FitsSigned w32 i.edge = search rules in
    let box_is : c.box_pane.result ≡ box_pane image.mask i.x i.y = rw (c.as_mask.ensures, to_z-of_z w32 i.x x, to_z-of_z w32 i.y y) at c.box_pane.ensures in
    let pane_is : c.both-pane.result ≡ image_pane size image = rw (c.frame_pane.ensures, box_is) at c.both-pane.ensures in
    both_sides size image _ _
    (rw (c.as_mask.ensures, to_z-of_z w32 i.x x, to_z-of_z w32 i.y y, c.before_column.ensures, to_z-of_z w32 i.edge edge, pane_is, c.new-plains.ensures.items) at c.in_ok-add_stencilled.ensures)
    (rw (c.as_mask.ensures, to_z-of_z w32 i.x x, to_z-of_z w32 i.y y, c.from_column.ensures, to_z-of_z w32 i.edge edge, pane_is) at c.in_ok-add_stencilled-2.ensures)
