use Rattle.std.proofs.Common.{◌≡◌, ℕ, ◌*◌, pos, w32, w64, to_z, of_z, ap, sym, arith, rules}
use Rattle.std.proofs.lemmas.Int.{ints, to_z-of_z}
use Rattle.std.specs.Int.RustNames.{FitsSigned}
use Rattle.ass_num.specs.Coverage.{moved_value}
use Rattle.blend.specs.Blending.{Image, stencilled, tint_at, tint_of}
use Rattle.blend.specs.Areas.{tints}
use Rattle.blend.specs.Images.{image_value}
use Rattle.blend.proofs.FillLemmas.{IsAreaCovered-part, colour-left, colour-right, halves}
use Rattle.blend.proofs.DrawLemmas.{tints-drawn}
use Rattle.blend.proofs.drawing.draw_rows.Goals as goal

pub draw_area-requires-clause-covered : goal.draw_area-requires-clause-covered
draw_area-requires-clause-covered g c = IsAreaCovered-part c.meeting-area.result _ _ (omega arith) (omega (arith, c.held-middle.ensures.high)) (omega arith) (omega arith) c.meeting-area.ensures.covered

pub returns : goal.returns
returns g c =
    let a = c.args in
    let i = a.image.now in
    let image : Image = image_value g.M.AsMask.mask i in
    let middle = c.held-middle.result in
    let value : ℕ → ℕ → ℕ = λ k j. stencilled image.stencil k j (moved_value (image.mask, i.x, i.y) (pos k) (pos j)) in
    let x : FitsSigned w32 i.x = search rules in
    let y : FitsSigned w32 i.y = search rules in
    let edge : FitsSigned w32 i.edge = search rules in
    let x_is = to_z-of_z w32 i.x x in
    let y_is = to_z-of_z w32 i.y y in
    let edge_is : to_z w64 (of_z w64 c.from.result) ≡ i.edge = omega (arith, ints, edge) in
    let met = rw (c.as_mask.ensures, x_is, y_is) at c.meeting-area.ensures in
    let one = rw (c.as_mask.ensures, x_is, y_is) at c.draw_area.ensures in
    let two = rw (c.as_mask.ensures, x_is, y_is) at c.draw_area-2.ensures in
    tints-drawn (record { w = a.w; top = a.top; h = a.h }) c.meeting-area.result image _ _ c.requires.bytes met
    (halves a.w (a.w * a.top) middle c.meeting-area.result (tints i.left (image.mask, i.x, i.y) image.stencil) (tints i.right (image.mask, i.x, i.y) image.stencil) (tint_at image) _ _ _
    c.held-middle.ensures.low c.held-middle.ensures.high
    (λ k j p q. ap (λ r. tint_of r (value k j)) (sym (colour-left i.left i.right k _ i.edge _ edge_is q (c.held-middle.ensures.same k p (omega (arith, c.held-middle.ensures.high))))))
    (λ k j p q. ap (λ r. tint_of r (value k j)) (sym (colour-right i.left i.right k _ i.edge _ edge_is p (c.held-middle.ensures.same k (omega (arith, c.held-middle.ensures.low)) q))))
    one two)
