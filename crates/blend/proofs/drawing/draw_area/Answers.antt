use Rattle.std.proofs.Common.{w32, arith, rules}
use Rattle.std.proofs.lemmas.Int.{ints, to_z-of_z}
use Rattle.blend.specs.Areas.{placed_of}
use Rattle.blend.proofs.AreaLemmas.{rect-both}
use Rattle.blend.proofs.FillLemmas.{IsAreaCovered-part}
use Rattle.blend.proofs.DrawLemmas.{rect-inside, rect-outside, same-tints}
use Rattle.blend.proofs.drawing.draw_area.Goals as goal

pub fill-requires-else-inverse-clause-covered : goal.fill-requires-else-inverse-clause-covered
fill-requires-else-inverse-clause-covered g c =
    let part = c.cut-part.ensures.part in
    IsAreaCovered-part c.args.area _ (placed_of c.args.placed) part.left part.right part.top part.bottom c.requires.covered

pub returns-in-Free : goal.returns-in-Free
returns-in-Free g c = rw c.in-Free.is c.fill.ensures

pub returns-then-inverse : goal.returns-then-inverse
returns-then-inverse g c =
    let r = c.in-Rect in
    rw (r.is, c.if-inverse.true) (same-tints c.args.band _ _ _ _ c.fill_around.ensures
    (λ i j. rect-outside c.args.colour (placed_of c.args.placed) r.x1 r.y1 r.x2 r.y2 c.args.area c.cut-part.result i j
    (rect-both _ _ i j r.x1 r.y1 r.x2 r.y2 _ _ _ _ (omega (arith, ints)) (omega (arith, ints)) (omega (arith, ints)) (omega (arith, ints)) (c.cut-part.ensures.both i j))))

pub returns-else-inverse : goal.returns-else-inverse
returns-else-inverse g c =
    let r = c.in-Rect in
    rw (r.is, c.if-inverse.false) (same-tints c.args.band _ _ _ _ c.fill-else-inverse.ensures
    (λ i j. rect-inside c.args.colour (placed_of c.args.placed) r.x1 r.y1 r.x2 r.y2 c.args.area c.cut-part.result i j
    (rect-both _ _ i j r.x1 r.y1 r.x2 r.y2 _ _ _ _ (omega (arith, ints)) (omega (arith, ints)) (omega (arith, ints)) (omega (arith, ints)) (c.cut-part.ensures.both i j))))

pub returns-in-Drawn : goal.returns-in-Drawn
returns-in-Drawn g c =
    let r = c.in-Drawn in
    rw r.is (rw (c.as_mask.ensures, to_z-of_z w32 r.x (search rules), to_z-of_z w32 r.y (search rules)) at c.draw_under.ensures)
