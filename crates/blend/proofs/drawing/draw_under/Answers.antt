use Rattle.std.proofs.Common.{◌∙◌}
use Rattle.blend.specs.Areas.{placed_of}
use Rattle.blend.proofs.AreaLemmas.{part-covered}
use Rattle.blend.proofs.FillLemmas.{IsAreaCovered-part}
use Rattle.blend.proofs.DrawLemmas.{under-inside, under-inverse, same-tints}
use Rattle.blend.proofs.drawing.draw_under.Goals as goal
use Rattle.blend.proofs.drawing.draw_under.Goals.{then-inverse, else-inverse}

pub fill_under-requires-clause-covered : goal.fill_under-requires-clause-covered
fill_under-requires-clause-covered c =
    let part = c.cut_to_box-part.ensures.part in
    IsAreaCovered-part c.args.area _ (placed_of c.args.placed) part.left part.right part.top part.bottom c.requires.covered

pub fill_under-requires-clause-over : goal.fill_under-requires-clause-over
fill_under-requires-clause-over c = part-covered c.args.area _ (placed_of c.args.over) c.cut_to_box-part.ensures.both

pub returns : goal.returns
returns c =
    let area = c.args.area in
    let placed = placed_of c.args.placed in
    let over = placed_of c.args.over in
    let part = c.cut_to_box-part.result in
    let both = c.cut_to_box-part.ensures.both in
    elim c.if-inverse.branch [
      | then-inverse w ↦
          let yes = w.if-inverse.true in
          rw yes (under-inverse c.args.band c.args.colour placed over area part _ _ _ both (w.rows-is ∙ w.fill_around.ensures) (rw yes at c.fill_under.ensures))
      | else-inverse w ↦
          let no = w.if-inverse.false in
          rw no (same-tints c.args.band _ _ _ _ (rw (no, w.rows-is) at c.fill_under.ensures) (λ i j. under-inside c.args.colour placed over area part i j (both i j)))
    ]
