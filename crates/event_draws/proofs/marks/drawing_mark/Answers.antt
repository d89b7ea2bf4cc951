use Rattle.std.proofs.Common.{◌≡◌, ◌∙◌, FitsSigned, w64, to_z-of_z, rules, arith}
use Rattle.event_draws.specs.Marks.{drawing_shift, point_above}
use Rattle.event_draws.proofs.MarkLemmas.{mark_is}
use Rattle.event_draws.proofs.marks.drawing_mark.Goals as goal

pub returns-clause-value : goal.returns-clause-value
returns-clause-value c =
    let path = c.args.path.now in
    let m = c.drawing_matrix-m.result in
    let extent = c.in_ok-extent.extent in
    let shift : c.drawing_shift.result ≡ drawing_shift c.args.state.now m.uy = search rules in
    let top : c.raised.result ≡ point_above c.args.pen extent.ascent = search rules in
    let fits : FitsSigned w64 c.drawing_shift.result = search rules in
    rw (to_z-of_z fits)
    (mark_is c.args.stage.now c.args.state.now c.args.pen path path.segs c.in_ok-new.field-0 m extent c.drawing_shift.result c.raised.result
    (λ h. grind (arith, c.is_empty.ensures.1 h)) (c.in_ok-new.ensures ∙ c.in_ok-path_copy.ensures) c.drawing_matrix-m.ensures.value c.in_ok-extent.ensures.value shift top)
