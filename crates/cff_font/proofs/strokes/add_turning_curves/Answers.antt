use Rattle.std.proofs.Common.{◌++◌, pos, slice_index_or, FitsSigned, to_z-of_z, sym, ap, ◌∙◌, rules, w64}
use Rattle.std.specs.Prelude.{not}
use Rattle.std.proofs.lemmas.List.{append-nil}
use Rattle.cff_font.specs.Strokes.{step_along}
use Rattle.cff_font.proofs.StrokeLemmas.{turning-short}
use Rattle.cff_font.proofs.StrokeLong.{curve-more, turning-long}
use Rattle.cff_font.proofs.strokes.add_turning_curves.Goals as goal

pub returns : goal.returns
returns c =
    let drawn = c.loop-rest.strokes.items in
    sym (ap (λ z. drawn ++ z) (turning-short c.loop-rest.is_level c.loop-rest.rest.now c.in_default.len_below) ∙ append-nil drawn) ∙ c.loop-rest.invariant

pub loop-rest-preserved : goal.loop-rest-preserved
loop-rest-preserved c =
    let f0 : FitsSigned w64 (slice_index_or c.loop-rest.rest.now 0 (pos 0)) = search rules in
    let f1 : FitsSigned w64 (slice_index_or c.loop-rest.rest.now 1 (pos 0)) = search rules in
    let f2 : FitsSigned w64 (slice_index_or c.loop-rest.rest.now 2 (pos 0)) = search rules in
    let f3 : FitsSigned w64 (slice_index_or c.loop-rest.rest.now 3 (pos 0)) = search rules in
    let added = simp to_z-of_z at c.in_ok-push.ensures.items in
    let aside : FitsSigned w64 c.sole.result = search rules in
    let first = simp to_z-of_z at c.step_along-first.ensures in
    let end = simp to_z-of_z at c.step_along-end.ensures in
    curve-more c.loop-rest.strokes.items _ _ _ _ added first (end ∙ ap (step_along (not c.loop-rest.is_level) (slice_index_or c.loop-rest.rest.now 3 (pos 0))) c.sole.ensures)
    (turning-long c.loop-rest.is_level c.loop-rest.rest.now c.in-len4-up.len_at_least)
    ∙ c.loop-rest.invariant
