use Rattle.std.proofs.Common.{pos, slice_index_or, FitsSigned, to_z-of_z, sym, ap, ◌∙◌, rules, w64}
use Rattle.std.specs.Prelude.{option_and_then}
use Rattle.cff_font.specs.Strokes.{end_of_steps}
use Rattle.cff_font.proofs.StrokeLemmas.{steps-short}
use Rattle.cff_font.proofs.StrokeLong.{behind, steps-long}
use Rattle.cff_font.proofs.strokes.end_of_steps.Goals as goal

pub returns-clause-value : goal.returns-clause-value
returns-clause-value c = sym (steps-short c.loop-rest.point c.loop-rest.rest.now c.in_default.len_below) ∙ c.loop-rest.invariant.value

pub loop-rest-preserved : goal.loop-rest-preserved
loop-rest-preserved c =
    let f0 : FitsSigned w64 (slice_index_or c.loop-rest.rest.now 0 (pos 0)) = search rules in
    let f1 : FitsSigned w64 (slice_index_or c.loop-rest.rest.now 1 (pos 0)) = search rules in
    let here = simp to_z-of_z at c.in_ok-point.ensures.value in
    record {
      value =
          sym (steps-long c.loop-rest.point c.loop-rest.rest.now c.in-len2-up.len_at_least ∙ ap (option_and_then (λ q. end_of_steps q (behind 2 c.loop-rest.rest.now))) (sym here))
          ∙ c.loop-rest.invariant.value;
      within = λ h. c.in_ok-point.ensures.within;
    }
