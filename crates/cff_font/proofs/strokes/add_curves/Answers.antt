use Rattle.std.proofs.Common.{◌++◌, pos, slice_index_or, FitsSigned, to_z-of_z, sym, ap, ◌∙◌, rules, w64}
use Rattle.std.proofs.lemmas.List.{append-nil}
use Rattle.cff_font.proofs.StrokeLemmas.{curves-short}
use Rattle.cff_font.proofs.StrokeLong.{drawn-more, curves-long}
use Rattle.cff_font.proofs.strokes.add_curves.Goals as goal

pub returns : goal.returns
returns c =
    let drawn = c.loop-rest.strokes.items in
    sym (ap (λ z. drawn ++ z) (curves-short c.loop-rest.rest.now c.in_default.len_below) ∙ append-nil drawn) ∙ c.loop-rest.invariant

pub loop-rest-preserved : goal.loop-rest-preserved
loop-rest-preserved c =
    let f0 : FitsSigned w64 (slice_index_or c.loop-rest.rest.now 0 (pos 0)) = search rules in
    let f1 : FitsSigned w64 (slice_index_or c.loop-rest.rest.now 1 (pos 0)) = search rules in
    let f2 : FitsSigned w64 (slice_index_or c.loop-rest.rest.now 2 (pos 0)) = search rules in
    let f3 : FitsSigned w64 (slice_index_or c.loop-rest.rest.now 3 (pos 0)) = search rules in
    let f4 : FitsSigned w64 (slice_index_or c.loop-rest.rest.now 4 (pos 0)) = search rules in
    let f5 : FitsSigned w64 (slice_index_or c.loop-rest.rest.now 5 (pos 0)) = search rules in
    let added = simp to_z-of_z at c.in_ok-push.ensures.items in
    drawn-more c.loop-rest.strokes.items _ _ added (curves-long c.loop-rest.rest.now c.in-len6-up.len_at_least) ∙ c.loop-rest.invariant
