use Rattle.std.proofs.Common.{◌++◌, pos, slice_index_or, FitsSigned, to_z, to_z-of_z, sym, ap, ◌∙◌, rules, w64}
use Rattle.std.proofs.lemmas.List.{append-nil}
use Rattle.cff_font.proofs.StrokeLemmas.{even-short}
use Rattle.cff_font.proofs.StrokeLong.{curve-more, even-long}
use Rattle.cff_font.proofs.strokes.add_even_curves.Goals as goal

pub returns : goal.returns
returns c =
    let fits : FitsSigned w64 c.args.aside = c.ranges.aside in
    let drawn = c.loop-rest.strokes.items in
    let inv = simp (c.loop-rest.aside-is, to_z-of_z) at c.loop-rest.invariant in
    let short = ap (λ z. drawn ++ z) (even-short c.args.is_level c.loop-rest.aside c.loop-rest.rest.now c.in_default.len_below) ∙ append-nil drawn in
    sym short ∙ inv

pub loop-rest-preserved : goal.loop-rest-preserved
loop-rest-preserved c =
    let f0 : FitsSigned w64 (slice_index_or c.loop-rest.rest.now 0 (pos 0)) = search rules in
    let f1 : FitsSigned w64 (slice_index_or c.loop-rest.rest.now 1 (pos 0)) = search rules in
    let f2 : FitsSigned w64 (slice_index_or c.loop-rest.rest.now 2 (pos 0)) = search rules in
    let f3 : FitsSigned w64 (slice_index_or c.loop-rest.rest.now 3 (pos 0)) = search rules in
    let added = simp to_z-of_z at c.in_ok-push.ensures.items in
    let first = simp to_z-of_z at c.step_along-first.ensures in
    let end = simp to_z-of_z at c.step_along-end.ensures in
    curve-more c.loop-rest.strokes.items _ _ _ _ added first end (even-long c.args.is_level (to_z w64 c.loop-rest.aside-bits) c.loop-rest.rest.now c.in-len4-up.len_at_least)
    ∙ c.loop-rest.invariant
