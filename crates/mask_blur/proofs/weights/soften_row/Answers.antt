use Rattle.std.proofs.Common.{length, ◌∙◌, arith}
use Rattle.mask_blur.proofs.WeightLemmas.{Weighs, sums_small, softer_row}
use Rattle.mask_blur.proofs.weights.soften_row.Goals as goal

pub weigh_row-requires-clause-small : goal.weigh_row-requires-clause-small
weigh_row-requires-clause-small c =
    let w = length c.args.middle.now in
    let e = c.weigh_rows.ensures in
    let are : Weighs c.weigh_rows.new.sums c.args.above.now c.args.middle.now c.args.below.now w = record {
      inside = e.sums;
      before = λ k h. e.before k h ∙ c.requires.before k h;
      behind = λ k h. e.behind k h ∙ c.requires.behind k h;
    } in
    sums_small c.weigh_rows.new.sums c.args.above.now c.args.middle.now c.args.below.now w are
    (λ k. (c.type_inv.above k).fits) (λ k. (c.type_inv.middle k).fits) (λ k. (c.type_inv.below k).fits)

pub returns-clause-softer : goal.returns-clause-softer
returns-clause-softer c = λ f x y zero above middle below.
    let w = length c.args.middle.now in
    let e = c.weigh_rows.ensures in
    let are : Weighs c.weigh_rows.new.sums c.args.above.now c.args.middle.now c.args.below.now w = record {
      inside = e.sums;
      before = λ k h. e.before k h ∙ c.requires.before k h;
      behind = λ k h. e.behind k h ∙ c.requires.behind k h;
    } in
    softer_row c.weigh_row.new.row c.weigh_rows.new.sums c.args.above.now c.args.middle.now c.args.below.now w f x y are
    (omega arith) c.requires.above (omega arith) c.requires.below (λ k h. c.weigh_row.ensures k (omega arith)) zero above middle below
