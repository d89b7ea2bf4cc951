use Rattle.std.proofs.Common.{rules, arith, ◌-◌, ◌≤◌, length, SFits, w64}
use Rattle.std.proofs.lemmas.Int.{to_z-of_z}
use Rattle.line_layout.proofs.TableLemmas.{line_read}
use Rattle.line_layout.proofs.filling.line_from.Goals as goal

pub overflow_sub-pens : goal.overflow_sub-pens
overflow_sub-pens c =
    let fb : SFits w64 c.begin_of.result = search rules in
    let m : c.loop-first.first - 1 ≤ length c.args.spaces.now = omega (arith, c.loop-first.invariant.back, c.requires.end) in
    (line_read c.args.widths.now c.args.spaces.now c.args.pens.now c.begin_of.result c.args.limit (c.loop-first.first - 1) c.args.end c.requires.paragraph c.requires.pens c.requires.end m c.begin_of.ensures fb c.ranges.limit).fits

pub loop-first-preserved : goal.loop-first-preserved
loop-first-preserved c =
    let fb : SFits w64 c.begin_of.result = search rules in
    let m : c.loop-first.first - 1 ≤ length c.args.spaces.now = omega (arith, c.loop-first.invariant.back, c.requires.end) in
    rw (to_z-of_z w64 c.args.limit c.ranges.limit) (record {
      back = omega (arith, c.loop-first.invariant.back);
      narrow = λ _. (line_read c.args.widths.now c.args.spaces.now c.args.pens.now c.begin_of.result c.args.limit (c.loop-first.first - 1) c.args.end c.requires.paragraph c.requires.pens c.requires.end m c.begin_of.ensures fb c.ranges.limit).narrow c.if-pens-end.true;
    })

pub returns-else-pens-end-clause-last : goal.returns-else-pens-end-clause-last
returns-else-pens-end-clause-last c =
    let fb : SFits w64 c.begin_of.result = search rules in
    let m : c.loop-first.first - 1 ≤ length c.args.spaces.now = omega (arith, c.loop-first.invariant.back, c.requires.end) in
    λ _. (line_read c.args.widths.now c.args.spaces.now c.args.pens.now c.begin_of.result c.args.limit (c.loop-first.first - 1) c.args.end c.requires.paragraph c.requires.pens c.requires.end m c.begin_of.ensures fb c.ranges.limit).wide c.if-pens-end.false
