use Rattle.std.proofs.Common.{rules, arith, ◌+◌, ◌≤◌, length, SFits, w64}
use Rattle.std.proofs.lemmas.Int.{to_z-of_z}
use Rattle.line_layout.proofs.TableLemmas.{line_read}
use Rattle.line_layout.proofs.filling.line_to.Goals as goal

pub overflow_sub-pens : goal.overflow_sub-pens
overflow_sub-pens c =
    let fb : SFits w64 c.begin_of-begin.result = search rules in
    let l : c.loop-end.end + 1 ≤ length c.args.spaces.now = omega (arith, c.loop-end-test.true) in
    (line_read c.args.widths.now c.args.spaces.now c.args.pens.now c.begin_of-begin.result c.args.limit c.args.first (c.loop-end.end + 1) c.requires.paragraph c.requires.pens l c.requires.first c.begin_of-begin.ensures fb c.ranges.limit).fits

pub loop-end-preserved : goal.loop-end-preserved
loop-end-preserved c =
    let fb : SFits w64 c.begin_of-begin.result = search rules in
    let l : c.loop-end.end + 1 ≤ length c.args.spaces.now = omega (arith, c.loop-end-test.true) in
    rw (to_z-of_z w64 c.args.limit c.ranges.limit) (record {
      onward = omega (arith, c.loop-end.invariant.onward);
      within = l;
      narrow = λ _. (line_read c.args.widths.now c.args.spaces.now c.args.pens.now c.begin_of-begin.result c.args.limit c.args.first (c.loop-end.end + 1) c.requires.paragraph c.requires.pens l c.requires.first c.begin_of-begin.ensures fb c.ranges.limit).narrow c.if-pens-end.true;
    })

pub returns-else-pens-end-clause-last : goal.returns-else-pens-end-clause-last
returns-else-pens-end-clause-last c =
    let fb : SFits w64 c.begin_of-begin.result = search rules in
    let l : c.loop-end.end + 1 ≤ length c.args.spaces.now = omega (arith, c.loop-end-test.true) in
    λ _. (line_read c.args.widths.now c.args.spaces.now c.args.pens.now c.begin_of-begin.result c.args.limit c.args.first (c.loop-end.end + 1) c.requires.paragraph c.requires.pens l c.requires.first c.begin_of-begin.ensures fb c.ranges.limit).wide c.if-pens-end.false
