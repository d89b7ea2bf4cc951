use Rattle.std.proofs.Common.{◌+◌, arith}
use Rattle.std.proofs.lemmas.Int.{ints}
use Rattle.mask_cover.proofs.StepLemmas.{AreStepsWithin-wider, rise, fall}
use Rattle.mask_cover.specs.Steps.{sum_first}
use Rattle.mask_cover.proofs.steps.add_run.Goals as goal

pub add_step-requires-2-clause-small : goal.add_step-requires-2-clause-small
add_step-requires-2-clause-small c = AreStepsWithin-wider 556 2000 c.add_step.new.steps (omega arith) (c.add_step.ensures.small 300 c.requires.small)

pub add_step-requires-3-clause-small : goal.add_step-requires-3-clause-small
add_step-requires-3-clause-small c = AreStepsWithin-wider 812 2000 c.add_step-2.new.steps (omega arith) (c.add_step-2.ensures.small 556 (c.add_step.ensures.small 300 c.requires.small))

pub add_step-requires-4-clause-small : goal.add_step-requires-4-clause-small
add_step-requires-4-clause-small c = AreStepsWithin-wider 1068 2000 c.add_step-3.new.steps (omega arith) (c.add_step-3.ensures.small 812 (c.add_step-2.ensures.small 556 (c.add_step.ensures.small 300 c.requires.small)))

pub returns : goal.returns
returns c = record {
  counts = λ n.
      let up = rise (sum_first c.args.steps.now (n + 1)) (sum_first c.add_step.new.steps (n + 1)) (sum_first c.add_step-2.new.steps (n + 1)) _ _ c.args.from n c.args.times (omega (arith, ints)) (omega (arith, ints))
      (c.add_step.ensures.before (n + 1)) (c.add_step.ensures.behind (n + 1)) (c.add_step-2.ensures.before (n + 1)) (c.add_step-2.ensures.behind (n + 1)) in
      let down = fall (sum_first c.add_step-2.new.steps (n + 1)) (sum_first c.add_step-3.new.steps (n + 1)) (sum_first c.add_step-4.new.steps (n + 1)) _ _ c.args.to n c.args.times (omega (arith, ints)) (omega (arith, ints))
      (c.add_step-3.ensures.before (n + 1)) (c.add_step-3.ensures.behind (n + 1)) (c.add_step-4.ensures.before (n + 1)) (c.add_step-4.ensures.behind (n + 1)) in
      omega (arith, ints, up, down);
}
