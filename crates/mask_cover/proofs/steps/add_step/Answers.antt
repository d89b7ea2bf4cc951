use Rattle.std.proofs.Common.{◌+◌, arith}
use Rattle.std.proofs.lemmas.Int.{ints}
use Rattle.mask_cover.proofs.StepLemmas.{sum_first-set_before, behind_by, AreStepsWithin-set}
use Rattle.mask_cover.proofs.steps.add_step.Goals as goal

pub returns-clause-before : goal.returns-clause-before
returns-clause-before c = λ n h. sum_first-set_before c.args.steps.now c.args.k _ n h

pub returns-clause-behind : goal.returns-clause-behind
returns-clause-behind c = λ n h.
    let small = c.requires.small c.args.k in
    behind_by c.args.steps.now c.args.k _ c.args.by n c.requires.place h (omega (arith, ints, small.0, small.1))

pub returns-clause-small : goal.returns-clause-small
returns-clause-small c = λ limit h.
    let small = c.requires.small c.args.k in
    let was = h c.args.k in
    AreStepsWithin-set limit (limit + 256) c.args.steps.now c.args.k _ (omega arith) c.requires.place h (omega (arith, ints, small.0, small.1, was.0), omega (arith, ints, small.0, small.1, was.1))
