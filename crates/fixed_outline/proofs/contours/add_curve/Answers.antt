use Rattle.fixed_outline.proofs.contours.add_curve.Goals as goal

pub returns-clause-added : goal.returns-clause-added
returns-clause-added c = rw (c.last_step-last.ensures.value, c.steps_of-n.ensures.value) at c.in_ok-add_steps.ensures.added
