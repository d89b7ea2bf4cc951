use Rattle.std.proofs.Common.{sym, ◌∙◌}
use Rattle.std.proofs.lemmas.List.{at_drop_all}
use Rattle.outline_points.specs.Drawings.{largest_from}
use Rattle.outline_points.specs.Limits.{max_length}
use Rattle.outline_points.proofs.Walks.{largest_within}
use Rattle.outline_points.proofs.drawings.largest_from.Goals as goal

pub returns-clause-value : goal.returns-clause-value
returns-clause-value c = sym (at_drop_all (λ ps. largest_from c.loop-p.largest ps) c.args.points.now c.loop-p.p-index c.loop-p-test.false) ∙ c.loop-p.invariant

pub returns-clause-within : goal.returns-clause-within
returns-clause-within c h k = rw (returns-clause-value c) (largest_within max_length c.args.largest c.args.points.now h k)
