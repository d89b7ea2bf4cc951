use Rattle.std.proofs.Common.{rules}
use Rattle.event_draws.proofs.StageLemmas.{moved_within}
use Rattle.event_draws.proofs.stage.moved_down.Goals as goal

pub returns-clause-value : goal.returns-clause-value
returns-clause-value c = search rules

pub returns-clause-within : goal.returns-clause-within
returns-clause-within c = rw (returns-clause-value c) (moved_within c.args.p c.args.shift c.requires.point c.requires.shift)
