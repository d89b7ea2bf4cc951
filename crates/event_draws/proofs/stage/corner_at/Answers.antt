use Rattle.std.proofs.Common.{rules}
use Rattle.event_draws.proofs.StageLemmas.{corner_within}
use Rattle.event_draws.proofs.stage.corner_at.Goals as goal

pub returns-clause-value : goal.returns-clause-value
returns-clause-value c = search rules

pub returns-clause-within : goal.returns-clause-within
returns-clause-within c =
    rw (returns-clause-value c) (corner_within c.args.at c.args.align c.args.laid.now.width c.args.laid.now.height c.requires.anchor c.requires.width c.requires.height)
