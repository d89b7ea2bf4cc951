use Rattle.std.proofs.Common.{rules}
use Rattle.event_places.proofs.own.stand_of.Goals as goal

pub returns-clause-value : goal.returns-clause-value
returns-clause-value c = rw (← c.setting.view_is) (search rules)
