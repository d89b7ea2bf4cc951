use Rattle.track_history.specs.Answers.{flushed_entry}
use Rattle.track_history.proofs.LawLemmas.{fed_gives, tried_follows, turn_follows}
use Rattle.track_history.proofs.laws.calls_follow.Goals as goal

pub returns-clause-turned : goal.returns-clause-turned
returns-clause-turned c = turn_follows

pub returns-clause-flushed : goal.returns-clause-flushed
returns-clause-flushed c = λ pass later answer h. turn_follows pass later (flushed_entry answer) h.turn

pub returns-clause-fed : goal.returns-clause-fed
returns-clause-fed c = fed_gives

pub returns-clause-tried : goal.returns-clause-tried
returns-clause-tried c = tried_follows
