use Rattle.ass_events.specs.Events.{event_of}
use Rattle.track_history.proofs.LawLemmas.{fed_gives}
use Rattle.shared_player.proofs.LawLemmas.{lost_grows, refused_grows, tried_grows, turn_grows}
use Rattle.shared_player.proofs.laws.one_history.Goals as goal

pub returns-clause-offered : goal.returns-clause-offered
returns-clause-offered c = λ event pass after answer h. turn_grows pass after _ h.turn

pub returns-clause-fed : goal.returns-clause-fed
returns-clause-fed c = λ bytes start duration pass after answer h. (fed_gives bytes start duration pass after answer h).2.seen

pub returns-clause-flushed : goal.returns-clause-flushed
returns-clause-flushed c = λ pass after answer h. turn_grows pass after _ h.turn

pub returns-clause-line : goal.returns-clause-line
returns-clause-line c = tried_grows

pub returns-clause-shown : goal.returns-clause-shown
returns-clause-shown c = λ pass after entries h. h.begins

pub returns-clause-refused : goal.returns-clause-refused
returns-clause-refused c = refused_grows

pub returns-clause-lost : goal.returns-clause-lost
returns-clause-lost c = lost_grows
