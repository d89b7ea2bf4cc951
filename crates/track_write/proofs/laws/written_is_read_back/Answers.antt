use Rattle.track_write.proofs.ReadBack.{script_back, event_back}
use Rattle.track_write.proofs.Spelled.{read_spelled}
use Rattle.track_write.proofs.laws.written_is_read_back.Goals as goal

pub returns-clause-script : goal.returns-clause-script
returns-clause-script c = script_back

pub returns-clause-events : goal.returns-clause-events
returns-clause-events c = event_back

pub returns-clause-spelled : goal.returns-clause-spelled
returns-clause-spelled c = read_spelled
