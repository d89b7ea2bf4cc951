use Rattle.play_shares.proofs.AllOffers.{all_offered, one_feeder}
use Rattle.play_shares.proofs.laws.all_lines_are_offered.Goals as goal

pub returns-clause-each : goal.returns-clause-each
returns-clause-each c play good feeder is inside = all_offered play good feeder is inside

pub returns-clause-covered : goal.returns-clause-covered
returns-clause-covered c play good line lt is = one_feeder play good line lt is
