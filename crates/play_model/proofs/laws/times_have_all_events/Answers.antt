use Rattle.play_model.proofs.Rounds.{all_events}
use Rattle.play_model.proofs.laws.times_have_all_events.Goals as goal

pub returns : goal.returns
returns c play old time playable dead is = all_events play playable old time dead is
