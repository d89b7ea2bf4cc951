use Rattle.play_model.proofs.Rounds.{live_bounds}
use Rattle.play_model.proofs.laws.live_counts_are_bounded.Goals as goal

pub returns : goal.returns
returns c play q i n playable count = live_bounds play playable q i n count
