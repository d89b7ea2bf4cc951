use Rattle.play_laws.proofs.RunLemmas.{play_done}
use Rattle.play_laws.proofs.laws.plays_are_done.Goals as goal

pub returns : goal.returns
returns c told job script fonts inputs status known read some fits few decides = play_done told job script fonts inputs status known read some fits few decides
