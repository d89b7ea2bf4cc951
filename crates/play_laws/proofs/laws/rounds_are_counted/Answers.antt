use Rattle.play_laws.proofs.CountLemmas.{fed_counted, repeats_counted}
use Rattle.play_laws.proofs.laws.rounds_are_counted.Goals as goal

pub returns : goal.returns
returns c = record { fed = fed_counted; repeated = repeats_counted }
