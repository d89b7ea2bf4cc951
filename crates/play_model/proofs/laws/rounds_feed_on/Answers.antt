use Rattle.play_model.proofs.Rounds.{fed_long, feeds_all, feeds_on, nothing_fed, repeats_again, repeats_all}
use Rattle.play_model.proofs.laws.rounds_feed_on.Goals as goal

pub returns-clause-none : goal.returns-clause-none
returns-clause-none c play = nothing_fed play

pub returns-clause-more : goal.returns-clause-more
returns-clause-more c play round before fresh given repeated playable fed =
    (feeds_on play round before fresh given repeated playable fed, repeats_again play round before fresh given repeated playable fed)

pub returns-clause-count : goal.returns-clause-count
returns-clause-count c play rounds fresh is = fed_long play rounds fresh is

pub returns-clause-all : goal.returns-clause-all
returns-clause-all c play rounds fresh playable late is = (feeds_all play playable rounds late fresh is, repeats_all play playable rounds late)
