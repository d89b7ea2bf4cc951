use Rattle.play_laws.proofs.FrontLemmas.{front_of_times}
use Rattle.play_laws.proofs.SettledFronts.{fronts_agree}
use Rattle.play_laws.proofs.laws.settled_fronts_agree.Goals as goal

pub returns : goal.returns
returns c one other times front bytes playable fits alike settled too early shown =
    fronts_agree c.one_picture.ensures.draws one other playable fits alike settled too front bytes (front_of_times one front early) times shown
