use Rattle.play_laws.proofs.AgreementLemmas.{plays_agree}
use Rattle.play_laws.proofs.laws.settled_plays_agree.Goals as goal

pub returns : goal.returns
returns c one other times more a b playable fits alike settled too shown seen =
    plays_agree c.one_picture.ensures.draws one other times more a b playable fits alike settled too shown seen
