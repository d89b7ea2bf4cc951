use Rattle.play_model.proofs.TimeLaws.{settled_image}
use Rattle.play_model.proofs.laws.settled_plays_are_fixed.Goals as goal

pub returns : goal.returns
returns c play times bytes playable settled shown q i d lt few = settled_image play times bytes playable settled shown q i d lt few
