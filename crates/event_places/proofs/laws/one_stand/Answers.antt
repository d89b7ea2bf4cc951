use Rattle.event_places.proofs.OneStand.{one_stand}
use Rattle.event_places.proofs.laws.one_stand.Goals as goal

pub returns : goal.returns
returns c script fonts frame sound = one_stand script fonts frame sound
