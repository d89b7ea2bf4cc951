use Rattle.event_places.proofs.OneShift.{one_move, one_shift}
use Rattle.event_places.proofs.laws.one_shift.Goals as goal

pub returns-clause-shift : goal.returns-clause-shift
returns-clause-shift c script fonts frame one events e s r a b = one_shift one e s r a b

pub returns-clause-moved : goal.returns-clause-moved
returns-clause-moved c script fonts frame one events e a b = one_move one e a b
