use Rattle.event_places.proofs.ShiftLemmas.{one_least}
use Rattle.event_places.proofs.OneList.{one_list}
use Rattle.event_places.proofs.shift_laws.one_list_of_shifts.Goals as goal

pub returns-clause-one : goal.returns-clause-one
returns-clause-one c = one_least

pub returns-clause-list : goal.returns-clause-list
returns-clause-list c = one_list
