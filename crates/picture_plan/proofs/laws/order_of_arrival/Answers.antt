use Rattle.picture_plan.proofs.DrawLaws.{draws_of_a_set, pictures_of_a_set}
use Rattle.picture_plan.proofs.laws.order_of_arrival.Goals as goal

pub returns-clause-draws : goal.returns-clause-draws
returns-clause-draws c script fonts = draws_of_a_set script fonts

pub returns-clause-picture : goal.returns-clause-picture
returns-clause-picture c script fonts = pictures_of_a_set script fonts
