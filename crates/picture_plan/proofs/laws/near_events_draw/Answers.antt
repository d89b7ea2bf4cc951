use Rattle.picture_plan.proofs.DrawLaws.{draws_of_near_events, pictures_of_near_events}
use Rattle.picture_plan.proofs.laws.near_events_draw.Goals as goal

pub returns-clause-draws : goal.returns-clause-draws
returns-clause-draws c script fonts = draws_of_near_events script fonts

pub returns-clause-picture : goal.returns-clause-picture
returns-clause-picture c script fonts = pictures_of_near_events script fonts
