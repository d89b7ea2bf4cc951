use Rattle.picture_laws.proofs.Shown.{one_list_of_draws, one_picture}
use Rattle.picture_laws.proofs.laws.one_picture.Goals as goal

pub returns-clause-draws : goal.returns-clause-draws
returns-clause-draws c script fonts sound events t frame a b = one_list_of_draws script fonts sound events t frame a b

pub returns-clause-picture : goal.returns-clause-picture
returns-clause-picture c script fonts sound events t frame a b = one_picture script fonts sound events t frame a b
