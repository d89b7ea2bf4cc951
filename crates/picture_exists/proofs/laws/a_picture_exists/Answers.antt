use Rattle.picture_exists.proofs.PictureExistence.{draws_exist, picture_exists}
use Rattle.picture_exists.proofs.SomeEvents.{some_have_a_picture}
use Rattle.picture_exists.proofs.laws.a_picture_exists.Goals as goal

pub returns-clause-draws : goal.returns-clause-draws
returns-clause-draws c script fonts events t frame are = draws_exist script fonts events t frame are

pub returns-clause-picture : goal.returns-clause-picture
returns-clause-picture c script fonts events t frame are = picture_exists script fonts events t frame are

pub returns-clause-some : goal.returns-clause-some
returns-clause-some c script fonts all some t frame are among = some_have_a_picture all some are among script fonts t frame
