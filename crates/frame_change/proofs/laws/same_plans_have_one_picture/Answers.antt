use Rattle.std.proofs.Common.{ap}
use Rattle.mask_keys.specs.Pictures.{picture}
use Rattle.frame_change.proofs.laws.same_plans_have_one_picture.Goals as goal

pub returns : goal.returns
returns c = λ fonts size a b same. ap (picture fonts size) same
