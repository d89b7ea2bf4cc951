use Rattle.picture_laws.proofs.NearPictures.{alpha_pictures_are_near}
use Rattle.picture_laws.proofs.laws.alpha_pictures_are_near.Goals as goal

pub returns : goal.returns
returns c script fonts sound form events t frame canvas bytes is with_alpha = alpha_pictures_are_near script fonts sound c.over_is_near.ensures form events t frame canvas bytes is with_alpha
