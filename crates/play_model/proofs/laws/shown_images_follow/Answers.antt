use Rattle.play_model.proofs.MoreTimes.{shown_are, shown_follow, shown_stays}
use Rattle.play_model.proofs.laws.shown_images_follow.Goals as goal

pub returns-clause-stays : goal.returns-clause-stays
returns-clause-stays c play history more q i image shown = shown_stays play history more q i image shown

pub returns-clause-follow : goal.returns-clause-follow
returns-clause-follow c play times last images next are all firsts few = shown_follow play times last images next are all firsts few

pub returns-clause-are : goal.returns-clause-are
returns-clause-are c play history images are = shown_are play history images are
