use Rattle.play_laws.proofs.FrontLemmas.{front_of_times}
use Rattle.play_laws.proofs.MoreImages.{front_of_play}
use Rattle.play_laws.proofs.PlayPictures.{have_pictures}
use Rattle.play_laws.proofs.laws.fronts_go_on.Goals as goal

pub returns : goal.returns
returns c = record {
  times = front_of_times;
  pictures = have_pictures;
  plays = λ play bytes playable front. front_of_play play bytes (have_pictures play playable) (front_of_times play bytes front);
}
