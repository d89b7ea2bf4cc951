use Rattle.play_laws.proofs.StillPlays.{stills_show_the_play}
use Rattle.play_laws.proofs.laws.stills_show_the_play.Goals as goal

pub returns : goal.returns
returns c = stills_show_the_play c.one_picture.ensures.draws c.files_decide.ensures.one c.stills_show_all.ensures.all c.stills_show_all.ensures.crops
