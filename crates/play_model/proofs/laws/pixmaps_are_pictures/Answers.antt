use Rattle.play_model.proofs.Pixmaps.{pixmaps_are_pictures}
use Rattle.play_model.proofs.laws.pixmaps_are_pictures.Goals as goal

pub returns : goal.returns
returns c play history t bytes pixmap = pixmaps_are_pictures play history t bytes pixmap
