use Rattle.still_images.proofs.LawLemmas.{crops_lie_over, stills_are_frames, stills_show_all as show_all}
use Rattle.still_images.proofs.laws.stills_show_all.Goals as goal

pub returns-clause-all : goal.returns-clause-all
returns-clause-all c = show_all

pub returns-clause-crops : goal.returns-clause-crops
returns-clause-crops c = crops_lie_over

pub returns-clause-frames : goal.returns-clause-frames
returns-clause-frames c = stills_are_frames
