use Rattle.plain_images.proofs.FrameLemmas.{frame}
use Rattle.plain_images.proofs.PaintLemmas.{picture}
use Rattle.plain_images.proofs.laws.plain_images_make_the_picture.Goals as goal

pub returns : goal.returns
returns c = record { picture = picture; frame = frame }
