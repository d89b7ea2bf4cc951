use Rattle.blend.proofs.BandLemmas as law
use Rattle.blend.proofs.laws.bands_make_the_picture.Goals as goal

pub returns : goal.returns
returns c = law.bands_make_the_picture
