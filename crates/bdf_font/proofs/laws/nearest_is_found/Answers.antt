use Rattle.bdf_font.proofs.NearestFonts.{nearest_found}
use Rattle.bdf_font.proofs.laws.nearest_is_found.Goals as goal

pub returns : goal.returns
returns c = nearest_found
