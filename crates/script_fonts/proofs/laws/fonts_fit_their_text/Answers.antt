use Rattle.script_fonts.proofs.Lengths.{fonts_fit}
use Rattle.script_fonts.proofs.laws.fonts_fit_their_text.Goals as goal

pub returns : goal.returns
returns c = fonts_fit
