use Rattle.cff_font.proofs.BlankGlyphs.{blank-empty}
use Rattle.cff_font.proofs.laws.blanks_are_empty.Goals as goal

pub returns : goal.returns
returns c = blank-empty
