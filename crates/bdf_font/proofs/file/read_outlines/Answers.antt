use Rattle.std.proofs.Common.{All, sym, subst}
use Rattle.bdf_font.specs.Ranges.{IsFont}
use Rattle.bdf_font.proofs.OutlineGlyphs.{all_outlines_sound}
use Rattle.bdf_font.proofs.file.read_outlines.Goals as goal

pub returns-in_ok-outline_fonts-in-Ok-clause-fonts : goal.returns-in_ok-outline_fonts-in-Ok-clause-fonts
returns-in_ok-outline_fonts-in-Ok-clause-fonts c =
    subst (All IsFont) (sym c.in_ok-outline_fonts-in-Ok.ensures) (all_outlines_sound c.in-Ok.faces c.in-Ok.ensures.fonts)
