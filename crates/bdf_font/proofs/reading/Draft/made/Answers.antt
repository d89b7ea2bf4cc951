use Rattle.std.proofs.Common.{FitsSigned, to_z-of_z, rules, w32}
use Rattle.bdf_font.proofs.BitmapFonts.{glyph_sound}
use Rattle.bdf_font.proofs.reading.Draft.made.Goals as goal

pub returns-clause-sound : goal.returns-clause-sound
returns-clause-sound c =
    let fits : FitsSigned w32 c.advance_or-advance.result = search rules in
    rw c.of_pixels.ensures (rw (to_z-of_z fits) (glyph_sound _ _ _ c.advance_or-advance.ensures.within c.cell_pixels-pixels.ensures.sound))
