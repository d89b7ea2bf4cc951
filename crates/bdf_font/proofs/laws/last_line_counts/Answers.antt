use Rattle.bdf_font.proofs.Likes.{later_name, later_box, later_property, later_glyph_line}
use Rattle.bdf_font.proofs.laws.last_line_counts.Goals as goal

pub returns-clause-font : goal.returns-clause-font
returns-clause-font c = λ front earlier mid later back glyphs. (later_name front earlier mid later back glyphs, later_box front earlier mid later back glyphs)

pub returns-clause-property : goal.returns-clause-property
returns-clause-property c = later_property

pub returns-clause-glyph : goal.returns-clause-glyph
returns-clause-glyph c = later_glyph_line
