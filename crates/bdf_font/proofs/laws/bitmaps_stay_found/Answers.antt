use Rattle.bdf_font.proofs.SetLaws.{found_by_name, keep_glyphs, lines_spell}
use Rattle.bdf_font.proofs.laws.bitmaps_stay_found.Goals as goal

pub returns-clause-spelled : goal.returns-clause-spelled
returns-clause-spelled c = lines_spell

pub returns-clause-names : goal.returns-clause-names
returns-clause-names c = found_by_name

pub returns-clause-glyphs : goal.returns-clause-glyphs
returns-clause-glyphs c = keep_glyphs
