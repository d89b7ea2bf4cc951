use Rattle.picture_laws.proofs.BitmapSets.{drawn_as_named}
use Rattle.picture_laws.proofs.laws.bitmaps_are_drawn_as_named.Goals as goal

pub returns : goal.returns
returns c = drawn_as_named c.bitmaps_stay_found.ensures.names c.bitmaps_stay_found.ensures.glyphs
