use Rattle.std.proofs.Common.{All, sym, subst}
use Rattle.bdf_font.specs.Fonts.{FontValue}
use Rattle.bdf_font.specs.Laws.{HasBitmapRings}
use Rattle.bdf_font.proofs.BitmapFonts.{all_bitmaps, glyph_has}
use Rattle.bdf_font.proofs.laws.bitmap_rings_stay.Goals as goal

pub returns : goal.returns
returns c = λ lines font is m bold underline strikeout.
    let P : FontValue → Type 0 = λ f. All (HasBitmapRings m bold underline strikeout f) f.glyphs in
    subst P (sym is.said) (all_bitmaps (HasBitmapRings m bold underline strikeout _) (λ code advance pixels. glyph_has m bold underline strikeout _ _ _ _ _ code advance pixels) is.blocks)
