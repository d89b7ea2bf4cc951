-- Public: what a font keeps, as the font that it is.
use Rattle.sfnt_font.specs.Ranges.{IsSfntFont}
use Rattle.bdf_font.specs.declared.font_data.FontData.{FontData}
use Rattle.bdf_font.specs.declared.font_data.FontData.TheVariants.{Bitmaps, Outlines}
use Rattle.bdf_font.specs.Fonts.{FontValue}
use Rattle.bdf_font.specs.Outlines.{outline_font}
use Rattle.bdf_font.specs.Sets.{IsFoundByName}

abbrev pub font_value : FontData → FontValue
font_value (Bitmaps font) = font
font_value (Outlines font) = outline_font font

-- what holds of each
abbrev pub IsFontData : FontData → Type 0
IsFontData (Bitmaps font) = IsFoundByName font
IsFontData (Outlines font) = IsSfntFont font
