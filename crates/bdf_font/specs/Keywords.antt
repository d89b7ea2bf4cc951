-- Public: the keywords of the format, in exact case.
use Rattle.std.specs.Prelude.{ℕ, List, codes, if◌then◌else◌}
use Rattle.std.specs.Str.{bytes_eq}
use Rattle.bdf_font.specs.declared.keyword.Keyword.{Keyword}
use Rattle.bdf_font.specs.declared.keyword.Keyword.TheVariants as keyword
use Rattle.bdf_font.specs.declared.keyword.GlyphKeyword.TheVariants as in_glyph
use Rattle.bdf_font.specs.declared.keyword.HeaderKeyword.TheVariants as in_header
use Rattle.bdf_font.specs.declared.keyword.PropertyKeyword.TheVariants as property

-- the properties that count; every other word is unknown
unfoldable pub property_keyword_of : List ℕ → Keyword
property_keyword_of word =
    if bytes_eq word (codes "FONT_ASCENT") then keyword.Header (in_header.Property property.Ascent)
    else if bytes_eq word (codes "FONT_DESCENT") then keyword.Header (in_header.Property property.Descent)
    else if bytes_eq word (codes "DEFAULT_CHAR") then keyword.Header (in_header.Property property.DefaultChar)
    else if bytes_eq word (codes "FAMILY_NAME") then keyword.Header (in_header.Property property.FamilyName)
    else keyword.Unknown

-- the keywords of the font itself, and the properties
unfoldable pub font_keyword_of : List ℕ → Keyword
font_keyword_of word =
    if bytes_eq word (codes "STARTFONT") then keyword.StartFont
    else if bytes_eq word (codes "ENDFONT") then keyword.EndFont
    else if bytes_eq word (codes "FONT") then keyword.Header in_header.Name
    else if bytes_eq word (codes "FONTBOUNDINGBOX") then keyword.Header in_header.Box
    else if bytes_eq word (codes "STARTPROPERTIES") then keyword.Header in_header.StartProperties
    else if bytes_eq word (codes "ENDPROPERTIES") then keyword.Header in_header.EndProperties
    else property_keyword_of word

-- what the first word of a line says
unfoldable pub keyword_of : List ℕ → Keyword
keyword_of word =
    if bytes_eq word (codes "STARTCHAR") then keyword.StartChar
    else if bytes_eq word (codes "ENCODING") then keyword.Glyph in_glyph.Encoding
    else if bytes_eq word (codes "DWIDTH") then keyword.Glyph in_glyph.Width
    else if bytes_eq word (codes "BBX") then keyword.Glyph in_glyph.Box
    else if bytes_eq word (codes "BITMAP") then keyword.Glyph in_glyph.Bitmap
    else if bytes_eq word (codes "ENDCHAR") then keyword.Glyph in_glyph.EndChar
    else font_keyword_of word
