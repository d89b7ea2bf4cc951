-- Inner: a code of the fact that fonts are within their ranges, which the caches keep.
use Rattle.std.specs.Prelude.{List, All}
use Rattle.std.specs.Coded.{Coded, prop_coded}
use Rattle.bdf_font.specs.Fonts.{FontValue}
use Rattle.bdf_font.specs.Ranges.{IsFont}
use Rattle.mask_caches.specs.FontProps.{font_props}

pub are_fonts-prop : (fonts : List FontValue) → IsProp (All IsFont fonts)
are_fonts-prop fonts = Prim.hlevel font_props

abbrev pub fonts_code : (fonts : List FontValue) → Coded (All IsFont fonts)
fonts_code fonts = prop_coded (are_fonts-prop fonts)
