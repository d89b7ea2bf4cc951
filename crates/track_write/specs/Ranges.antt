-- Public: the scripts that are read back as they were.
use Rattle.std.specs.Prelude.{◌≡◌, ℕ, ◌<◌, false, List, All}
use Rattle.ass_num.specs.declared.colour.Rgba.{Rgba}
use Rattle.ass_num.specs.Blanks.{trimmed}
use Rattle.ass_script.specs.Words.{is_comma}
use Rattle.ass_script.specs.Ranges.{IsScript}
use Rattle.ass_script.specs.Scripts.{ScriptValue}
use Rattle.ass_script.specs.declared.style.Style.{Style}
use Rattle.track_write.specs.Texts.{is_line_feed}

-- a text without commas and line feeds, and without blanks at its ends
pub record IsPlain (text : List ℕ) : Type 0 where
  pub no_comma : All (λ c. is_comma c ≡ false) text
  pub no_line_feed : All (λ c. is_line_feed c ≡ false) text
  pub bare : trimmed text ≡ text

-- a colour of four bytes
pub record IsByteColour (colour : Rgba) : Type 0 where
  pub r : colour.r < 256
  pub g : colour.g < 256
  pub b : colour.b < 256
  pub a : colour.a < 256

-- What a Style line can say.
pub record IsSpelledStyle (style : Style) : Type 0 where
  pub name : IsPlain style.name
  pub font : IsPlain style.font
  pub colours : All IsByteColour style.colours

-- A script that a text spells, with styles that Style lines spell.
pub record IsSpelledScript (script : ScriptValue) : Type 0 where
  pub ranges : IsScript script
  pub styles : All IsSpelledStyle script.styles
