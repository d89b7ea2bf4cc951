-- Public: the fonts that a script holds.
use Rattle.std.specs.Prelude.{◌≡◌, ◌⊎◌, ℕ, ◌+◌, nat_le, if◌then◌else◌, List, [], ◌∷◌, ◌++◌, length, Result, Ok, Err}
use Rattle.bdf_font.specs.Files.{IsFontFileAnswer}
use Rattle.bdf_font.specs.Fonts.{FontValue}
use Rattle.bdf_font.specs.Limits.{max_fonts}
use Rattle.bdf_font.specs.declared.cause.FontFileRefusal.{FontFileRefusal}
use Rattle.script_fonts.specs.Attachments.{script_fonts_of}
use Rattle.script_fonts.specs.declared.font.ScriptFont.{ScriptFont}
use Rattle.script_fonts.specs.declared.refusal.ScriptFontsRefusal.{ScriptFontsRefusal}
use Rattle.script_fonts.specs.declared.refusal.ScriptFontsRefusal.TheVariants.{OutOfMemory}
use Rattle.embedded_fonts.specs.declared.refusal.EmbeddedRefusal.{EmbeddedRefusal}
use Rattle.embedded_fonts.specs.declared.refusal.EmbeddedRefusal.TheVariants.{Data, Font, TooMany}

-- The fonts of a file, and behind them those of the files that follow it.
abbrev pub fonts_before : List FontValue → Result (List FontValue) EmbeddedRefusal → Result (List FontValue) EmbeddedRefusal
fonts_before fonts (Ok more) = Ok (fonts ++ more)
fonts_before fonts (Err refusal) = Err refusal

-- What the files of a script answer, of which the first has this place: the fonts of all, or the first file that is none of fonts.
abbrev pub AreHeldFonts : ℕ → List ScriptFont → Result (List FontValue) EmbeddedRefusal → Type 0
AreHeldFonts place [] answer = answer ≡ Ok []
AreHeldFonts place (file ∷ files) answer =
    ((fonts : List FontValue) × IsFontFileAnswer file.bytes (Ok fonts)
    × ((more : Result (List FontValue) EmbeddedRefusal) × AreHeldFonts (place + 1) files more × (answer ≡ fonts_before fonts more)))
    ⊎ ((refusal : FontFileRefusal) × IsFontFileAnswer file.bytes (Err refusal) × (answer ≡ Err (Font place refusal)))

-- the fonts, unless they are more than a set has
abbrev pub at_most_a_set : Result (List FontValue) EmbeddedRefusal → Result (List FontValue) EmbeddedRefusal
at_most_a_set (Ok fonts) = if nat_le (length fonts) max_fonts then Ok fonts else Err TooMany
at_most_a_set (Err refusal) = Err refusal

abbrev pub AreFontsOfHeld : Result (List ScriptFont) ScriptFontsRefusal → Result (List FontValue) EmbeddedRefusal → Type 0
AreFontsOfHeld (Ok files) answer = (read : Result (List FontValue) EmbeddedRefusal) × AreHeldFonts 0 files read × (answer ≡ at_most_a_set read)
AreFontsOfHeld (Err refusal) answer = answer ≡ Err (Data refusal)

-- The answer to the fonts that the script of these bytes holds.
abbrev pub AreEmbeddedFonts : List ℕ → Result (List FontValue) EmbeddedRefusal → Type 0
AreEmbeddedFonts bytes answer = AreFontsOfHeld (script_fonts_of bytes) answer

-- The same where memory may run out, of which nothing is said.
abbrev pub IsEmbeddedAnswer : List ℕ → Result (List FontValue) EmbeddedRefusal → Type 0
IsEmbeddedAnswer bytes (Err (Data OutOfMemory)) = Unit {0}
IsEmbeddedAnswer bytes answer = AreEmbeddedFonts bytes answer

-- ---- one file

-- What the file at a place answers; nothing is said where memory ran out.
abbrev pub IsFileAnswer : ℕ → List ℕ → Result (List FontValue) EmbeddedRefusal → Type 0
IsFileAnswer place bytes (Ok fonts) = IsFontFileAnswer bytes (Ok fonts)
IsFileAnswer place bytes (Err (Font at refusal)) = (at ≡ place) × IsFontFileAnswer bytes (Err refusal)
IsFileAnswer place bytes (Err (Data OutOfMemory)) = Unit {0}
IsFileAnswer place bytes (Err refusal) = ⊥
