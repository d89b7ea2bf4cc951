-- Public: what holds of every script.
use Rattle.std.specs.Prelude.{◌≡◌, ◌≢◌, ℕ, List, Result, Err}
use Rattle.bdf_font.specs.Fonts.{FontValue}
use Rattle.script_fonts.specs.declared.refusal.ScriptFontsRefusal.TheVariants.{OutOfMemory}
use Rattle.embedded_fonts.specs.Embedded.{AreEmbeddedFonts}
use Rattle.embedded_fonts.specs.declared.refusal.EmbeddedRefusal.{EmbeddedRefusal}
use Rattle.embedded_fonts.specs.declared.refusal.EmbeddedRefusal.TheVariants.{Data}

-- Each script has exactly one answer, and it isn't want of memory.
abbrev pub OneEmbeddedAnswer : Type 0
OneEmbeddedAnswer = (bytes : List ℕ) → (answer : Result (List FontValue) EmbeddedRefusal) × AreEmbeddedFonts bytes answer × (answer ≢ Err (Data OutOfMemory))
    × ((other : Result (List FontValue) EmbeddedRefusal) → AreEmbeddedFonts bytes other → other ≡ answer)
