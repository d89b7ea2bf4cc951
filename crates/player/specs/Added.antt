-- Public: the fonts that a script holds, behind those of a player.
use Rattle.std.specs.Prelude.{◌≡◌, ◌⊎◌, ℕ, ◌+◌, ◌<◌, ◌≤◌, List, ◌++◌, length, Result, Ok, Err}
use Rattle.bdf_font.specs.Fonts.{FontValue}
use Rattle.bdf_font.specs.Limits.{max_fonts}
use Rattle.embedded_fonts.specs.Embedded.{AreEmbeddedFonts}
use Rattle.embedded_fonts.specs.declared.refusal.EmbeddedRefusal.{EmbeddedRefusal}
use Rattle.embedded_fonts.specs.declared.refusal.EmbeddedRefusal.TheVariants.{Data, TooMany}
use Rattle.script_fonts.specs.declared.refusal.ScriptFontsRefusal.TheVariants.{OutOfMemory}
use Rattle.player.specs.Players.{PlayerView}

-- The fonts of a script are more than a set has, with those of the player or alone.
abbrev pub AreTooMany : List ℕ → PlayerView → Type 0
AreTooMany bytes old =
    AreEmbeddedFonts bytes (Err TooMany) ⊎ ((fonts : List FontValue) × AreEmbeddedFonts bytes (Ok fonts) × (max_fonts < length old.fonts + length fonts))

-- All fonts that a script holds were put behind the others, or why they weren't, and nothing changed; nothing is said of why memory ran out.
abbrev pub AreScriptFontsAdded : List ℕ → PlayerView → PlayerView → Result ℕ EmbeddedRefusal → Type 0
AreScriptFontsAdded bytes old new (Ok count) =
    (fonts : List FontValue) × AreEmbeddedFonts bytes (Ok fonts) × (count ≡ length fonts) × (length old.fonts + count ≤ max_fonts)
    × (new ≡ record old { fonts = old.fonts ++ fonts })
AreScriptFontsAdded bytes old new (Err (Data OutOfMemory)) = new ≡ old
AreScriptFontsAdded bytes old new (Err TooMany) = (new ≡ old) × AreTooMany bytes old
AreScriptFontsAdded bytes old new (Err refusal) = (new ≡ old) × AreEmbeddedFonts bytes (Err refusal)
