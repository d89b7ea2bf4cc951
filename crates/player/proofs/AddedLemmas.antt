-- The fonts that a script holds, behind those of a player.
use Rattle.std.proofs.Common.{ℕ, ◌+◌, ◌<◌, List, length, Ok, Err, inl, inr, refl}
use Rattle.bdf_font.specs.Fonts.{FontValue}
use Rattle.bdf_font.specs.Limits.{max_fonts}
use Rattle.embedded_fonts.specs.Embedded.{AreEmbeddedFonts, IsEmbeddedAnswer}
use Rattle.embedded_fonts.specs.declared.refusal.EmbeddedRefusal.{EmbeddedRefusal}
use Rattle.embedded_fonts.specs.declared.refusal.EmbeddedRefusal.TheVariants.{Data, Font, TooMany}
use Rattle.script_fonts.specs.declared.refusal.ScriptFontsRefusal.TheVariants.{BadCharacter, BadLength, OutOfMemory}
use Rattle.player.specs.Added.{AreScriptFontsAdded}
use Rattle.player.specs.Players.{PlayerView}

-- a refusal of the script's own fonts
pub held_refused : (bytes : List ℕ) (old : PlayerView) (refusal : EmbeddedRefusal) → IsEmbeddedAnswer bytes (Err refusal) → AreScriptFontsAdded bytes old old (Err refusal)
held_refused bytes old (Data OutOfMemory) is = refl
held_refused bytes old (Data (BadCharacter line)) is = (refl, is)
held_refused bytes old (Data (BadLength line)) is = (refl, is)
held_refused bytes old (Font place refusal) is = (refl, is)
held_refused bytes old TooMany is = (refl, inl is)

-- with the player's own they are too many
pub held_too_many : (bytes : List ℕ) (old : PlayerView) (fonts : List FontValue) → AreEmbeddedFonts bytes (Ok fonts) → max_fonts < length old.fonts + length fonts
    → AreScriptFontsAdded bytes old old (Err TooMany)
held_too_many bytes old fonts is many = (refl, inr (fonts, is, many))
