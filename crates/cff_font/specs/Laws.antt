-- Public: what holds of every table, and of every glyph.
use Rattle.std.specs.Prelude.{◌≡◌, ℕ, ◌≤◌, true, List, [], All, Result, Ok, Err}
use Rattle.cff_font.specs.declared.cause.CffRefusal.{CffRefusal}
use Rattle.cff_font.specs.declared.read.CffFont.{CffFont}
use Rattle.cff_font.specs.declared.tokens.Span.{Span}
use Rattle.cff_font.specs.Fonts.{cff_of}
use Rattle.cff_font.specs.Glyphs.{cff_contours, is_blank_at_sight}
use Rattle.outline_points.specs.CubicContours.{IsGlyphStroke}

-- Each glyph of each font has contours, maybe none, whatever its bytes are.
abbrev pub AreContoursTotal : Type 0
AreContoursTotal = (bytes : List ℕ) (font : CffFont) (units g : ℕ) → All (All IsGlyphStroke) (cff_contours bytes font units g)

-- A glyph that is blank at sight has no contours.
abbrev pub AreBlanksEmpty : Type 0
AreBlanksEmpty = (bytes : List ℕ) (font : CffFont) (units g : ℕ) → is_blank_at_sight bytes font g ≡ true → cff_contours bytes font units g ≡ []

-- a fault is at one of the bytes of a table, or at its end
abbrev pub IsFaultIn : {T : Type 0} → Span → Result T CffRefusal → Type 0
IsFaultIn table (Ok found) = Unit {0}
IsFaultIn table (Err refusal) = (table.from ≤ refusal.place) × (refusal.place ≤ table.to)

abbrev pub AreFaultsIn : Type 0
AreFaultsIn = (bytes : List ℕ) (table : Span) → table.from ≤ table.to → IsFaultIn table (cff_of bytes table)
