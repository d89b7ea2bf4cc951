-- The reader's walk over the lines as a whole: one step a line.
use Rattle.std.proofs.Common.{◌≡◌, ℕ, ◌+◌, List, [], ◌∷◌, Ok, Err, Result, refl, ap, ◌∙◌}
use Rattle.bdf_font.specs.Limits.{max_glyphs}
use Rattle.bdf_font.specs.declared.cause.FontCause.TheVariants.{NoEnd}
use Rattle.bdf_font.specs.declared.cause.FontRefusal.{FontRefusal}
use Rattle.bdf_font.specs.declared.cause.FontRefusal.TheVariants.{BadFont, TooLarge}
use Rattle.bdf_font.specs.declared.reading.Reading.{Reading}
use Rattle.bdf_font.specs.Fonts.{FontValue}
use Rattle.bdf_font.specs.Rows.{Outcome, Next, End, Fault, Full}
use Rattle.bdf_font.specs.Steps.{font_made, reading_after}

-- what the lines from line n on lead to, after the lines before them
unfoldable pub lines_read : ℕ → List (List ℕ) → Reading → Result FontValue FontRefusal
lines_read n [] reading = Err (BadFont n NoEnd)
lines_read n (line ∷ lines) reading =
    elim (reading_after line reading) [
      | Next next ↦ lines_read (n + 1) lines next
      | End last ↦ Ok (font_made last.header last.glyphs)
      | Fault cause ↦ Err (BadFont n cause)
      | Full ↦ Err (TooLarge max_glyphs)
    ]

-- what follows from a line's outcome
abbrev pub after_line : ℕ → List (List ℕ) → Outcome Reading → Result FontValue FontRefusal
after_line n lines (Next next) = lines_read (n + 1) lines next
after_line n lines (End last) = Ok (font_made last.header last.glyphs)
after_line n lines (Fault cause) = Err (BadFont n cause)
after_line n lines Full = Err (TooLarge max_glyphs)

pub read_line : (n : ℕ) (line : List ℕ) (lines : List (List ℕ)) (reading : Reading) → lines_read n (line ∷ lines) reading ≡ after_line n lines (reading_after line reading)
unfolding lines_read
read_line n line lines reading = cases (reading_after line reading)
  where
    cases : (outcome : Outcome Reading) → elim outcome [ Next next ↦ lines_read (n + 1) lines next | End last ↦ Ok (font_made last.header last.glyphs) | Fault cause ↦ Err (BadFont n cause) | Full ↦ Err (TooLarge max_glyphs) ] ≡ after_line n lines outcome
    cases (Next next) = refl
    cases (End last) = refl
    cases (Fault cause) = refl
    cases Full = refl

pub read_none : (n : ℕ) (reading : Reading) → lines_read n [] reading ≡ Err (BadFont n NoEnd)
unfolding lines_read
read_none n reading = refl

-- what a line's outcome makes of the walk
pub read_at : (n : ℕ) (line : List ℕ) (lines : List (List ℕ)) (reading : Reading) (outcome : Outcome Reading) → reading_after line reading ≡ outcome → lines_read n (line ∷ lines) reading ≡ after_line n lines outcome
read_at n line lines reading outcome e = read_line n line lines reading ∙ ap (after_line n lines) e
