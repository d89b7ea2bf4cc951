-- Which line the walk refuses, and what the lines around it change.
use Rattle.std.proofs.Common.{◌≡◌, ℕ, ◌+◌, ◌≤◌, List, [], ◌∷◌, ◌++◌, length, Ok, Err, Result, refl, ap, sym, ◌∙◌, arith}
use Rattle.bdf_font.specs.Limits.{max_glyphs}
use Rattle.bdf_font.specs.declared.cause.FontCause.{FontCause}
use Rattle.bdf_font.specs.declared.cause.FontCause.TheVariants.{NoEnd}
use Rattle.bdf_font.specs.declared.cause.FontRefusal.{FontRefusal}
use Rattle.bdf_font.specs.declared.cause.FontRefusal.TheVariants.{BadFont, TooLarge}
use Rattle.bdf_font.specs.declared.reading.Reading.{Reading}
use Rattle.bdf_font.specs.Fonts.{FontValue}
use Rattle.bdf_font.specs.Rows.{Outcome, Next, End, Fault, Full}
use Rattle.bdf_font.specs.Steps.{font_made, reading_after}
use Rattle.bdf_font.proofs.Walk.{lines_read, read_none, read_at}

abbrev Said : Type 0
Said = Result FontValue FontRefusal

abbrev bad : ℕ → FontCause → Said
bad n cause = Err (BadFont n cause)

same_line : (m n : ℕ) (c d : FontCause) → bad m c ≡ bad n d → m ≡ n
same_line m n c d e = cc

no_font : (font : FontValue) (n : ℕ) (c : FontCause) → Ok font ≡ bad n c → ⊥
no_font font n c e = cc

abbrev too_large : ℕ → Said
too_large most = Err (TooLarge most)

not_full : (most n : ℕ) (c : FontCause) → too_large most ≡ bad n c → ⊥
not_full most n c e = cc

-- a refused line isn't before the first one
pub at_least : (lines : List (List ℕ)) (start : ℕ) (reading : Reading) (n : ℕ) (c : FontCause) → lines_read start lines reading ≡ bad n c → start ≤ n
at_least [] start reading n c h = omega (arith, same_line start n NoEnd c (sym (read_none start reading) ∙ h))
at_least (line ∷ lines) start reading n c h = cases (λ next h. at_least lines (start + 1) next n c h) (reading_after line reading) refl
  where
    cases : ((next : Reading) → lines_read (start + 1) lines next ≡ bad n c → start + 1 ≤ n) → (outcome : Outcome Reading) → reading_after line reading ≡ outcome → start ≤ n
    cases again (Next next) e = omega (arith, again next (sym (read_at start line lines reading (Next next) e) ∙ h))
    cases again (End last) e = absurd (no_font (font_made last.header last.glyphs) n c (sym (read_at start line lines reading (End last) e) ∙ h))
    cases again (Fault d) e = omega (arith, same_line start n d c (sym (read_at start line lines reading (Fault d) e) ∙ h))
    cases again Full e = absurd (not_full max_glyphs n c (sym (read_at start line lines reading Full e) ∙ h))

pub before_fault : (front rest : List (List ℕ)) (start : ℕ) (reading : Reading) (n : ℕ) (c : FontCause) → lines_read start (front ++ rest) reading ≡ bad n c → n ≡ start + length front → lines_read start front reading ≡ bad n NoEnd
before_fault [] rest start reading n c h at = read_none start reading ∙ ap (λ k. bad k NoEnd) (omega arith)
before_fault (line ∷ front) rest start reading n c h at = cases (λ next h. before_fault front rest (start + 1) next n c h (omega arith)) (reading_after line reading) refl
  where
    cases : ((next : Reading) → lines_read (start + 1) (front ++ rest) next ≡ bad n c → lines_read (start + 1) front next ≡ bad n NoEnd) → (outcome : Outcome Reading) → reading_after line reading ≡ outcome → lines_read start (line ∷ front) reading ≡ bad n NoEnd
    cases again (Next next) e =
        read_at start line front reading (Next next) e
        ∙ again next (sym (read_at start line (front ++ rest) reading (Next next) e) ∙ h)
    cases again (End last) e = absurd (no_font (font_made last.header last.glyphs) n c (sym (read_at start line (front ++ rest) reading (End last) e) ∙ h))
    cases again (Fault d) e = absurd (omega (arith, same_line start n d c (sym (read_at start line (front ++ rest) reading (Fault d) e) ∙ h)))
    cases again Full e = absurd (not_full max_glyphs n c (sym (read_at start line (front ++ rest) reading Full e) ∙ h))

pub stays_refused : (front : List (List ℕ)) (line : List ℕ) (rest more : List (List ℕ)) (start : ℕ) (reading : Reading) (n : ℕ) (c : FontCause) →
    lines_read start (front ++ line ∷ rest) reading ≡ bad n c → n ≡ start + length front → lines_read start (front ++ line ∷ more) reading ≡ bad n c
stays_refused [] line rest more start reading n c h at = cases (reading_after line reading) refl
  where
    cases : (outcome : Outcome Reading) → reading_after line reading ≡ outcome → lines_read start (line ∷ more) reading ≡ bad n c
    cases (Next next) e = absurd (omega (arith, at_least rest (start + 1) next n c (sym (read_at start line rest reading (Next next) e) ∙ h)))
    cases (End last) e = absurd (no_font (font_made last.header last.glyphs) n c (sym (read_at start line rest reading (End last) e) ∙ h))
    cases (Fault d) e = read_at start line more reading (Fault d) e ∙ (sym (read_at start line rest reading (Fault d) e) ∙ h)
    cases Full e = absurd (not_full max_glyphs n c (sym (read_at start line rest reading Full e) ∙ h))
stays_refused (first ∷ front) line rest more start reading n c h at = cases (λ next h. stays_refused front line rest more (start + 1) next n c h (omega arith)) (reading_after first reading) refl
  where
    cases : ((next : Reading) → lines_read (start + 1) (front ++ line ∷ rest) next ≡ bad n c → lines_read (start + 1) (front ++ line ∷ more) next ≡ bad n c) → (outcome : Outcome Reading) → reading_after first reading ≡ outcome → lines_read start (first ∷ (front ++ line ∷ more)) reading ≡ bad n c
    cases again (Next next) e =
        read_at start first (front ++ line ∷ more) reading (Next next) e
        ∙ again next (sym (read_at start first (front ++ line ∷ rest) reading (Next next) e) ∙ h)
    cases again (End last) e = absurd (no_font (font_made last.header last.glyphs) n c (sym (read_at start first (front ++ line ∷ rest) reading (End last) e) ∙ h))
    cases again (Fault d) e = absurd (omega (arith, same_line start n d c (sym (read_at start first (front ++ line ∷ rest) reading (Fault d) e) ∙ h)))
    cases again Full e = absurd (not_full max_glyphs n c (sym (read_at start first (front ++ line ∷ rest) reading Full e) ∙ h))
