-- Inner: the places of glyphs by their codes, as a font keeps them.
use Rattle.std.specs.Prelude.{◌≡◌, ℕ, ◌+◌, if◌then◌else◌, List, [], ◌∷◌, Option, Some, None, ℤ}
use Rattle.std.specs.List.Sorted.{IsSortedByKey}
use Rattle.std.specs.Ordering.{int_cmp, int_eq}
use Rattle.bdf_font.specs.declared.glyphs.FontGlyph.{FontGlyph}
use Rattle.bdf_font.specs.Fonts.{place_from}

-- the codes of glyphs with their places, of which the first is n
abbrev pub entries_from : ℕ → List FontGlyph → List (ℤ × ℕ)
entries_from n [] = []
entries_from n (g ∷ glyphs) = (g.code, n) ∷ entries_from (n + 1) glyphs

-- the place of the first entry with this code
abbrev pub first_at : ℤ → List (ℤ × ℕ) → Option ℕ
first_at code [] = None
first_at code (entry ∷ entries) = if int_eq entry.0 code then Some entry.1 else first_at code entries

-- in the order of the codes
abbrev pub IsInCodeOrder : List (ℤ × ℕ) → Type 0
IsInCodeOrder entries = IsSortedByKey (λ entry. entry.0) int_cmp entries

-- the entries have the first place of each code, and stand in the order of the codes
pub record IsIndex (entries : List (ℤ × ℕ)) (glyphs : List FontGlyph) : Type 0 where
  pub in_order : IsInCodeOrder entries
  pub known : (code : ℤ) → first_at code entries ≡ place_from 0 code glyphs
