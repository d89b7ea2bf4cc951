-- Public: the syllable of a character (docs/TAGS.md).
use Rattle.std.specs.Prelude.{ℕ, ◌+◌, ℤ, pos, ◌+ℤ◌, List, [], ◌∷◌, Option, Some, None}
use Rattle.override_tags.specs.declared.tag.Tag.TheVariants.{Karaoke}
use Rattle.override_tags.specs.declared.view.Syllable.{Syllable}
use Rattle.tag_state.specs.Setters.{Effect, Plain}

-- how long an effect lengthens the song, in milliseconds
abbrev pub sung_len : Effect → ℤ
sung_len (Plain (Karaoke _ len)) = len
sung_len _ = pos 0

-- the lengths of all syllables before a character together
abbrev pub sung_until : List Effect → ℤ
sung_until [] = pos 0
sung_until (effect ∷ earlier) = sung_until earlier +ℤ sung_len effect

abbrev pub syllable_count : Effect → ℕ
syllable_count (Plain (Karaoke _ _)) = 1
syllable_count _ = 0

-- how many syllables there are before a character
abbrev pub syllables_in : List Effect → ℕ
syllables_in [] = 0
syllables_in (effect ∷ earlier) = syllables_in earlier + syllable_count effect

-- the syllable behind an effect: one that begins there, or else the one before
abbrev pub sung_by : List Effect → Option Syllable → Effect → Option Syllable
sung_by earlier sung (Plain (Karaoke kind len)) =
    Some (record { kind = kind; begin = sung_until earlier; end = sung_until earlier +ℤ len; index = syllables_in earlier })
sung_by earlier sung _ = sung

-- The syllable of a character: that of the last tag of a syllable. It begins when all syllables before it are over.
abbrev pub sung_at : List Effect → Option Syllable
sung_at [] = None
sung_at (effect ∷ earlier) = sung_by earlier (sung_at earlier) effect
