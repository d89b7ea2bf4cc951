-- Public: words in a line.
use Rattle.std.specs.Prelude.{ℕ, ◌==◌, ◌||◌, Bool, List, drop, if◌then◌else◌, ◌∷◌, []}
use Rattle.std.specs.List.{prefix_len, starts_with}
use Rattle.std.specs.Bool.{nat_eq}
use Rattle.ass_num.specs.Bytes.{colon, comma, star}
use Rattle.ass_num.specs.Numerals.{is_blank}
use Rattle.ass_num.specs.Blanks.{before_blanks}

abbrev pub is_colon : ℕ → Bool
is_colon c = c == colon

abbrev pub is_comma : ℕ → Bool
is_comma c = c == comma

-- the text behind a byte order mark
unfoldable pub past_mark : List ℕ → List ℕ
past_mark text = if starts_with nat_eq text (239 ∷ 187 ∷ 191 ∷ []) then drop 3 text else text

-- what may stand before a style's name where it is looked for: `*` and blanks
abbrev pub is_star_or_blank : ℕ → Bool
is_star_or_blank c = (c == star) || is_blank c

-- the name that is looked for: the stars and blanks before it and the blanks behind it are dropped
unfoldable pub bare_name : List ℕ → List ℕ
bare_name text = before_blanks (drop (prefix_len is_star_or_blank text) text)
