-- Public: texts without the blanks at their ends.
use Rattle.std.specs.Prelude.{ℕ, ◌-◌, List, length, take, drop}
use Rattle.std.specs.List.{prefix_len, suffix_len}
use Rattle.ass_num.specs.Numerals.{is_blank}

-- the text from its first byte on that is no blank
unfoldable pub past_blanks : List ℕ → List ℕ
past_blanks text = drop (prefix_len is_blank text) text

-- the text without the blanks at its end
unfoldable pub before_blanks : List ℕ → List ℕ
before_blanks text = take (length text - suffix_len is_blank text) text

-- the text without the blanks at both its ends
unfoldable pub trimmed : List ℕ → List ℕ
trimmed text = before_blanks (past_blanks text)
