-- Public: words, numbers and names in a line.
use Rattle.std.specs.Prelude.{ℕ, Bool, ◌&&◌, ◌==◌, nat_lt, nat_le, int_le, if◌then◌else◌, List, length, take, drop, slice_index, Option, Some, None, option_and_then, ℤ, pos, negsuc, neg_ℤ}
use Rattle.std.specs.List.{position_or_len, before_first}
use Rattle.ass_num.specs.Bytes.{quote}
use Rattle.ass_num.specs.Numerals.{is_blank}
use Rattle.ass_num.specs.Blanks.{past_blanks, before_blanks}
use Rattle.ass_num.specs.Wholes.{whole_of}
use Rattle.bdf_font.specs.Limits.{max_bitmap_side, max_offset}
use Rattle.bdf_font.specs.declared.glyphs.BoundingBox.{BoundingBox}

-- the first word, which ends at a blank or with the text; it is empty where there is none
unfoldable pub first_word : List ℕ → List ℕ
first_word text = take (position_or_len is_blank (past_blanks text)) (past_blanks text)

-- what follows the first word
unfoldable pub after_word : List ℕ → List ℕ
after_word text = drop (position_or_len is_blank (past_blanks text)) (past_blanks text)

abbrev pub bitmap_side_in : ℤ → Option ℕ
bitmap_side_in (pos n) = if nat_le n max_bitmap_side then Some n else None
bitmap_side_in (negsuc n) = None

-- a whole number from 0 to 1,024
unfoldable pub bitmap_side_of : List ℕ → Option ℕ
bitmap_side_of word = option_and_then bitmap_side_in (whole_of word)

abbrev pub offset_in : ℤ → Option ℤ
offset_in n = if int_le (neg_ℤ (pos max_offset)) n && int_le n (pos max_offset) then Some n else None

-- a whole number within 4,096 on both sides
unfoldable pub offset_of : List ℕ → Option ℤ
offset_of word = option_and_then offset_in (whole_of word)

-- four numbers: the sides of a box, and its lower left corner
unfoldable pub bounding_box_of : List ℕ → Option BoundingBox
bounding_box_of text =
    let after_w = after_word text in
    let after_h = after_word after_w in
    let after_x = after_word after_h in
    option_and_then (λ w. option_and_then (λ h. option_and_then (λ x. option_and_then (λ y.
    Some (record { w = w; h = h; x = x; y = y }))
    (offset_of (first_word after_x))) (offset_of (first_word after_h))) (bitmap_side_of (first_word after_w))) (bitmap_side_of (first_word text))

abbrev pub is_quote : ℕ → Bool
is_quote c = c == quote

-- the text up to the next quote, or else all of it but the blanks at its end
abbrev pub quoted : List ℕ → List ℕ
quoted text = if nat_lt (position_or_len is_quote text) (length text) then before_first is_quote text else before_blanks text

abbrev pub name_at : List ℕ → List ℕ
name_at text = if is_quote (slice_index text 0) then quoted (drop 1 text) else first_word text

-- a text in quotes, or else a word
unfoldable pub family_name_of : List ℕ → List ℕ
family_name_of text = name_at (past_blanks text)
