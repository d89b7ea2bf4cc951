-- Public: the numbers and times of a line.
use Rattle.std.specs.Prelude.{ℕ, ◌+◌, ◌*◌, ◌&&◌, ◌==◌, nat_lt, nat_le, if◌then◌else◌, List, length, take, drop, slice_index, Option, Some, None, option_and_then, ℤ, pos, negsuc}
use Rattle.std.specs.List.{prefix_len, list_all}
use Rattle.ass_num.specs.Bytes.{colon, point}
use Rattle.ass_num.specs.Numerals.{is_blank, is_decimal, number_of}
use Rattle.ass_num.specs.Wholes.{whole_of}

-- `digits` digits before the byte `mark`, one to six: their number, and what follows the mark
abbrev pub part_cut : ℕ → List ℕ → ℕ → Option (ℕ × List ℕ)
part_cut mark text digits =
    if nat_lt 0 digits && (nat_le digits 6 && (nat_lt digits (length text) && (slice_index text digits == mark)))
    then Some (number_of 10 (take digits text), drop (digits + 1) text) else None

-- all the digits at the front, before that byte
abbrev pub part_before : ℕ → List ℕ → Option (ℕ × List ℕ)
part_before mark text = part_cut mark text (prefix_len is_decimal text)

-- `digits` digits, one to six, and then blanks alone
abbrev pub last_cut : List ℕ → ℕ → Option ℕ
last_cut text digits =
    if nat_lt 0 digits && (nat_le digits 6 && list_all is_blank (drop digits text)) then Some (number_of 10 (take digits text)) else None

-- all the digits at the front
abbrev pub last_part : List ℕ → Option ℕ
last_part text = last_cut text (prefix_len is_decimal text)

abbrev pub time_made : ℕ → ℕ → ℕ → ℕ → ℤ
time_made hours minutes seconds hundredths = pos (((hours * 60 + minutes) * 60 + seconds) * 1000 + hundredths * 10)

-- hours, minutes and seconds, and hundredths
abbrev pub time_at : List ℕ → Option ℤ
time_at text =
    option_and_then (λ hours. option_and_then (λ minutes. option_and_then (λ seconds. option_and_then (λ hundredths.
    Some (time_made hours.0 minutes.0 seconds.0 hundredths))
    (last_part seconds.1)) (part_before point minutes.1)) (part_before colon hours.1)) (part_before colon text)

-- the time in milliseconds that a text is, between blanks
unfoldable pub time_of : List ℕ → Option ℤ
time_of text = time_at (drop (prefix_len is_blank text) text)

abbrev pub order_in : ℤ → Option ℕ
order_in (pos n) = Some n
order_in (negsuc n) = None

-- a whole number that isn't negative
unfoldable pub order_of : List ℕ → Option ℕ
order_of text = option_and_then order_in (whole_of text)

-- a whole number, 0 where there are blanks alone
unfoldable pub whole_or_zero : List ℕ → Option ℤ
whole_or_zero text = if list_all is_blank text then Some (pos 0) else whole_of text

-- a time in milliseconds, 0 where there are blanks alone
unfoldable pub instant_of : List ℕ → Option ℤ
instant_of text = if list_all is_blank text then Some (pos 0) else time_of text
