-- What is read is no longer than the script.
use Rattle.std.proofs.Common.{ℕ, suc, ◌+◌, ◌-◌, ◌%◌, ◌≤◌, zero, Bool, true, false, cond, ◌&&◌, List, [], ◌∷◌, length, map, take, drop, Result, Ok, Err, Option, Some, None, ap, subst, arith, length-append, length-drop, length-take}
use Rattle.std.specs.Prelude.{All, ◌==◌, nat_lt, slice_index}
use Rattle.std.specs.List.{before_first, concat, prefix_len, position_or_len, suffix_len, starts_with}
use Rattle.std.specs.Bool.{nat_eq}
use Rattle.std.specs.Option.{option_map_or}
use Rattle.std.proofs.lemmas.List.Elements.{All-nil, All-cons}
use Rattle.bstr.specs.Text.{lines_of, no_cr, without_terminator}
use Rattle.bstr.proofs.lemmas.RestLemmas.{concat-lines_of}
use Rattle.ass_num.specs.Numerals.{is_blank}
use Rattle.ass_num.specs.Blanks.{past_blanks, before_blanks, trimmed}
use Rattle.ass_script.specs.Words.{past_mark}
use Rattle.script_fonts.specs.Coding.{decoded}
use Rattle.script_fonts.specs.Attachments.{Attachment, bare_lines, begins_section, begins_fonts, begins_font, ends_font, file_name_in, attached, first_bad_line, font_of_characters, attached_font, font_before, attached_fonts}
use Rattle.script_fonts.specs.Laws.{FontsFitTheirText}
use Rattle.script_fonts.specs.declared.font.ScriptFont.{ScriptFont}
use Rattle.script_fonts.specs.declared.refusal.ScriptFontsRefusal.{ScriptFontsRefusal}
use Rattle.script_fonts.specs.declared.refusal.ScriptFontsRefusal.TheVariants.{BadCharacter, BadLength}

pub past_mark_shorter : (bytes : List ℕ) → length (past_mark bytes) ≤ length bytes
unfolding past_mark
past_mark_shorter bytes = cases (starts_with nat_eq bytes (239 ∷ 187 ∷ 191 ∷ []))
  where
    cases : (b : Bool) → length (cond b (drop 3 bytes) bytes) ≤ length bytes
    cases true = omega (arith, length-drop 3 bytes)
    cases false = omega arith

take_shorter : {X : Type 0} (n : ℕ) (xs : List X) → length (take n xs) ≤ length xs
take_shorter n xs = omega (arith, length-take n xs)

trimmed_shorter : (line : List ℕ) → length (trimmed line) ≤ length line
unfolding trimmed past_blanks before_blanks
trimmed_shorter line =
    let behind = drop (prefix_len is_blank line) line in
    omega (arith, length-drop (prefix_len is_blank line) line, take_shorter (length behind - suffix_len is_blank behind) behind)

bare_shorter : (line : List ℕ) → length (trimmed (without_terminator line)) ≤ length line
bare_shorter line = omega (arith, trimmed_shorter (without_terminator line), cases (nat_lt 0 (length line) && (slice_index line (length line - 1) == 10)))
  where
    carriage : (b : Bool) → length (cond b (take (length (take (length line - 1) line) - 1) (take (length line - 1) line)) (take (length line - 1) line)) ≤ length line
    carriage true = omega (arith, take_shorter (length (take (length line - 1) line) - 1) (take (length line - 1) line), take_shorter (length line - 1) line)
    carriage false = take_shorter (length line - 1) line

    cases : (b : Bool) → length (cond b (no_cr (take (length line - 1) line)) line) ≤ length line
    cases true = carriage (nat_lt 0 (length (take (length line - 1) line)) && (slice_index (take (length line - 1) line) (length (take (length line - 1) line) - 1) == 13))
    cases false = omega arith

lines_shorter : (lines : List (List ℕ)) → length (concat (map trimmed (map without_terminator lines))) ≤ length (concat lines)
lines_shorter [] = omega arith
lines_shorter (line ∷ lines) =
    omega (arith, length-append (trimmed (without_terminator line)) (concat (map trimmed (map without_terminator lines))), length-append line (concat lines), bare_shorter line, lines_shorter lines)

all_shorter : (bytes : List ℕ) → length (concat (bare_lines bytes)) ≤ length bytes
all_shorter bytes = omega (arith, lines_shorter (lines_of (past_mark bytes)), ap length (concat-lines_of (past_mark bytes)), past_mark_shorter bytes)

first_lines_shorter : (n : ℕ) (lines : List (List ℕ)) → length (concat (take n lines)) ≤ length (concat lines)
first_lines_shorter zero lines = omega arith
first_lines_shorter (suc n) [] = omega arith
first_lines_shorter (suc n) (line ∷ lines) = omega (arith, length-append line (concat (take n lines)), length-append line (concat lines), first_lines_shorter n lines)

decoded_shorter : (characters : List ℕ) → length (decoded characters) ≤ length characters
decoded_shorter [] = omega arith
decoded_shorter (a ∷ []) = omega arith
decoded_shorter (a ∷ b ∷ []) = omega arith
decoded_shorter (a ∷ b ∷ c ∷ []) = omega arith
decoded_shorter (a ∷ b ∷ c ∷ d ∷ more) = omega (arith, decoded_shorter more)

-- ---- fonts

abbrev IsShortFont : ℕ → ScriptFont → Type 0
IsShortFont n font = length font.bytes ≤ n

-- the fonts of a result are short
abbrev AreShort : ℕ → Result (List ScriptFont) ScriptFontsRefusal → Type 0
AreShort n (Ok fonts) = All (IsShortFont n) fonts
AreShort n (Err refusal) = Unit {0}

abbrev IsShort : ℕ → Result ScriptFont ScriptFontsRefusal → Type 0
IsShort n (Ok font) = IsShortFont n font
IsShort n (Err refusal) = Unit {0}

font_short : (name : List ℕ) (line : ℕ) (characters : List ℕ) (n : ℕ) → length characters ≤ n → IsShort n (font_of_characters name line characters)
font_short name line characters n few = cases (length characters % 4 == 1)
  where
    cases : (b : Bool) → IsShort n (cond b (Err (BadLength line)) (Ok (record { name = name; bytes = decoded characters })))
    cases true = tt
    cases false = omega (arith, decoded_shorter characters, few)

attached_short : (a : Attachment) (n : ℕ) → length (concat a.data_lines) ≤ n → IsShort n (attached_font a)
attached_short a n few = cases (first_bad_line (a.line + 1) a.data_lines)
  where
    cases : (bad : Option ℕ) → IsShort n (option_map_or (λ m. Err (BadCharacter m)) bad (font_of_characters a.name a.line (concat a.data_lines)))
    cases None = font_short a.name a.line (concat a.data_lines) n few
    cases (Some m) = tt

before_short : (n : ℕ) (font : Result ScriptFont ScriptFontsRefusal) (more : Result (List ScriptFont) ScriptFontsRefusal) → IsShort n font → AreShort n more → AreShort n (font_before font more)
before_short n (Err refusal) more h k = tt
before_short n (Ok font) (Err refusal) h k = tt
before_short n (Ok font) (Ok fonts) h k = All-cons (IsShortFont n) font fonts h k

abbrev AllShort : ℕ → ℕ → List (List ℕ) → Type 0
AllShort n number lines = (here : Bool) → AreShort n (attached_fonts (attached here number lines))

line_short : (n number : ℕ) (line : List ℕ) (lines : List (List ℕ)) → length (concat lines) ≤ n → AllShort n (number + 1) lines → AllShort n number (line ∷ lines)
line_short n number line lines few rest here = heading (begins_section line)
  where
    font : (b : Bool) → AreShort n (attached_fonts (cond b (record { name = file_name_in line; line = number; data_lines = before_first ends_font lines } ∷ attached here (number + 1) lines) (attached here (number + 1) lines)))
    font true =
        before_short n (attached_font (record { name = file_name_in line; line = number; data_lines = before_first ends_font lines })) (attached_fonts (attached here (number + 1) lines))
        (attached_short (record { name = file_name_in line; line = number; data_lines = before_first ends_font lines }) n (omega (arith, first_lines_shorter (position_or_len ends_font lines) lines, few)))
        (rest here)
    font false = rest here

    heading : (b : Bool) →
        AreShort n (attached_fonts (cond b (attached (begins_fonts line) (number + 1) lines) (cond (here && begins_font line) (record { name = file_name_in line; line = number; data_lines = before_first ends_font lines } ∷ attached here (number + 1) lines) (attached here (number + 1) lines))))
    heading true = rest (begins_fonts line)
    heading false = font (here && begins_font line)

fonts_short : (n number : ℕ) (lines : List (List ℕ)) → length (concat lines) ≤ n → AllShort n number lines
fonts_short n number [] few = λ here. All-nil (IsShortFont n)
fonts_short n number (line ∷ lines) few =
    let less : length (concat lines) ≤ n = omega (arith, length-append line (concat lines), few) in
    line_short n number line lines less (fonts_short n (number + 1) lines less)

pub fonts_fit : FontsFitTheirText
fonts_fit bytes fonts e = subst (AreShort (length bytes)) e (fonts_short (length bytes) 1 (bare_lines bytes) (all_shorter bytes) false)
