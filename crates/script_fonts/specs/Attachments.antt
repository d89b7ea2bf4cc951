-- Public: the fonts that the sections `[Fonts]` of a script hold (ASS specification, "Embedded fonts/pictures").
use Rattle.std.specs.Prelude.{◌≡◌, ℕ, ◌+◌, ◌%◌, ◌==◌, ◌&&◌, ◌||◌, Bool, false, not, if◌then◌else◌, List, [], ◌∷◌, length, map, take, drop, codes, Option, Some, None, Result, Ok, Err}
use Rattle.std.specs.List.{list_all, before_first, concat}
use Rattle.std.specs.Str.{bytes_eq}
use Rattle.std.specs.Option.{option_map_or}
use Rattle.bstr.specs.Text.{lines_of, without_terminator}
use Rattle.ass_num.specs.Blanks.{past_blanks, trimmed}
use Rattle.ass_num.specs.Names.{same_name}
use Rattle.ass_script.specs.Words.{past_mark}
use Rattle.ass_script.specs.Lines.{is_bracketed}
use Rattle.script_fonts.specs.Coding.{is_coded, decoded}
use Rattle.script_fonts.specs.declared.refusal.ScriptFontsRefusal.{ScriptFontsRefusal}
use Rattle.script_fonts.specs.declared.refusal.ScriptFontsRefusal.TheVariants.{BadCharacter, BadLength, OutOfMemory}
use Rattle.script_fonts.specs.declared.font.ScriptFont.{ScriptFont}

-- The answer is this one, unless memory ran out.
abbrev pub UnlessMemory : {X : Type 0} → Result X ScriptFontsRefusal → Result X ScriptFontsRefusal → Type 0
UnlessMemory wanted (Ok value) = wanted ≡ Ok value
UnlessMemory wanted (Err (BadCharacter n)) = wanted ≡ Err (BadCharacter n)
UnlessMemory wanted (Err (BadLength n)) = wanted ≡ Err (BadLength n)
UnlessMemory wanted (Err OutOfMemory) = Unit {0}

-- the lines of a script behind a byte order mark, without the blanks at their ends
abbrev pub bare_lines : List ℕ → List (List ℕ)
bare_lines bytes = map trimmed (map without_terminator (lines_of (past_mark bytes)))

-- ---- lines, without the blanks at their ends

-- the line could be data: each of its characters stands for six bits
abbrev pub is_data : List ℕ → Bool
is_data line = list_all is_coded line

-- the names of sections that, in capitals, could be data
unfoldable pub is_known_heading : List ℕ → Bool
is_known_heading line = same_name line (codes "[Events]") || (same_name line (codes "[Fonts]") || same_name line (codes "[Graphics]"))

-- A heading stands in brackets. So may data, since brackets stand for six bits: then only a known name makes a heading.
unfoldable pub begins_section : List ℕ → Bool
begins_section line = is_bracketed line && (not (is_data line) || is_known_heading line)

-- the heading of a section of fonts, without regard to ASCII case
unfoldable pub begins_fonts : List ℕ → Bool
begins_fonts line = same_name line (codes "[Fonts]")

-- a line `fontname: NAME`; the word is in lower case, which no data has
unfoldable pub begins_font : List ℕ → Bool
begins_font line = bytes_eq (take 9 line) (codes "fontname:")

unfoldable pub file_name_in : List ℕ → List ℕ
file_name_in line = past_blanks (drop 9 line)

-- where the data of a font ends
abbrev pub ends_font : List ℕ → Bool
ends_font line = begins_section line || begins_font line

-- ---- the fonts

-- A font that is attached: the name of its file, the number of the line that names it, and the lines of its data.
pub record Attachment : Type 0 where
  pub name : List ℕ
  pub line : ℕ
  pub data_lines : List (List ℕ)

-- the fonts attached in some lines, of which the first has the number n and stands in a section of fonts or elsewhere
abbrev pub attached : Bool → ℕ → List (List ℕ) → List Attachment
attached here n [] = []
attached here n (line ∷ lines) =
    if begins_section line then attached (begins_fonts line) (n + 1) lines
    else if here && begins_font line then record { name = file_name_in line; line = n; data_lines = before_first ends_font lines } ∷ attached here (n + 1) lines
    else attached here (n + 1) lines

-- the number of the first line that isn't data, of lines of which the first has the number n
abbrev pub first_bad_line : ℕ → List (List ℕ) → Option ℕ
first_bad_line n [] = None
first_bad_line n (line ∷ lines) = if is_data line then first_bad_line (n + 1) lines else Some n

-- the font of a name whose line has the number n, by all its characters: one character alone says no byte
abbrev pub font_of_characters : List ℕ → ℕ → List ℕ → Result ScriptFont ScriptFontsRefusal
font_of_characters name n characters =
    if length characters % 4 == 1 then Err (BadLength n) else Ok (record { name = name; bytes = decoded characters })

-- the font of an attachment, or how its data leave the format
abbrev pub attached_font : Attachment → Result ScriptFont ScriptFontsRefusal
attached_font a =
    option_map_or (λ n. Err (BadCharacter n)) (first_bad_line (a.line + 1) a.data_lines) (font_of_characters a.name a.line (concat a.data_lines))

abbrev pub font_before : Result ScriptFont ScriptFontsRefusal → Result (List ScriptFont) ScriptFontsRefusal → Result (List ScriptFont) ScriptFontsRefusal
font_before (Err refusal) more = Err refusal
font_before (Ok font) (Err refusal) = Err refusal
font_before (Ok font) (Ok fonts) = Ok (font ∷ fonts)

-- all fonts, or the refusal of the first one that has one
abbrev pub attached_fonts : List Attachment → Result (List ScriptFont) ScriptFontsRefusal
attached_fonts [] = Ok []
attached_fonts (a ∷ more) = font_before (attached_font a) (attached_fonts more)

-- the fonts that a script holds
abbrev pub script_fonts_of : List ℕ → Result (List ScriptFont) ScriptFontsRefusal
script_fonts_of bytes = attached_fonts (attached false 1 (bare_lines bytes))
