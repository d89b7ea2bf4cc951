-- Inner: what one line does to what was read of the lines before it. What a script holds stands in Attachments.
use Rattle.std.specs.Prelude.{ℕ, ◌+◌, Bool, true, false, if◌then◌else◌, List, [], ◌∷◌, ◌++◌, Result, Ok, Err}
use Rattle.script_fonts.specs.Attachments.{is_data, begins_section, begins_fonts, begins_font, file_name_in, font_of_characters}
use Rattle.script_fonts.specs.declared.font.ScriptFont.{ScriptFont}
use Rattle.script_fonts.specs.declared.refusal.ScriptFontsRefusal.{ScriptFontsRefusal}
use Rattle.script_fonts.specs.declared.refusal.ScriptFontsRefusal.TheVariants.{BadCharacter}
use Rattle.script_fonts.specs.declared.reading.OpenFont.{OpenFont}
use Rattle.script_fonts.specs.declared.reading.Place.{Place}
use Rattle.script_fonts.specs.declared.reading.Place.TheVariants.{Elsewhere, Fonts, Font}
use Rattle.script_fonts.specs.declared.reading.Reading.{Reading}

abbrev pub no_lines_read : Reading
no_lines_read = record { fonts = []; place = Elsewhere; number = 1 }

abbrev pub with_font : List ScriptFont → Result ScriptFont ScriptFontsRefusal → Result (List ScriptFont) ScriptFontsRefusal
with_font fonts (Ok font) = Ok (fonts ++ font ∷ [])
with_font fonts (Err refusal) = Err refusal

-- the fonts where no more data come
abbrev pub closed : Place → List ScriptFont → Result (List ScriptFont) ScriptFontsRefusal
closed (Font begun) fonts = with_font fonts (font_of_characters begun.name begun.line begun.characters)
closed _ fonts = Ok fonts

-- the place behind a heading
abbrev pub section_place : Bool → Place
section_place true = Fonts
section_place false = Elsewhere

abbrev pub next_place : Place → ℕ → Result (List ScriptFont) ScriptFontsRefusal → Result Reading ScriptFontsRefusal
next_place place n (Ok fonts) = Ok (record { fonts = fonts; place = place; number = n + 1 })
next_place place n (Err refusal) = Err refusal

-- the font that a line begins
abbrev pub opened : List ℕ → ℕ → OpenFont
opened name n = record { name = name; line = n; characters = [] }

abbrev pub with_data : List ℕ → OpenFont → OpenFont
with_data line begun = record begun { characters = begun.characters ++ line }

-- a line that is no heading and begins no font
abbrev pub data_step : List ℕ → ℕ → List ScriptFont → Place → Result Reading ScriptFontsRefusal
data_step line n fonts (Font begun) =
    if is_data line then Ok (record { fonts = fonts; place = Font (with_data line begun); number = n + 1 }) else Err (BadCharacter n)
data_step line n fonts place = Ok (record { fonts = fonts; place = place; number = n + 1 })

-- a line in a section of fonts that is no heading
abbrev pub fonts_step : List ℕ → Reading → Result Reading ScriptFontsRefusal
fonts_step line r =
    if begins_font line then next_place (Font (opened (file_name_in line) r.number)) r.number (closed r.place r.fonts)
    else data_step line r.number r.fonts r.place

abbrev pub is_elsewhere : Place → Bool
is_elsewhere Elsewhere = true
is_elsewhere _ = false

-- a line, after the lines before it
abbrev pub line_step : List ℕ → Reading → Result Reading ScriptFontsRefusal
line_step line r =
    if begins_section line then next_place (section_place (begins_fonts line)) r.number (closed r.place r.fonts)
    else if is_elsewhere r.place then Ok (record r { number = r.number + 1 })
    else fonts_step line r
