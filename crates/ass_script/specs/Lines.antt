-- Public: the lines of a script: the section that each stands in, and its key and value.
use Rattle.std.specs.Prelude.{ℕ, ◌-◌, ◌==◌, ◌&&◌, Bool, if◌then◌else◌, List, [], ◌∷◌, length, slice_index, codes}
use Rattle.std.specs.List.{list_any, before_first, after_first}
use Rattle.ass_num.specs.Blanks.{trimmed}
use Rattle.ass_num.specs.Bytes.{open_bracket, close_bracket, semicolon}
use Rattle.ass_num.specs.Names.{same_name}
use Rattle.ass_script.specs.Words.{is_colon}
use Rattle.ass_script.specs.declared.lines.Version.{Version}
use Rattle.ass_script.specs.declared.lines.Version.TheVariants.{V4, V4Plus}
use Rattle.ass_script.specs.declared.lines.Section.{Section}
use Rattle.ass_script.specs.declared.lines.Section.TheVariants as section
use Rattle.ass_script.specs.declared.lines.Key.{Key}
use Rattle.ass_script.specs.declared.lines.Key.TheVariants as key

-- a line by its key, and what stands behind the colon
pub record Line : Type 0 where
  pub key : Key
  pub value : List ℕ

-- the text begins with `[` and ends with `]`
abbrev pub is_bracketed : List ℕ → Bool
is_bracketed text = (slice_index text 0 == open_bracket) && (slice_index text (length text - 1) == close_bracket)

-- a heading, blanks at the ends aside
unfoldable pub is_heading : List ℕ → Bool
is_heading text = is_bracketed (trimmed text)

-- the section that a heading begins, without regard to ASCII case
unfoldable pub section_named : List ℕ → Section
section_named heading =
    if same_name heading (codes "[Script Info]") then section.Info
    else if same_name heading (codes "[V4+ Styles]") then section.Styles V4Plus
    else if same_name heading (codes "[V4 Styles]") then section.Styles V4
    else if same_name heading (codes "[Events]") then section.Events
    else section.Other

unfoldable pub info_key_named : List ℕ → Key
info_key_named word =
    if same_name word (codes "PlayResX") then key.ResX
    else if same_name word (codes "PlayResY") then key.ResY
    else if same_name word (codes "WrapStyle") then key.Wrap
    else if same_name word (codes "ScaledBorderAndShadow") then key.Scaled
    else if same_name word (codes "YCbCr Matrix") then key.Matrix
    else key.Other

unfoldable pub style_key_named : Version → List ℕ → Key
style_key_named version word =
    if same_name word (codes "Style") then key.Style version
    else if same_name word (codes "Format") then key.StyleFormat version
    else key.Other

unfoldable pub event_key_named : List ℕ → Key
event_key_named word =
    if same_name word (codes "Dialogue") then key.Dialogue
    else if same_name word (codes "Format") then key.EventFormat
    else key.Other

-- the key of a word in a section, without regard to ASCII case
abbrev pub key_named : Section → List ℕ → Key
key_named section.Info word = info_key_named word
key_named (section.Styles version) word = style_key_named version word
key_named section.Events word = event_key_named word
key_named section.Other word = key.Other

-- a line that begins with `;`
abbrev pub is_comment : List ℕ → Bool
is_comment text = slice_index text 0 == semicolon

-- a comment and a line without a colon say nothing; every other line is cut at its first colon
unfoldable pub keyed_line : Section → List ℕ → Line
keyed_line s text =
    if is_comment text then record { key = key.Other; value = [] }
    else if list_any is_colon text then record { key = key_named s (trimmed (before_first is_colon text)); value = after_first is_colon text }
    else record { key = key.Other; value = [] }

-- a line that stands in a section; a heading begins its own
abbrev pub line_in : Section → List ℕ → Line
line_in s text = if is_heading text then record { key = key.Heading (section_named (trimmed text)); value = [] } else keyed_line s text

-- the section behind a line
abbrev pub section_behind : Section → List ℕ → Section
section_behind s text = if is_heading text then section_named (trimmed text) else s

-- the lines of a text behind a section's lines, each in the section of the last heading before it
abbrev pub lines_in_sections : Section → List (List ℕ) → List Line
lines_in_sections s [] = []
lines_in_sections s (text ∷ texts) = line_in s text ∷ lines_in_sections (section_behind s text) texts
