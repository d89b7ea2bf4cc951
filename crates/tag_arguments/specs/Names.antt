-- Public: the names of tags and what each stands for (Aegisub, "ASS override tags"), as docs/TAGS.md has them.
use Rattle.std.specs.Prelude.{ℕ, nat_eq, nat_lt, codes, if◌then◌else◌, true, false, List, [], ◌∷◌, length, drop, Option, Some, None}
use Rattle.std.specs.List.{starts_with, filter}
use Rattle.std.specs.Option.{option_map}
use Rattle.tag_arguments.specs.declared.kinds.Num.TheVariants as num
use Rattle.tag_arguments.specs.declared.kinds.Sung.TheVariants as sung
use Rattle.tag_arguments.specs.declared.kinds.TagName.{TagName}
use Rattle.tag_arguments.specs.declared.kinds.TagName.TheVariants as name
use Rattle.ass_num.specs.Blanks.{past_blanks}

-- a spelling, and what it stands for
abbrev pub NameRow : Type 0
NameRow = List ℕ × TagName

-- The table of names.
abbrev pub tag_names : List NameRow
tag_names =
    (codes "b", name.Number num.Bold) ∷ (codes "i", name.Number num.Italic) ∷
    (codes "u", name.Number num.Underline) ∷ (codes "s", name.Number num.Strikeout) ∷
    (codes "fs", name.Size) ∷
    (codes "fscx", name.Number num.ScaleX) ∷ (codes "fscy", name.Number num.ScaleY) ∷ (codes "fsp", name.Number num.Spacing) ∷
    (codes "frz", name.Number num.Angle) ∷ (codes "fr", name.Number num.Angle) ∷
    (codes "bord", name.Number num.Border) ∷ (codes "xbord", name.Number num.BorderX) ∷ (codes "ybord", name.Number num.BorderY) ∷
    (codes "shad", name.Number num.Shadow) ∷ (codes "xshad", name.Number num.ShadowX) ∷ (codes "yshad", name.Number num.ShadowY) ∷
    (codes "be", name.Number num.Edges) ∷ (codes "blur", name.Number num.Blur) ∷
    (codes "p", name.Number num.Draw) ∷ (codes "pbo", name.Number num.Offset) ∷
    (codes "q", name.Wrap) ∷
    (codes "c", name.Colour 1) ∷ (codes "1c", name.Colour 1) ∷ (codes "2c", name.Colour 2) ∷ (codes "3c", name.Colour 3) ∷ (codes "4c", name.Colour 4) ∷
    (codes "alpha", name.Alpha 0) ∷ (codes "1a", name.Alpha 1) ∷ (codes "2a", name.Alpha 2) ∷ (codes "3a", name.Alpha 3) ∷ (codes "4a", name.Alpha 4) ∷
    (codes "fn", name.FontName) ∷ (codes "r", name.Reset) ∷
    (codes "an", name.Align) ∷ (codes "a", name.OldAlign) ∷
    (codes "k", name.Karaoke sung.Jump) ∷ (codes "kf", name.Karaoke sung.Sweep) ∷ (codes "K", name.Karaoke sung.Sweep) ∷ (codes "ko", name.Karaoke sung.Outline) ∷
    (codes "pos", name.Pos) ∷ (codes "org", name.Org) ∷ (codes "move", name.Move) ∷
    (codes "fad", name.Fade) ∷ (codes "fade", name.Fade) ∷
    (codes "clip", name.Clip false) ∷ (codes "iclip", name.Clip true) ∷
    (codes "t", name.Transform) ∷
    (codes "frx", name.Skipped) ∷ (codes "fry", name.Skipped) ∷ (codes "fax", name.Skipped) ∷ (codes "fay", name.Skipped) ∷
    (codes "fe", name.Skipped) ∷ (codes "kt", name.Skipped) ∷ (codes "fsc", name.Skipped) ∷ []

-- its rows whose spelling begins with a byte
abbrev pub rows_of : ℕ → List NameRow
rows_of byte = filter (λ row. starts_with nat_eq row.0 (byte ∷ [])) tag_names

-- of two rows the one with the longer spelling
abbrev pub longer_row : NameRow → NameRow → NameRow
longer_row row other = if nat_lt (length row.0) (length other.0) then other else row

-- the same where there may be no row
abbrev pub longer_found : Option NameRow → Option NameRow → Option NameRow
longer_found None other = other
longer_found (Some row) None = Some row
longer_found (Some row) (Some other) = Some (longer_row row other)

-- of the rows whose spelling a text begins with, the one with the longest spelling
abbrev pub longest_row : List NameRow → List ℕ → Option NameRow
longest_row [] text = None
longest_row (row ∷ rows) text = if starts_with nat_eq text row.0 then longer_found (Some row) (longest_row rows text) else longest_row rows text

-- what a row stands for, and the text behind its spelling
abbrev pub found_by : List ℕ → NameRow → TagName × List ℕ
found_by text row = (row.1, drop (length row.0) text)

-- the longest name that a text begins with: what it stands for, and the text behind it
unfoldable pub longest_name : List ℕ → Option (TagName × List ℕ)
longest_name text = option_map (found_by text) (longest_row tag_names text)

-- The name that the text of a tag behind its `\` begins with; blanks may stand before it.
abbrev pub tag_name : List ℕ → Option (TagName × List ℕ)
tag_name text = longest_name (past_blanks text)
