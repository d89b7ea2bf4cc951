-- Public: the ranges of what a script holds.
use Rattle.std.specs.Prelude.{◌≡◌, ℕ, ◌≤◌, ◌⊎◌, true, length, All, IfSome}
use Rattle.std.specs.Str.{IsUtf8}
use Rattle.ass_num.specs.Limits.{IsWithin, IsHeldNumber, IsHeldLength, max_whole}
use Rattle.ass_script.specs.Limits.{max_canvas_side, max_lines, max_styles}
use Rattle.ass_script.specs.Fields.{ends_in_text}
use Rattle.ass_script.specs.Scripts.{ScriptValue}
use Rattle.ass_script.specs.declared.script.Header.{Header}
use Rattle.ass_script.specs.declared.style.Style.{Style}
use Rattle.ass_script.specs.declared.header_lines.HeaderLines.{HeaderLines}
use Rattle.ass_script.specs.declared.reading.Reading.{Reading}

-- a width or a height of the script's canvas
abbrev pub IsCanvasSide : ℕ → Type 0
IsCanvasSide n = (1 ≤ n) × (n ≤ max_canvas_side)

pub record IsScriptHeader (header : Header) : Type 0 where
  pub width : IsCanvasSide header.res_x
  pub height : IsCanvasSide header.res_y
  pub wrap : header.wrap ≤ 3

pub record IsStyle (style : Style) : Type 0 where
  pub name : IsUtf8 style.name
  pub font : IsUtf8 style.font
  pub size : IsHeldLength style.size
  pub colours : length style.colours ≡ 4
  pub scale_x : IsHeldLength style.scale_x
  pub scale_y : IsHeldLength style.scale_y
  pub spacing : IsHeldNumber style.spacing
  pub angle : IsHeldNumber style.angle
  pub border_style : (style.border_style ≡ 1) ⊎ (style.border_style ≡ 3)
  pub outline : IsHeldLength style.outline
  pub shadow : IsHeldLength style.shadow
  pub some_alignment : 1 ≤ style.alignment
  pub alignment : style.alignment ≤ 9
  pub margin_l : IsWithin max_whole style.margin_l
  pub margin_r : IsWithin max_whole style.margin_r
  pub margin_v : IsWithin max_whole style.margin_v

-- A script that a text spells.
pub record IsScript (script : ScriptValue) : Type 0 where
  pub header : IsScriptHeader script.header
  pub styles : All IsStyle script.styles
  pub few_styles : length script.styles ≤ max_styles
  pub format : ends_in_text script.format ≡ true
  pub lines : All IsUtf8 script.lines
  pub few_lines : length script.lines ≤ max_lines

-- ---- while a script is read

pub record IsHeaderLines (h : HeaderLines) : Type 0 where
  pub width : IfSome h.res_x IsCanvasSide
  pub height : IfSome h.res_y IsCanvasSide
  pub wrap : h.wrap ≤ 3

pub record IsScriptReading (r : Reading) : Type 0 where
  pub header : IsHeaderLines r.header
  pub styles : All IsStyle r.styles
  pub few_styles : length r.styles ≤ max_styles
  pub format : IfSome r.format (λ fields. ends_in_text fields ≡ true)
  pub lines : All IsUtf8 r.lines
  pub few_lines : length r.lines ≤ max_lines
