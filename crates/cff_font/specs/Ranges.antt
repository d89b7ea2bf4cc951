-- Public: what holds of each font and its parts.
use Rattle.std.specs.Prelude.{◌+◌, ◌≤◌, All, IfSome}
use Rattle.ass_num.specs.Limits.{max_file_bytes}
use Rattle.cff_font.specs.declared.indexes.Index.{Index}
use Rattle.cff_font.specs.declared.machine.Machine.{Machine}
use Rattle.cff_font.specs.declared.machine.Program.{Program}
use Rattle.cff_font.specs.declared.read.CffFont.{CffFont}
use Rattle.cff_font.specs.declared.read.FontDicts.{FontDicts}
use Rattle.cff_font.specs.declared.tokens.Span.{Span}
use Rattle.cff_font.specs.Machines.{max_hints}

-- bytes of a file
pub record IsFileSpan (span : Span) : Type 0 where
  pub ascends : span.from ≤ span.to
  pub within : span.to ≤ max_file_bytes

-- an INDEX in a file
pub record IsFileIndex (index : Index) : Type 0 where
  pub few : index.count ≤ 65535
  pub small : index.size ≤ 4
  pub first : index.first ≤ max_file_bytes + 3
  pub base : index.base ≤ max_file_bytes
  pub end : index.end ≤ max_file_bytes

-- a list of font DICTs in a file, and the place of FDSelect
pub record AreDicts (found : FontDicts) : Type 0 where
  pub dicts : IsFileIndex found.dicts
  pub select : found.select ≤ max_file_bytes

-- The parts of a font lie in its file.
pub record IsCffFont (font : CffFont) : Type 0 where
  pub place : font.place ≤ max_file_bytes
  pub stop : font.stop ≤ max_file_bytes
  pub globals : IsFileIndex font.globals
  pub glyphs : IsFileIndex font.glyphs
  pub top : IsFileSpan font.top
  pub dicts : IfSome font.dicts AreDicts

pub record IsProgram (program : Program) : Type 0 where
  pub shared : IsFileIndex program.shared
  pub own : IsFileIndex program.own

-- The machine stands in the file, and met no more hints than it may.
pub record IsMachine (m : Machine) : Type 0 where
  pub place : IsFileSpan m.place
  pub calls : All IsFileSpan m.calls
  pub few : m.hints ≤ max_hints
