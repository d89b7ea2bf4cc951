-- Public: the line of the report on a font's file that leaves its format (docs/PROGRAM.md).
use Rattle.std.specs.Prelude.{ℕ, List, ◌++◌, codes, decimal}
use Rattle.bdf_font.specs.declared.cause.FontCause.{FontCause}
use Rattle.bdf_font.specs.declared.cause.FontCause.TheVariants as lines
use Rattle.cff_font.specs.declared.cause.CffCause.{CffCause}
use Rattle.cff_font.specs.declared.cause.CffCause.TheVariants.{Short, Version, BadIndex, BadDict}
use Rattle.sfnt_font.specs.declared.cause.SfntCause.{SfntCause}
use Rattle.sfnt_font.specs.declared.cause.SfntCause.TheVariants as bytes
use Rattle.sfnt_font.specs.declared.cause.Tag.{Tag}
use Rattle.sfnt_font.specs.declared.cause.Tag.TheVariants.{Head, Maxp, Hhea, Hmtx, Loca, Glyf, Cmap}
use Rattle.run_status.specs.declared.font_fault.FontFault.{FontFault}
use Rattle.run_status.specs.declared.font_fault.FontPlace.{FontPlace}
use Rattle.run_status.specs.declared.font_fault.FontPlace.TheVariants.{Named, Held}
use Rattle.run_status.specs.declared.font_fault.FontFault.TheVariants.{Line, Byte}

-- how lines leave the format
abbrev pub line_cause_text : FontCause → List ℕ
line_cause_text lines.NoStart = codes "no start"
line_cause_text lines.BadNumber = codes "bad number"
line_cause_text lines.BadRow = codes "bad row"
line_cause_text lines.Misplaced = codes "misplaced"
line_cause_text lines.NoEnd = codes "no end"

-- the name of a table
abbrev pub tag_text : Tag → List ℕ
tag_text Head = codes "head"
tag_text Maxp = codes "maxp"
tag_text Hhea = codes "hhea"
tag_text Hmtx = codes "hmtx"
tag_text Loca = codes "loca"
tag_text Glyf = codes "glyf"
tag_text Cmap = codes "cmap"

-- how a table of PostScript outlines isn't one
abbrev pub outlines_text : CffCause → List ℕ
outlines_text Short = codes "short table CFF"
outlines_text Version = codes "version of CFF"
outlines_text BadIndex = codes "bad INDEX"
outlines_text BadDict = codes "bad DICT"

-- how bytes do
abbrev pub byte_cause_text : SfntCause → List ℕ
byte_cause_text bytes.Compressed = codes "compressed"
byte_cause_text bytes.Ends = codes "ends"
byte_cause_text bytes.BadPlace = codes "bad place"
byte_cause_text bytes.PostScript = codes "PostScript"
byte_cause_text (bytes.BadOutlines cause) = outlines_text cause
byte_cause_text bytes.NotSfnt = codes "not TrueType"
byte_cause_text (bytes.NoTable tag) = codes "no table " ++ tag_text tag
byte_cause_text (bytes.ShortTable tag) = codes "short table " ++ tag_text tag
byte_cause_text bytes.BadNumber = codes "bad number"
byte_cause_text bytes.NoMap = codes "no map"
byte_cause_text bytes.BadMap = codes "bad map"

-- which font it is, in words
abbrev pub place_text : FontPlace → List ℕ
place_text (Named index) = decimal index
place_text (Held index) = decimal index ++ codes " of the script"

-- the line on a font that leaves its format at line or at byte n
abbrev pub bad_font_line : List ℕ → List ℕ → ℕ → List ℕ → List ℕ
bad_font_line font part n cause = codes "bad font " ++ font ++ codes " " ++ part ++ codes " " ++ decimal n ++ codes ": " ++ cause ++ codes "\n"

-- the same of a fault of the font that has this place
abbrev pub fault_line : FontPlace → FontFault → List ℕ
fault_line place (Line n cause) = bad_font_line (place_text place) (codes "line") n (line_cause_text cause)
fault_line place (Byte n cause) = bad_font_line (place_text place) (codes "byte") n (byte_cause_text cause)
