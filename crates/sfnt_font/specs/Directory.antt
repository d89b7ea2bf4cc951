-- Public: the tables of a face.
use Rattle.std.specs.Prelude.{ℕ, zero, suc, ◌+◌, ◌*◌, ◌<◌, ◌≤◌, ◌^◌, Bool, ◌&&◌, not, ◌==◌, nat_lt, nat_le, if◌then◌else◌, List, length, Option, Some, None, is_some, Result, Ok, Err}
use Rattle.sfnt_font.specs.declared.cause.Tag.{Tag}
use Rattle.sfnt_font.specs.declared.cause.Tag.TheVariants.{Head, Maxp, Hhea, Hmtx, Loca, Glyf, Cmap}
use Rattle.sfnt_font.specs.declared.cause.SfntCause.TheVariants.{Ends, PostScript, BadOutlines, NotSfnt, NoTable, ShortTable}
use Rattle.sfnt_font.specs.declared.cause.SfntRefusal.{SfntRefusal}
use Rattle.sfnt_font.specs.declared.cause.SfntRefusal.TheVariants.{BadFont}
use Rattle.sfnt_font.specs.declared.directory.Directory.{Directory}
use Rattle.sfnt_font.specs.declared.directory.Table.{Table}
use Rattle.sfnt_font.specs.declared.tables.Outlines.{Outlines}
use Rattle.sfnt_font.specs.declared.tables.Outlines.TheVariants.{TrueTypeOutlines, PostScriptOutlines}
use Rattle.sfnt_font.specs.declared.tables.Tables.{Tables}
use Rattle.cff_font.specs.declared.cause.CffRefusal.{CffRefusal}
use Rattle.cff_font.specs.declared.read.CffFont.{CffFont}
use Rattle.cff_font.specs.declared.tokens.Span.{Span}
use Rattle.cff_font.specs.Fonts.{cff_of}
use Rattle.cff_font.specs.Ranges.{IsCffFont}
use Rattle.sfnt_font.specs.Answers.{then_read}
use Rattle.font_bytes.specs.Bytes.{u16_at, u32_at}
use Rattle.sfnt_font.specs.Faces.{is_face_kind}

-- the byte behind a directory
abbrev pub directory_end : Directory → ℕ
directory_end directory = directory.first + 16 * directory.count

-- the directory that says it has n entries from `first` on
abbrev pub whole_directory : List ℕ → ℕ → ℕ → Result Directory SfntRefusal
whole_directory bytes first n =
    if nat_lt (length bytes) (first + 16 * n) then Err (BadFont (length bytes) Ends)
    else Ok (record { first = first; count = n })

-- the directory of the face at a place
abbrev pub directory_at : List ℕ → ℕ → Result Directory SfntRefusal
directory_at bytes at =
    if not (is_face_kind (u32_at bytes at)) then Err (BadFont at NotSfnt)
    else whole_directory bytes (at + 12) (u16_at bytes (at + 4))

-- the table that an entry names
abbrev pub table_at : List ℕ → ℕ → Table
table_at bytes entry = record { place = u32_at bytes (entry + 8); size = u32_at bytes (entry + 12) }

-- the byte behind a table
abbrev pub table_end : Table → ℕ
table_end table = table.place + table.size

-- the bytes of a table
abbrev pub table_span : Table → Span
table_span table = record { from = table.place; to = table_end table }

-- whether an entry has this name, and all bytes of its table lie in the file
abbrev pub is_table : List ℕ → ℕ → ℕ → Bool
is_table bytes name entry =
    (u32_at bytes entry == name) && nat_le (u32_at bytes (entry + 8) + u32_at bytes (entry + 12)) (length bytes)

-- the first of n entries from `entry` on that has this name and a table in the file
abbrev pub table_from : List ℕ → ℕ → ℕ → ℕ → Option Table
table_from bytes name entry zero = None
table_from bytes name entry (suc n) = if is_table bytes name entry then Some (table_at bytes entry) else table_from bytes name (entry + 16) n

-- the table of this name
abbrev pub table_named : List ℕ → Directory → ℕ → Option Table
table_named bytes directory name = table_from bytes name directory.first directory.count

-- a table that may be missing; a shorter one counts as missing
abbrev pub unless_short : ℕ → Option Table → Option Table
unless_short least None = None
unless_short least (Some table) = if nat_lt table.size least then None else Some table

-- the four letters of a name as a number
abbrev pub name_of : Tag → ℕ
name_of Head = 1751474532
name_of Maxp = 1835104368
name_of Hhea = 1751672161
name_of Hmtx = 1752003704
name_of Loca = 1819239265
name_of Glyf = 1735162214
name_of Cmap = 1668112752

-- "OS/2", "post", "CFF " and "CFF2"
abbrev pub metrics_name : ℕ
metrics_name = 1330851634

abbrev pub post_name : ℕ
post_name = 1886352244

abbrev pub cff_name : ℕ
cff_name = 1128678944

abbrev pub cff2_name : ℕ
cff2_name = 1128678962

-- the least bytes of a table that is needed
abbrev pub least_size : Tag → ℕ
least_size Head = 54
least_size Maxp = 6
least_size Hhea = 36
least_size Hmtx = 0
least_size Loca = 0
least_size Glyf = 0
least_size Cmap = 4

-- a table that is needed, of at least so many bytes, where the directory ends at `end`
abbrev pub needed_or : ℕ → Tag → Option Table → Result Table SfntRefusal
needed_or end tag None = Err (BadFont end (NoTable tag))
needed_or end tag (Some table) = if nat_lt table.size (least_size tag) then Err (BadFont table.place (ShortTable tag)) else Ok table

abbrev pub needed_table : List ℕ → Directory → Tag → Result Table SfntRefusal
needed_table bytes directory tag = needed_or (directory_end directory) tag (table_named bytes directory (name_of tag))

-- ---- the outlines of a face: those of `glyf`, or where there is none those of `CFF `

-- the outlines that a table of PostScript outlines was read as
abbrev pub outlines_read : Result CffFont CffRefusal → Result Outlines SfntRefusal
outlines_read (Ok font) = Ok (PostScriptOutlines font)
outlines_read (Err refusal) = Err (BadFont refusal.place (BadOutlines refusal.cause))

abbrev pub post_script_outlines : List ℕ → Table → Result Outlines SfntRefusal
post_script_outlines bytes table = outlines_read (cff_of bytes (table_span table))

abbrev pub true_type_outlines : List ℕ → Directory → Result Outlines SfntRefusal
true_type_outlines bytes directory =
    then_read (needed_table bytes directory Loca) (λ loca. then_read (needed_table bytes directory Glyf) (λ glyf. Ok (TrueTypeOutlines loca glyf)))

abbrev pub outlines_by : List ℕ → Directory → Option Table → Option Table → Result Outlines SfntRefusal
outlines_by bytes directory None (Some cff) = post_script_outlines bytes cff
outlines_by bytes directory glyf cff = true_type_outlines bytes directory

abbrev pub outlines_of : List ℕ → Directory → Result Outlines SfntRefusal
outlines_of bytes directory = outlines_by bytes directory (table_named bytes directory (name_of Glyf)) (table_named bytes directory cff_name)

-- whether a face has PostScript outlines
abbrev pub is_post_script : List ℕ → Directory → Bool
is_post_script bytes directory = not (is_some (table_named bytes directory (name_of Glyf))) && is_some (table_named bytes directory cff_name)

-- whether it has those of the second version alone, which aren't read
abbrev pub is_second_version : List ℕ → Directory → Bool
is_second_version bytes directory =
    not (is_some (table_named bytes directory (name_of Glyf))) && not (is_some (table_named bytes directory cff_name)) && is_some (table_named bytes directory cff2_name)

-- the tables that are needed, in this order
abbrev pub tables_of : List ℕ → Directory → Result Tables SfntRefusal
tables_of bytes directory =
    if is_second_version bytes directory then Err (BadFont (directory_end directory) PostScript)
    else then_read (needed_table bytes directory Head) (λ head.
    then_read (needed_table bytes directory Maxp) (λ maxp.
    then_read (needed_table bytes directory Hhea) (λ hhea.
    then_read (needed_table bytes directory Hmtx) (λ hmtx.
    then_read (outlines_of bytes directory) (λ outlines.
    then_read (needed_table bytes directory Cmap) (λ cmap.
    Ok (record { head = head; maxp = maxp; hhea = hhea; hmtx = hmtx; outlines = outlines; cmap = cmap })))))))

-- A directory whose entries may be read. This is a condition of calls.
abbrev pub IsDirectory : Directory → Type 0
IsDirectory directory = (directory.first < 2 ^ 33) × (directory.count < 2 ^ 16)

-- The table lies in the file.
abbrev pub IsTableIn : List ℕ → Table → Type 0
IsTableIn bytes table = table_end table ≤ length bytes

-- What outlines are drawn from does.
abbrev pub AreOutlinesIn : List ℕ → Outlines → Type 0
AreOutlinesIn bytes (TrueTypeOutlines loca glyf) = IsTableIn bytes loca × IsTableIn bytes glyf
AreOutlinesIn bytes (PostScriptOutlines font) = IsCffFont font

-- All tables do.
pub record AreTablesIn (bytes : List ℕ) (tables : Tables) : Type 0 where
  pub head : IsTableIn bytes tables.head
  pub maxp : IsTableIn bytes tables.maxp
  pub hhea : IsTableIn bytes tables.hhea
  pub hmtx : IsTableIn bytes tables.hmtx
  pub outlines : AreOutlinesIn bytes tables.outlines
  pub cmap : IsTableIn bytes tables.cmap
