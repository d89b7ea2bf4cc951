-- Public: what is found in a table of PostScript outlines, `CFF ` of version 1 (Adobe Technical Note 5176, "Header", "Top DICT Data").
use Rattle.std.specs.Prelude.{ℕ, ◌+◌, Bool, true, ◌&&◌, not, ◌==◌, nat_lt, nat_le, if◌then◌else◌, List, Option, Some, None, Result, Ok, Err, ℤ, pos, unsigned_abs, int_le}
use Rattle.std.specs.Ordering.{int_eq}
use Rattle.font_bytes.specs.Bytes.{u8_at}
use Rattle.cff_font.specs.declared.cause.CffCause.{CffCause}
use Rattle.cff_font.specs.declared.cause.CffCause.TheVariants.{Short, Version, BadIndex, BadDict}
use Rattle.cff_font.specs.declared.cause.CffRefusal.{CffRefusal}
use Rattle.cff_font.specs.declared.dicts.Operands.{Operands}
use Rattle.cff_font.specs.declared.indexes.Index.{Index}
use Rattle.cff_font.specs.declared.read.CffFont.{CffFont}
use Rattle.cff_font.specs.declared.read.FontDicts.{FontDicts}
use Rattle.cff_font.specs.declared.tokens.Span.{Span}
use Rattle.cff_font.specs.Dicts.{operands_of}
use Rattle.cff_font.specs.Indexes.{index_at, item_at}

-- operators of DICTs
abbrev pub glyphs_code : ℕ
glyphs_code = 17

abbrev pub private_code : ℕ
private_code = 18

abbrev pub subroutines_code : ℕ
subroutines_code = 19

abbrev pub type_code : ℕ
type_code = 3078

abbrev pub dicts_code : ℕ
dicts_code = 3108

abbrev pub select_code : ℕ
select_code = 3109

abbrev pub refused_at : {T : Type 0} → ℕ → CffCause → Result T CffRefusal
refused_at place cause = Err (record { place = place; cause = cause })

-- What is read behind a reading that gave a value; its fault is the fault of both.
abbrev pub then_found : {T U : Type 0} → Result T CffRefusal → (T → Result U CffRefusal) → Result U CffRefusal
then_found (Ok x) next = next x
then_found (Err refusal) next = Err refusal

-- The place that an offset from another place names, which doesn't lie behind `stop`. An offset below 1 names none.
abbrev pub place_by_offset : ℕ → ℕ → ℤ → Option ℕ
place_by_offset stop from offset =
    if int_le (pos 1) offset && nat_le (from + unsigned_abs offset) stop then Some (from + unsigned_abs offset) else None

-- the place in a table that an operator of the Top DICT names
abbrev pub place_by : Span → Option Operands → Option ℕ
place_by table None = None
place_by table (Some operands) = place_by_offset table.to table.from operands.last

abbrev pub place_named : List ℕ → Span → Span → ℕ → Option ℕ
place_named bytes table top code = place_by table (operands_of bytes top code)

-- the INDEX at a place, which is needed
abbrev pub index_or : ℕ → Option Index → Result Index CffRefusal
index_or at None = refused_at at BadIndex
index_or at (Some index) = Ok index

abbrev pub needed_index : List ℕ → ℕ → ℕ → Result Index CffRefusal
needed_index bytes stop at = index_or at (index_at bytes stop at)

-- the first of the Top DICTs, whose INDEX begins at a place
abbrev pub dict_or : ℕ → Option Span → Result Span CffRefusal
dict_or at None = refused_at at BadDict
dict_or at (Some dict) = Ok dict

-- charstrings are of type 2 unless the Top DICT says another
abbrev pub is_type_2 : Option Operands → Bool
is_type_2 None = true
is_type_2 (Some operands) = int_eq operands.last (pos 2)

-- a place that is needed
abbrev pub place_or : Span → Option ℕ → Result ℕ CffRefusal
place_or top None = refused_at top.from BadDict
place_or top (Some at) = Ok at

abbrev pub needed_place : List ℕ → Span → Span → ℕ → Result ℕ CffRefusal
needed_place bytes table top code = place_or top (place_named bytes table top code)

-- the list of font DICTs at a place, if any, and the place of FDSelect, which is needed with them
abbrev pub dicts_at : List ℕ → Span → Span → Option ℕ → Result (Option FontDicts) CffRefusal
dicts_at bytes table top None = Ok None
dicts_at bytes table top (Some at) =
    then_found (needed_index bytes table.to at) (λ dicts.
    then_found (needed_place bytes table top select_code) (λ select.
    Ok (Some (record { dicts = dicts; select = select }))))

-- the font whose Top DICT this is
abbrev pub font_of_dict : List ℕ → Span → Index → Span → Result CffFont CffRefusal
font_of_dict bytes table globals top =
    if not (is_type_2 (operands_of bytes top type_code)) then refused_at top.from BadDict
    else then_found (needed_place bytes table top glyphs_code) (λ at.
    then_found (needed_index bytes table.to at) (λ glyphs.
    then_found (dicts_at bytes table top (place_named bytes table top dicts_code)) (λ dicts.
    Ok (record { place = table.from; stop = table.to; globals = globals; glyphs = glyphs; top = top; dicts = dicts }))))

-- the font whose four INDEXes begin at a place
abbrev pub font_behind : List ℕ → Span → ℕ → Result CffFont CffRefusal
font_behind bytes table at =
    then_found (needed_index bytes table.to at) (λ names.
    then_found (needed_index bytes table.to names.end) (λ tops.
    then_found (needed_index bytes table.to tops.end) (λ strings.
    then_found (needed_index bytes table.to strings.end) (λ globals.
    then_found (dict_or names.end (item_at bytes tops 0)) (font_of_dict bytes table globals)))))

-- the font that a table has behind a header, which says its own size; or the first fault
abbrev pub cff_of : List ℕ → Span → Result CffFont CffRefusal
cff_of bytes table =
    if nat_lt table.to (table.from + 4) then refused_at table.from Short
    else if not (u8_at bytes table.from == 1) then refused_at table.from Version
    else if nat_lt table.to (table.from + u8_at bytes (table.from + 2)) then refused_at table.from Short
    else font_behind bytes table (table.from + u8_at bytes (table.from + 2))
