-- Public: the subroutines that the charstring of a glyph may call (Adobe Technical Note 5176, "FDSelect", "Private DICT Data").
use Rattle.std.specs.Prelude.{ℕ, zero, suc, ◌+◌, ◌*◌, ◌&&◌, ◌==◌, nat_lt, nat_le, if◌then◌else◌, List, Option, Some, None, option_and_then, option_map, ℤ, pos}
use Rattle.std.specs.Ordering.{int_eq}
use Rattle.font_bytes.specs.Bytes.{u8_at, u16_at}
use Rattle.cff_font.specs.declared.dicts.Operands.{Operands}
use Rattle.cff_font.specs.declared.indexes.Index.{Index}
use Rattle.cff_font.specs.declared.read.CffFont.{CffFont}
use Rattle.cff_font.specs.declared.read.FontDicts.{FontDicts}
use Rattle.cff_font.specs.declared.tokens.Span.{Span}
use Rattle.cff_font.specs.Dicts.{operands_of}
use Rattle.cff_font.specs.Fonts.{private_code, subroutines_code, place_by_offset}
use Rattle.cff_font.specs.Indexes.{index_at, item_at, no_items}

-- the number of the font DICT of glyph g by the first of n ranges from a place on that has it
abbrev pub range_dict : List ℕ → ℕ → ℕ → ℕ → Option ℕ
range_dict bytes g at zero = None
range_dict bytes g at (suc n) = if nat_le (u16_at bytes at) g && nat_lt g (u16_at bytes (at + 3)) then Some (u8_at bytes (at + 2)) else range_dict bytes g (at + 3) n

-- the same of all ranges, which end before the table does
abbrev pub dict_by_ranges : List ℕ → ℕ → ℕ → ℕ → ℕ → Option ℕ
dict_by_ranges bytes stop select n g = if nat_lt stop (select + 5 + 3 * n) then None else range_dict bytes g (select + 3) n

-- the same of a list of numbers, one for each glyph
abbrev pub dict_by_list : List ℕ → ℕ → ℕ → ℕ → Option ℕ
dict_by_list bytes stop select g = if nat_lt (select + 1 + g) stop then Some (u8_at bytes (select + 1 + g)) else None

-- the number of the font DICT of glyph g, by FDSelect at a place
abbrev pub dict_number : List ℕ → ℕ → ℕ → ℕ → Option ℕ
dict_number bytes stop select g =
    if u8_at bytes select == 0 then dict_by_list bytes stop select g
    else if u8_at bytes select == 3 then dict_by_ranges bytes stop select (u16_at bytes (select + 1)) g
    else None

-- the font DICT of glyph g, which is the Top DICT where there is no list of them
abbrev pub glyph_dict : List ℕ → CffFont → ℕ → Option FontDicts → Option Span
glyph_dict bytes font g None = Some font.top
glyph_dict bytes font g (Some dicts) = option_and_then (item_at bytes dicts.dicts) (dict_number bytes font.stop dicts.select g)

-- so many bytes from a place on, which end before the table does
abbrev pub span_before : ℕ → ℤ → ℕ → Option Span
span_before stop size from = option_map (λ to. record { from = from; to = to }) (place_by_offset stop from size)

-- the Private DICT whose size and place these are
abbrev pub private_dict : CffFont → Operands → Option Span
private_dict font operands = option_and_then (span_before font.stop operands.before) (place_by_offset font.stop font.place operands.last)

-- the subroutines that a Private DICT names by a place counted from its own
abbrev pub subroutines_named : List ℕ → CffFont → Span → Option Operands → Option Index
subroutines_named bytes font dict None = Some (no_items 0)
subroutines_named bytes font dict (Some operands) = option_and_then (index_at bytes font.stop) (place_by_offset font.stop dict.from operands.last)

abbrev pub private_subroutines : List ℕ → CffFont → Span → Option Index
private_subroutines bytes font dict = subroutines_named bytes font dict (operands_of bytes dict subroutines_code)

-- the subroutines of the Private DICT that a font DICT names; one without bytes has none
abbrev pub dict_subroutines : List ℕ → CffFont → Option Operands → Option Index
dict_subroutines bytes font None = Some (no_items 0)
dict_subroutines bytes font (Some operands) =
    if int_eq operands.before (pos 0) then Some (no_items 0) else option_and_then (private_subroutines bytes font) (private_dict font operands)

-- the subroutines of glyph g alone; nothing where what names them is broken
abbrev pub local_subroutines : List ℕ → CffFont → ℕ → Option Index
local_subroutines bytes font g = option_and_then (λ dict. dict_subroutines bytes font (operands_of bytes dict private_code)) (glyph_dict bytes font g font.dicts)
