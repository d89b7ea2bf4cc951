-- Public: the machine that runs charstrings of type 2, one number or operator a step (Adobe Technical Note 5177).
use Rattle.std.specs.Prelude.{ℕ, zero, suc, ◌+◌, ◌-◌, ◌/◌, Bool, true, false, ◌&&◌, ◌||◌, not, ◌==◌, nat_lt, nat_le, if◌then◌else◌, List, [], ◌∷◌, ◌++◌, length, take, slice_index_or, Option, Some, None, option_map, option_and_then, ℤ, pos, ◌+ℤ◌, ◌*ℤ◌, unsigned_abs, int_le}
use Rattle.std.specs.Int.{int_rem_euclid}
use Rattle.std.specs.Ordering.{int_eq}
use Rattle.ass_num.specs.Floor.{floor_div}
use Rattle.ass_num.specs.declared.geometry.Point.{Point}
use Rattle.font_bytes.specs.Bytes.{u8_at}
use Rattle.cff_font.specs.declared.indexes.Index.{Index}
use Rattle.cff_font.specs.declared.machine.Machine.{Machine}
use Rattle.cff_font.specs.declared.machine.Program.{Program}
use Rattle.cff_font.specs.declared.pens.GlyphPen.{GlyphPen}
use Rattle.cff_font.specs.declared.tokens.Span.{Span}
use Rattle.cff_font.specs.declared.tokens.Token.{Token}
use Rattle.cff_font.specs.declared.tokens.Token.TheVariants.{Number, Operator}
use Rattle.cff_font.specs.Indexes.{item_at}
use Rattle.cff_font.specs.Pens.{first_pen, moved_pen, drawn_strokes}
use Rattle.cff_font.specs.Strokes.{strokes_of, step}
use Rattle.cff_font.specs.Tokens.{escape_base, s32_at, number_before, whole_number, operator_at}

-- the most operands, the most hints, and how deep calls may go
abbrev pub max_operands : ℕ
max_operands = 48

abbrev pub max_hints : ℕ
max_hints = 96

abbrev pub max_calls : ℕ
max_calls = 10

-- 1 in the numbers of the machine
abbrev pub one_unit : ℕ
one_unit = 65536

-- a whole number as one of the machine
abbrev pub in_fractions : Token → Token
in_fractions (Number value behind) = Number (value *ℤ pos one_unit) behind
in_fractions (Operator code behind) = Operator code behind

-- the number or operator at a place of a charstring, whose first byte is b
abbrev pub charstring_token : List ℕ → ℕ → ℕ → ℕ → Option Token
charstring_token bytes stop at b =
    if b == 255 then number_before stop (at + 5) (s32_at bytes (at + 1))
    else if nat_lt b 32 && not (b == 28) then operator_at bytes stop at b
    else option_map in_fractions (whole_number bytes stop at b)

-- ---- returns

abbrev pub empty_span : Span
empty_span = record { from = 0; to = 0 }

-- back behind the last call; without one the machine is done where it may
abbrev pub returned : Bool → Machine → Option Machine
returned may_end m =
    if length m.calls == 0 then (if may_end then Some (record m { is_done = true }) else None)
    else Some (record m { place = slice_index_or m.calls (length m.calls - 1) empty_span; calls = take (length m.calls - 1) m.calls })

-- the last operand but k; 0 where there are fewer
abbrev pub operand_before_last : List ℤ → ℕ → ℤ
operand_before_last operands k = if nat_lt k (length operands) then slice_index_or operands (length operands - (k + 1)) (pos 0) else pos 0

-- ---- hints, which are counted alone, since each has a bit in the masks

abbrev pub with_hints : Machine → ℕ → Option Machine
with_hints m hints = if nat_lt max_hints hints then None else Some (record m { operands = []; hints = hints })

abbrev pub behind_hints : Machine → Option Machine
behind_hints m = with_hints m (m.hints + length m.operands / 2)

-- the place behind a mask of so many bytes
abbrev pub behind_bytes : Machine → ℕ → Option Machine
behind_bytes m count =
    if nat_lt m.place.to (m.place.from + count) then None else Some (record m { place = record { from = m.place.from + count; to = m.place.to } })

abbrev pub behind_mask : Machine → Option Machine
behind_mask m = behind_bytes m ((m.hints + 7) / 8)

-- ---- moves and strokes

abbrev pub with_pen : Machine → GlyphPen → Machine
with_pen m pen = record m { operands = []; pen = pen }

abbrev pub behind_move : Machine → Point → Option Machine
behind_move m by = option_map (with_pen m) (moved_pen m.pen by)

-- a move that needs so many operands, of which the last ones count
abbrev pub moved_by : Machine → ℕ → Point → Option Machine
moved_by m least by = if nat_lt (length m.operands) least then None else behind_move m by

abbrev pub behind_strokes : Machine → ℕ → Option Machine
behind_strokes m code = option_and_then (λ strokes. option_map (with_pen m) (drawn_strokes m.pen strokes)) (strokes_of code m.operands)

-- ---- calls

-- what a subroutine's number is written without
abbrev pub bias_of : ℕ → ℕ
bias_of count = if nat_lt count 1240 then 107 else if nat_lt count 33900 then 1131 else 32768

-- the subroutine that has a number, or nothing
abbrev pub numbered_item : List ℕ → Index → ℤ → Option Span
numbered_item bytes index k = if int_le (pos 0) k then item_at bytes index (unsigned_abs k) else None

-- the subroutine that an operand names: a whole number, without the bias
abbrev pub subroutine_named : List ℕ → Index → ℤ → Option Span
subroutine_named bytes index z =
    if int_eq (int_rem_euclid z (pos one_unit)) (pos 0)
    then numbered_item bytes index (floor_div z (pos one_unit) +ℤ pos (bias_of index.count))
    else None

-- at the beginning of a subroutine, and back behind its call in the end
abbrev pub in_subroutine : Machine → Span → Machine
in_subroutine m body = record m { place = body; calls = m.calls ++ m.place ∷ []; operands = take (length m.operands - 1) m.operands }

abbrev pub called : List ℕ → Index → Machine → Option Machine
called bytes index m =
    if length m.operands == 0 || nat_le max_calls (length m.calls) then None
    else option_map (in_subroutine m) (subroutine_named bytes index (operand_before_last m.operands 0))

-- ---- a step

-- endchar, with no more operands than a width
abbrev pub behind_end : Machine → Option Machine
behind_end m = if nat_lt 1 (length m.operands) then None else Some (record m { is_done = true })

-- rmoveto, hmoveto and vmoveto, or else a path operator
abbrev pub behind_drawing : Machine → ℕ → Option Machine
behind_drawing m code =
    if code == 21 then moved_by m 2 (step (operand_before_last m.operands 1) (operand_before_last m.operands 0))
    else if code == 22 then moved_by m 1 (step (operand_before_last m.operands 0) (pos 0))
    else if code == 4 then moved_by m 1 (step (pos 0) (operand_before_last m.operands 0))
    else behind_strokes m code

-- hstem, vstem, hstemhm and vstemhm; and dotsection (12 0), an old hint without operands
abbrev pub is_hint_code : ℕ → Bool
is_hint_code code = (code == 1) || ((code == 3) || ((code == 18) || ((code == 23) || (code == escape_base))))

-- hintmask and cntrmask, whose operands are hints too
abbrev pub is_mask_code : ℕ → Bool
is_mask_code code = (code == 19) || (code == 20)

-- the machine behind a mask, and behind the hints in front of it
abbrev pub behind_masked : Machine → Option Machine
behind_masked m = option_and_then behind_mask (behind_hints m)

abbrev pub behind_operator : List ℕ → Program → Machine → ℕ → Option Machine
behind_operator bytes program m code =
    if is_hint_code code then behind_hints m
    else if is_mask_code code then behind_masked m
    else if code == 10 then called bytes program.own m
    else if code == 29 then called bytes program.shared m
    else if code == 11 then returned false m
    else if code == 14 then behind_end m
    else behind_drawing m code

abbrev pub machine_at : Machine → ℕ → Machine
machine_at m from = record m { place = record { from = from; to = m.place.to } }

abbrev pub with_operand : Machine → ℤ → Option Machine
with_operand m value = if nat_lt (length m.operands) max_operands then Some (record m { operands = m.operands ++ value ∷ [] }) else None

-- the machine behind a number or an operator
abbrev pub behind_code : List ℕ → Program → Machine → Token → Option Machine
behind_code bytes program m (Number value behind) = with_operand (machine_at m behind) value
behind_code bytes program m (Operator code behind) = behind_operator bytes program (machine_at m behind) code

-- one step; the end of a charstring is a return, and that of the first one is its end
abbrev pub behind_step : List ℕ → Program → Machine → Option Machine
behind_step bytes program m =
    if nat_le m.place.to m.place.from then returned true m
    else option_and_then (behind_code bytes program m) (charstring_token bytes m.place.to m.place.from (u8_at bytes m.place.from))

-- the machine when it is done, in fewer than n steps
unfoldable pub run : List ℕ → Program → ℕ → Machine → Option Machine
run bytes program zero m = None
run bytes program (suc n) m = if m.is_done then Some m else option_and_then (run bytes program n) (behind_step bytes program m)

-- at the beginning of a charstring
abbrev pub first_machine : Span → Machine
first_machine body = record { place = body; calls = []; operands = []; hints = 0; pen = first_pen; is_done = false }
