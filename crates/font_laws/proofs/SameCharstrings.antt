-- Files that agree on a table of PostScript outlines have the same contours of each glyph.
use Rattle.std.proofs.Common.{◌≡◌, ℕ, zero, suc, ◌+◌, ◌-◌, ◌*◌, ◌/◌, ◌<◌, ◌≤◌, List, length, take, Bool, true, false, cond, ◌&&◌, ◌||◌, not, Option, Some, None, inl, inr, ℤ, pos, ◌+ℤ◌, refl, ap, ap₂, sym, ◌∙◌, arith}
use Rattle.std.specs.List.{All}
use Rattle.std.specs.Prelude.{nat_lt, nat_le, ◌==◌, int_le, unsigned_abs, slice_index_or, IfSome, option_and_then, option_map}
use Rattle.std.specs.Ordering.{int_eq}
use Rattle.std.proofs.lemmas.Bool.{and_parts, eqb-false, leb-false, leb-true, ltb-false, ltb-true, lt-ltb}
use Rattle.std.proofs.lemmas.List.Elements.{All-get_or, All-nil, All-push, All-take}
use Rattle.font_bytes.specs.Bytes.{u8_at, u16_at}
use Rattle.cff_font.specs.declared.dicts.Operands.{Operands}
use Rattle.cff_font.specs.declared.indexes.Index.{Index}
use Rattle.cff_font.specs.declared.machine.Machine.{Machine}
use Rattle.cff_font.specs.declared.machine.Program.{Program}
use Rattle.cff_font.specs.declared.read.CffFont.{CffFont}
use Rattle.cff_font.specs.declared.read.FontDicts.{FontDicts}
use Rattle.cff_font.specs.declared.tokens.Span.{Span}
use Rattle.cff_font.specs.declared.tokens.Token.{Token}
use Rattle.cff_font.specs.declared.tokens.Token.TheVariants.{Number, Operator}
use Rattle.cff_font.specs.Dicts.{operands_of}
use Rattle.cff_font.specs.Fonts.{place_by_offset, private_code, subroutines_code}
use Rattle.cff_font.specs.Glyphs.{cff_contours, charstring_contours, contours_if_whole, drawn_by, ends_by, glyph_contours, is_blank_at_sight, is_blank_body, is_blank_from, max_steps}
use Rattle.cff_font.specs.Indexes.{index_at, item_at, no_items}
use Rattle.cff_font.specs.Machines.{machine_at, behind_code, behind_drawing, behind_hints, behind_mask, behind_masked, behind_operator, called, charstring_token, behind_end, first_machine, in_fractions, in_subroutine, is_hint_code, is_mask_code, max_calls}
use Rattle.cff_font.specs.Machines.{max_hints, max_operands, moved_by, empty_span, one_unit, bias_of, operand_before_last, returned, run, behind_step, subroutine_named, with_pen}
use Rattle.cff_font.specs.Matrices.{contours_behind, dict_matrix, glyph_matrix, matrix_by, own_matrix}
use Rattle.cff_font.specs.Pens.{drawn_strokes, moved_pen}
use Rattle.cff_font.specs.Strokes.{strokes_of, step}
use Rattle.cff_font.specs.Subroutines.{dict_by_list, dict_by_ranges, dict_number, dict_subroutines, glyph_dict, local_subroutines, private_dict, private_subroutines, range_dict, span_before, subroutines_named}
use Rattle.ass_num.specs.Floor.{floor_div}
use Rattle.ass_num.specs.declared.geometry.Point.{Point}
use Rattle.outline_points.specs.declared.stroke.Stroke.{Stroke}
use Rattle.std.specs.Int.{int_rem_euclid}
use Rattle.font_laws.specs.Laws.{AgreeOn}
use Rattle.font_laws.proofs.Agreed.{AreOne, IsAny, any_one, none_is, map_one, test_one, then_one, u8_same, u16_same, if_same}
use Rattle.font_laws.proofs.SameIndexes.{IsIndexFrom, IsItemsFrom, IsSpanFrom, IsTokenBehind, index_one, item_one, number_one, operands_same, operator_one, s32_same, whole_number_one}
use Rattle.font_laws.proofs.SameMatrices.{dict_matrix_same}
use Rattle.font_laws.proofs.SameCff.{AreDictsFrom, IsFontFrom, offset_low}

-- ---- the font DICT of a glyph

range_same : (a b : List ℕ) (from to g n at : ℕ) → AgreeOn a b from to → from ≤ at → at + 3 * n + 2 ≤ to → range_dict a g at n ≡ range_dict b g at n
range_same a b from to g zero at h low room = refl
range_same a b from to g (suc n) at h low room =
    let first = u16_same a b from to at h low (omega (arith, room)) in
    let next = u16_same a b from to (at + 3) h (omega (arith, low)) (omega (arith, room)) in
    if_same (nat_le (u16_at a at) g && nat_lt g (u16_at a (at + 3))) (nat_le (u16_at b at) g && nat_lt g (u16_at b (at + 3)))
    (ap (λ k. nat_le k g && nat_lt g (u16_at a (at + 3))) first ∙ ap (λ k. nat_le (u16_at b at) g && nat_lt g k) next)
    (λ _. ap Some (u8_same a b from to (at + 2) h (omega (arith, low)) (omega (arith, room))))
    (λ _. range_same a b from to g n (at + 3) h (omega (arith, low)) (omega (arith, room)))

ranges_same : (a b : List ℕ) (from to select n g : ℕ) → AgreeOn a b from to → from ≤ select → dict_by_ranges a to select n g ≡ dict_by_ranges b to select n g
ranges_same a b from to select n g h low =
    if_same (nat_lt to (select + 5 + 3 * n)) (nat_lt to (select + 5 + 3 * n)) refl (λ _. refl) (λ fits.
    let room : select + 5 + 3 * n ≤ to = ltb-false to (select + 5 + 3 * n) fits in
    range_same a b from to g n (select + 3) h (omega (arith, low)) (omega (arith, room)))

list_same : (a b : List ℕ) (from to select g : ℕ) → AgreeOn a b from to → from ≤ select → dict_by_list a to select g ≡ dict_by_list b to select g
list_same a b from to select g h low =
    if_same (nat_lt (select + 1 + g) to) (nat_lt (select + 1 + g) to) refl
    (λ inside. ap Some (u8_same a b from to (select + 1 + g) h (omega (arith, low)) (omega (arith, ltb-true (select + 1 + g) to inside)))) (λ _. refl)

list_none : (bytes : List ℕ) (stop select g : ℕ) → stop ≤ select → dict_by_list bytes stop select g ≡ None
list_none bytes stop select g out = either (nat_lt (select + 1 + g) stop) refl
  where
    either : (c : Bool) → nat_lt (select + 1 + g) stop ≡ c → cond c (Some (u8_at bytes (select + 1 + g))) None ≡ None
    either true e = absurd (omega (arith, out, ltb-true (select + 1 + g) stop e))
    either false e = refl

ranges_none : (bytes : List ℕ) (stop select n g : ℕ) → stop < select + 5 → dict_by_ranges bytes stop select n g ≡ None
ranges_none bytes stop select n g out = ap (λ c. cond c None (range_dict bytes g (select + 3) n)) (lt-ltb stop (select + 5 + 3 * n) (omega (arith, out)))

number_none : (bytes : List ℕ) (stop select g : ℕ) → stop ≤ select → dict_number bytes stop select g ≡ None
number_none bytes stop select g out = either (u8_at bytes select == 0) (u8_at bytes select == 3)
  where
    either : (c d : Bool) → cond c (dict_by_list bytes stop select g) (cond d (dict_by_ranges bytes stop select (u16_at bytes (select + 1)) g) None) ≡ None
    either true d = list_none bytes stop select g out
    either false true = ranges_none bytes stop select (u16_at bytes (select + 1)) g (omega (arith, out))
    either false false = refl

number_same : (a b : List ℕ) (from to select g : ℕ) → AgreeOn a b from to → from ≤ select → dict_number a to select g ≡ dict_number b to select g
number_same a b from to select g h low = either (nat_le to select) refl
  where
    counted : (c : Bool) → nat_lt to (select + 3) ≡ c → dict_by_ranges a to select (u16_at a (select + 1)) g ≡ dict_by_ranges b to select (u16_at b (select + 1)) g
    counted true e =
        let out : to < select + 5 = omega (arith, ltb-true to (select + 3) e) in
        ranges_none a to select (u16_at a (select + 1)) g out ∙ sym (ranges_none b to select (u16_at b (select + 1)) g out)
    counted false e =
        ranges_same a b from to select (u16_at a (select + 1)) g h low
        ∙ ap (λ n. dict_by_ranges b to select n g) (u16_same a b from to (select + 1) h (omega (arith, low)) (omega (arith, ltb-false to (select + 3) e)))

    either : (c : Bool) → nat_le to select ≡ c → dict_number a to select g ≡ dict_number b to select g
    either true e = let out : to ≤ select = leb-true to select e in number_none a to select g out ∙ sym (number_none b to select g out)
    either false e =
        let kind = u8_same a b from to select h low (omega (arith, leb-false to select e)) in
        if_same (u8_at a select == 0) (u8_at b select == 0) (ap (λ n. n == 0) kind) (λ _. list_same a b from to select g h low) (λ _.
        if_same (u8_at a select == 3) (u8_at b select == 3) (ap (λ n. n == 3) kind) (λ _. counted (nat_lt to (select + 3)) refl) (λ _. refl))

-- the font of a table on which the files agree
pub record IsWholeFont (a b : List ℕ) (font : CffFont) : Type 0 where
  pub agree : AgreeOn a b font.place font.stop
  pub is : IsFontFrom font.place font.stop font

abbrev IsSpanOf : CffFont → Span → Type 0
IsSpanOf font span = IsSpanFrom font.place font.stop span

abbrev AreItemsOf : CffFont → Index → Type 0
AreItemsOf font index = IsItemsFrom font.place font.stop index

glyph_dict_one : (a b : List ℕ) (font : CffFont) (g : ℕ) (dicts : Option FontDicts) → IsWholeFont a b font → IfSome dicts (AreDictsFrom font.place font.stop) →
    AreOne (IsSpanOf font) (glyph_dict a font g dicts) (glyph_dict b font g dicts)
glyph_dict_one a b font g None h from = record { same = refl; holds = h.is.top }
glyph_dict_one a b font g (Some dicts) h from =
    then_one IsAny (IsSpanOf font) _ _ (item_at a dicts.dicts) (item_at b dicts.dicts) (any_one _ _ (number_same a b font.place font.stop dicts.select g h.agree from.select))
    (λ k _. item_one a b font.place font.stop dicts.dicts k h.agree (inr from.dicts))

-- ---- its subroutines

items_of : (from to : ℕ) (o p : Option Index) → AreOne (IsIndexFrom from to) o p → AreOne (IsItemsFrom from to) o p
items_of from to None p one = record { same = one.same; holds = tt }
items_of from to (Some index) p one = record { same = one.same; holds = inr one.holds }

no_items_one : (font : CffFont) → AreOne (AreItemsOf font) (Some (no_items 0)) (Some (no_items 0))
no_items_one font = record { same = refl; holds = inl refl }

span_in : (low stop from : ℕ) (size : ℤ) → low ≤ from → IfSome (span_before stop size from) (IsSpanFrom low stop)
span_in low stop from size h = either (int_le (pos 1) size && nat_le (from + unsigned_abs size) stop) refl
  where
    either : (c : Bool) → (int_le (pos 1) size && nat_le (from + unsigned_abs size) stop) ≡ c →
        IfSome (option_map (λ (to : ℕ). record { from = from; to = to }) (cond c (Some (from + unsigned_abs size)) None)) (IsSpanFrom low stop)
    either true e = record { low = h; high = leb-true (from + unsigned_abs size) stop (and_parts (int_le (pos 1) size) (nat_le (from + unsigned_abs size) stop) e).1 }
    either false e = tt

private_in : (font : CffFont) (operands : Operands) → IfSome (private_dict font operands) (IsSpanOf font)
private_in font operands = found (place_by_offset font.stop font.place operands.last) (offset_low font.place font.stop font.place operands.last (omega arith))
  where
    found : (o : Option ℕ) → IfSome o (λ place. font.place ≤ place) → IfSome (option_and_then (span_before font.stop operands.before) o) (IsSpanOf font)
    found None low = tt
    found (Some place) low = span_in font.place font.stop place operands.before low

named_one : (a b : List ℕ) (font : CffFont) (dict : Span) (o : Option Operands) → IsWholeFont a b font → IsSpanOf font dict → AreOne (AreItemsOf font) (subroutines_named a font dict o) (subroutines_named b font dict o)
named_one a b font dict None h is = no_items_one font
named_one a b font dict (Some operands) h is =
    then_one (λ place. font.place ≤ place) (AreItemsOf font) _ _ (index_at a font.stop) (index_at b font.stop)
    (record { same = refl; holds = offset_low font.place font.stop dict.from operands.last is.low }) (λ at low. items_of font.place font.stop _ _ (index_one a b font.place font.stop at h.agree low))

private_one : (a b : List ℕ) (font : CffFont) (dict : Span) → IsWholeFont a b font → IsSpanOf font dict → AreOne (AreItemsOf font) (private_subroutines a font dict) (private_subroutines b font dict)
private_one a b font dict h is =
    let one = named_one a b font dict (operands_of a dict subroutines_code) h is in
    record { same = one.same ∙ ap (subroutines_named b font dict) (operands_same a b font.place font.stop dict subroutines_code h.agree is); holds = one.holds }

by_private_one : (a b : List ℕ) (font : CffFont) (o : Option Operands) → IsWholeFont a b font → AreOne (AreItemsOf font) (dict_subroutines a font o) (dict_subroutines b font o)
by_private_one a b font None h = no_items_one font
by_private_one a b font (Some operands) h =
    test_one (AreItemsOf font) (int_eq operands.before (pos 0)) (int_eq operands.before (pos 0)) _ _ _ _ refl (λ _. no_items_one font) (λ _.
    then_one (IsSpanOf font) (AreItemsOf font) _ _ (private_subroutines a font) (private_subroutines b font) (record { same = refl; holds = private_in font operands }) (λ dict is. private_one a b font dict h is))

local_one : (a b : List ℕ) (font : CffFont) (g : ℕ) → IsWholeFont a b font → AreOne (AreItemsOf font) (local_subroutines a font g) (local_subroutines b font g)
local_one a b font g h =
    then_one (IsSpanOf font) (AreItemsOf font) _ _ (λ dict. dict_subroutines a font (operands_of a dict private_code)) (λ dict. dict_subroutines b font (operands_of b dict private_code))
    (glyph_dict_one a b font g font.dicts h h.is.dicts) (λ dict is.
    let one = by_private_one a b font (operands_of a dict private_code) h in
    record { same = one.same ∙ ap (dict_subroutines b font) (operands_same a b font.place font.stop dict private_code h.agree is); holds = one.holds })

-- ---- the machine

-- the machine stands where the files agree, and so do its calls
record IsMachineFrom (from to : ℕ) (m : Machine) : Type 0 where
  place : IsSpanFrom from to m.place
  calls : All (IsSpanFrom from to) m.calls

-- an operator that looks at no byte
kept_one : (from to : ℕ) (o : Option Machine) → IfSome o (IsMachineFrom from to) → AreOne (IsMachineFrom from to) o o
kept_one from to o h = record { same = refl; holds = h }

if_kept : {X : Type 0} (c : Bool) (o p : Option X) (P : X → Type 0) → IfSome o P → IfSome p P → IfSome (cond c o p) P
if_kept true o p P ho hp = ho
if_kept false o p P ho hp = hp

map_kept : {X : Type 0} (from to : ℕ) (f : X → Machine) (o : Option X) → ((x : X) → IsMachineFrom from to (f x)) → IfSome (option_map f o) (IsMachineFrom from to)
map_kept from to f None h = tt
map_kept from to f (Some x) h = h x

hints_kept : (from to : ℕ) (m : Machine) → IsMachineFrom from to m → IfSome (behind_hints m) (IsMachineFrom from to)
hints_kept from to m h = if_kept (nat_lt max_hints (m.hints + length m.operands / 2)) _ _ (IsMachineFrom from to) tt (record { place = h.place; calls = h.calls })

mask_kept : (from to : ℕ) (m : Machine) → IsMachineFrom from to m → IfSome (behind_mask m) (IsMachineFrom from to)
mask_kept from to m h =
    if_kept (nat_lt m.place.to (m.place.from + (m.hints + 7) / 8)) _ _ (IsMachineFrom from to) tt
    (record { place = record { low = omega (arith, h.place.low); high = h.place.high }; calls = h.calls })

masked_kept : (from to : ℕ) (m : Machine) → IsMachineFrom from to m → IfSome (behind_masked m) (IsMachineFrom from to)
masked_kept from to m h = found (behind_hints m) (hints_kept from to m h)
  where
    found : (o : Option Machine) → IfSome o (IsMachineFrom from to) → IfSome (option_and_then behind_mask o) (IsMachineFrom from to)
    found None h = tt
    found (Some m) h = mask_kept from to m h

move_kept : (from to : ℕ) (m : Machine) (least : ℕ) (by : Point) → IsMachineFrom from to m → IfSome (moved_by m least by) (IsMachineFrom from to)
move_kept from to m least by h =
    if_kept (nat_lt (length m.operands) least) _ _ (IsMachineFrom from to) tt (map_kept from to (with_pen m) (moved_pen m.pen by) (λ pen. record { place = h.place; calls = h.calls }))

strokes_kept : (from to : ℕ) (m : Machine) (o : Option (List Stroke)) → IsMachineFrom from to m → IfSome (option_and_then (λ strokes. option_map (with_pen m) (drawn_strokes m.pen strokes)) o) (IsMachineFrom from to)
strokes_kept from to m None h = tt
strokes_kept from to m (Some strokes) h = map_kept from to (with_pen m) (drawn_strokes m.pen strokes) (λ pen. record { place = h.place; calls = h.calls })

drawing_kept : (from to : ℕ) (m : Machine) (code : ℕ) → IsMachineFrom from to m → IfSome (behind_drawing m code) (IsMachineFrom from to)
drawing_kept from to m code h =
    let P = IsMachineFrom from to in
    if_kept (code == 21) _ _ P (move_kept from to m 2 (step (operand_before_last m.operands 1) (operand_before_last m.operands 0)) h)
    (if_kept (code == 22) _ _ P (move_kept from to m 1 (step (operand_before_last m.operands 0) (pos 0)) h)
    (if_kept (code == 4) _ _ P (move_kept from to m 1 (step (pos 0) (operand_before_last m.operands 0)) h)
    (strokes_kept from to m (strokes_of code m.operands) h)))

returned_kept : (from to : ℕ) (may : Bool) (m : Machine) → IsMachineFrom from to m → IfSome (returned may m) (IsMachineFrom from to)
returned_kept from to may m h = either (length m.calls == 0) refl
  where
    either : (c : Bool) → (length m.calls == 0) ≡ c →
        IfSome (cond c (cond may (Some (record m { is_done = true })) None) (Some (record m { place = slice_index_or m.calls (length m.calls - 1) empty_span; calls = take (length m.calls - 1) m.calls }))) (IsMachineFrom from to)
    either true e = if_kept may _ _ (IsMachineFrom from to) (record { place = h.place; calls = h.calls }) tt
    either false e = record {
      place = All-get_or (IsSpanFrom from to) m.calls (length m.calls - 1) empty_span (omega (arith, eqb-false (length m.calls) 0 e)) h.calls;
      calls = All-take (IsSpanFrom from to) (length m.calls - 1) m.calls h.calls;
    }

ended_kept : (from to : ℕ) (m : Machine) → IsMachineFrom from to m → IfSome (behind_end m) (IsMachineFrom from to)
ended_kept from to m h = if_kept (nat_lt 1 (length m.operands)) _ _ (IsMachineFrom from to) tt (record { place = h.place; calls = h.calls })

named_item_one : (a b : List ℕ) (from to : ℕ) (index : Index) (z : ℤ) → AgreeOn a b from to → IsItemsFrom from to index → AreOne (IsSpanFrom from to) (subroutine_named a index z) (subroutine_named b index z)
named_item_one a b from to index z h is =
    let P = IsSpanFrom from to in
    let whole = int_eq (int_rem_euclid z (pos one_unit)) (pos 0) in
    let k = floor_div z (pos one_unit) +ℤ pos (bias_of index.count) in
    test_one P whole whole _ _ _ _ refl (λ _. test_one P (int_le (pos 0) k) (int_le (pos 0) k) _ _ _ _ refl (λ _. item_one a b from to index (unsigned_abs k) h is) (λ _. none_is P)) (λ _. none_is P)

called_one : (a b : List ℕ) (from to : ℕ) (index : Index) (m : Machine) → AgreeOn a b from to → IsItemsFrom from to index → IsMachineFrom from to m → AreOne (IsMachineFrom from to) (called a index m) (called b index m)
called_one a b from to index m h items is =
    let none = (length m.operands == 0) || nat_le max_calls (length m.calls) in
    test_one (IsMachineFrom from to) none none _ _ _ _ refl (λ _. none_is (IsMachineFrom from to)) (λ _.
    map_one (IsSpanFrom from to) (IsMachineFrom from to) _ _ (in_subroutine m) (named_item_one a b from to index (operand_before_last m.operands 0) h items)
    (λ body inside. record { place = inside; calls = All-push (IsSpanFrom from to) m.calls m.place is.calls is.place }))

record IsProgramFrom (from to : ℕ) (program : Program) : Type 0 where
  shared : IsItemsFrom from to program.shared
  own : IsItemsFrom from to program.own

operator_step : (a b : List ℕ) (from to : ℕ) (program : Program) (m : Machine) (code : ℕ) → AgreeOn a b from to → IsProgramFrom from to program → IsMachineFrom from to m →
    AreOne (IsMachineFrom from to) (behind_operator a program m code) (behind_operator b program m code)
operator_step a b from to program m code h items is =
    let P = IsMachineFrom from to in
    test_one P (is_hint_code code) (is_hint_code code) _ _ _ _ refl (λ _. kept_one from to _ (hints_kept from to m is)) (λ _.
    test_one P (is_mask_code code) (is_mask_code code) _ _ _ _ refl (λ _. kept_one from to _ (masked_kept from to m is)) (λ _.
    test_one P (code == 10) (code == 10) _ _ _ _ refl (λ _. called_one a b from to program.own m h items.own is) (λ _.
    test_one P (code == 29) (code == 29) _ _ _ _ refl (λ _. called_one a b from to program.shared m h items.shared is) (λ _.
    test_one P (code == 11) (code == 11) _ _ _ _ refl (λ _. kept_one from to _ (returned_kept from to false m is)) (λ _.
    test_one P (code == 14) (code == 14) _ _ _ _ refl (λ _. kept_one from to _ (ended_kept from to m is)) (λ _.
    kept_one from to _ (drawing_kept from to m code is)))))))

token_step : (a b : List ℕ) (from to : ℕ) (program : Program) (m : Machine) (token : Token) → AgreeOn a b from to → IsProgramFrom from to program → IsMachineFrom from to m → IsTokenBehind from token →
    AreOne (IsMachineFrom from to) (behind_code a program m token) (behind_code b program m token)
token_step a b from to program m (Number value behind) h items is low =
    kept_one from to _ (if_kept (nat_lt (length m.operands) max_operands) _ _ (IsMachineFrom from to) (record { place = record { low = low; high = is.place.high }; calls = is.calls }) tt)
token_step a b from to program m (Operator code behind) h items is low =
    operator_step a b from to program (machine_at m behind) code h items (record { place = record { low = low; high = is.place.high }; calls = is.calls })

in_fractions-behind : (from : ℕ) (token : Token) → IsTokenBehind from token → IsTokenBehind from (in_fractions token)
in_fractions-behind from (Number value behind) h = h
in_fractions-behind from (Operator code behind) h = h

charstring_token_one : (a b : List ℕ) (from to stop at byte : ℕ) → AgreeOn a b from to → from ≤ at → stop ≤ to → AreOne (IsTokenBehind from) (charstring_token a stop at byte) (charstring_token b stop at byte)
charstring_token_one a b from to stop at byte h low short =
    let P = IsTokenBehind from in
    let is_operator = nat_lt byte 32 && not (byte == 28) in
    test_one P (byte == 255) (byte == 255) _ _ _ _ refl (λ _. number_one from stop (at + 5) _ _ (omega (arith, low)) (λ fits. s32_same a b from to (at + 1) h (omega (arith, low)) (omega (arith, fits, short)))) (λ _.
    test_one P is_operator is_operator _ _ _ _ refl (λ _. operator_one a b from to stop at byte h low short)
    (λ _. map_one P P _ _ in_fractions (whole_number_one a b from to stop at byte h low short) (in_fractions-behind from)))

-- the number or operator at a place before the end of a charstring
token_at_one : (a b : List ℕ) (from to stop at : ℕ) → AgreeOn a b from to → from ≤ at → at < stop → stop ≤ to →
    AreOne (IsTokenBehind from) (charstring_token a stop at (u8_at a at)) (charstring_token b stop at (u8_at b at))
token_at_one a b from to stop at h low inside short =
    let one = charstring_token_one a b from to stop at (u8_at a at) h low short in
    record { same = one.same ∙ ap (charstring_token b stop at) (u8_same a b from to at h low (omega (arith, inside, short))); holds = one.holds }

stepped_one : (a b : List ℕ) (from to : ℕ) (program : Program) (m : Machine) → AgreeOn a b from to → IsProgramFrom from to program → IsMachineFrom from to m →
    AreOne (IsMachineFrom from to) (behind_step a program m) (behind_step b program m)
stepped_one a b from to program m h items is =
    test_one (IsMachineFrom from to) (nat_le m.place.to m.place.from) (nat_le m.place.to m.place.from) _ _ _ _ refl (λ _. kept_one from to _ (returned_kept from to true m is)) (λ before.
    then_one (IsTokenBehind from) (IsMachineFrom from to) _ _ (behind_code a program m) (behind_code b program m)
    (token_at_one a b from to m.place.to m.place.from h is.place.low (leb-false m.place.to m.place.from before) is.place.high) (λ token low. token_step a b from to program m token h items is low))

run_one : (a b : List ℕ) (from to : ℕ) (program : Program) (n : ℕ) (m : Machine) → AgreeOn a b from to → IsProgramFrom from to program → IsMachineFrom from to m → AreOne IsAny (run a program n m) (run b program n m)
unfolding run
run_one a b from to program zero m h items is = none_is IsAny
run_one a b from to program (suc n) m h items is =
    test_one IsAny m.is_done m.is_done _ _ _ _ refl (λ _. record { same = refl; holds = tt }) (λ _.
    then_one (IsMachineFrom from to) IsAny _ _ (run a program n) (run b program n) (stepped_one a b from to program m h items is) (λ next next_is. run_one a b from to program n next h items next_is))

-- ---- glyphs

first_from : (from to : ℕ) (body : Span) → IsSpanFrom from to body → IsMachineFrom from to (first_machine body)
first_from from to body is = record { place = is; calls = All-nil (IsSpanFrom from to) }

glyph_one : (a b : List ℕ) (font : CffFont) (g : ℕ) → IsWholeFont a b font → AreOne IsAny (glyph_contours a font g) (glyph_contours b font g)
glyph_one a b font g h =
    then_one (IsSpanOf font) IsAny _ _ (λ body. option_and_then (charstring_contours a font body) (local_subroutines a font g)) (λ body. option_and_then (charstring_contours b font body) (local_subroutines b font g))
    (item_one a b font.place font.stop font.glyphs g h.agree (inr h.is.glyphs)) (λ body inside.
    then_one (AreItemsOf font) IsAny _ _ (charstring_contours a font body) (charstring_contours b font body) (local_one a b font g h) (λ own own_from.
    map_one IsAny IsAny _ _ drawn_by (run_one a b font.place font.stop (record { shared = font.globals; own = own }) max_steps (first_machine body) h.agree
    (record { shared = inr h.is.globals; own = own_from }) (first_from font.place font.stop body inside)) (λ m _. tt)))

own_matrix_same : (a b : List ℕ) (font : CffFont) (g : ℕ) (dicts : Option FontDicts) → IsWholeFont a b font → IfSome dicts (AreDictsFrom font.place font.stop) → own_matrix a font g dicts ≡ own_matrix b font g dicts
own_matrix_same a b font g None h from = refl
own_matrix_same a b font g (Some dicts) h from =
    (then_one (IsSpanOf font) IsAny _ _ (dict_matrix a) (dict_matrix b) (glyph_dict_one a b font g (Some dicts) h from) (λ dict is.
    any_one _ _ (dict_matrix_same a b font.place font.stop dict h.agree is))).same

glyph_matrix_same : (a b : List ℕ) (font : CffFont) (units g : ℕ) → IsWholeFont a b font → glyph_matrix a font units g ≡ glyph_matrix b font units g
glyph_matrix_same a b font units g h = ap₂ (matrix_by units) (dict_matrix_same a b font.place font.stop font.top h.agree h.is.top) (own_matrix_same a b font g font.dicts h h.is.dicts)

pub cff_contours_same : (a b : List ℕ) (font : CffFont) (units g : ℕ) → IsWholeFont a b font → cff_contours a font units g ≡ cff_contours b font units g
cff_contours_same a b font units g h =
    ap₂ (λ matrix contours. contours_if_whole (option_and_then (contours_behind matrix) contours)) (glyph_matrix_same a b font units g h) (glyph_one a b font g h).same

ends_same : (from : ℕ) (f g : ℕ → Bool) (o p : Option Token) → AreOne (IsTokenBehind from) o p → ((at : ℕ) → from ≤ at → f at ≡ g at) → ends_by f o ≡ ends_by g p
ends_same from f g None p one e = ap (ends_by g) one.same
ends_same from f g (Some (Number value behind)) p one e = e behind one.holds ∙ ap (ends_by g) one.same
ends_same from f g (Some (Operator code behind)) p one e = ap (ends_by g) one.same

blank_from_same : (a b : List ℕ) (from to stop n at : ℕ) → AgreeOn a b from to → from ≤ at → stop ≤ to → is_blank_from a stop n at ≡ is_blank_from b stop n at
unfolding is_blank_from
blank_from_same a b from to stop zero at h low short = refl
blank_from_same a b from to stop (suc n) at h low short =
    if_same (nat_le stop at) (nat_le stop at) refl (λ _. refl) (λ before.
    ends_same from (is_blank_from a stop n) (is_blank_from b stop n) _ _ (token_at_one a b from to stop at h low (leb-false stop at before) short) (λ place behind. blank_from_same a b from to stop n place h behind short))

blank_body_same : (a b : List ℕ) (from to : ℕ) (o p : Option Span) → AgreeOn a b from to → AreOne (IsSpanFrom from to) o p → is_blank_body a o ≡ is_blank_body b p
blank_body_same a b from to None p h one = ap (is_blank_body b) one.same
blank_body_same a b from to (Some body) p h one = blank_from_same a b from to body.to (body.to - body.from) body.from h one.holds.low one.holds.high ∙ ap (is_blank_body b) one.same

pub cff_blank_same : (a b : List ℕ) (font : CffFont) (g : ℕ) → IsWholeFont a b font → is_blank_at_sight a font g ≡ is_blank_at_sight b font g
cff_blank_same a b font g h = blank_body_same a b font.place font.stop _ _ h.agree (item_one a b font.place font.stop font.glyphs g h.agree (inr h.is.glyphs))
