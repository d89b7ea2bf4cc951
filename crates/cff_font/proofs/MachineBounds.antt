-- No point that the machine draws lies far from 0.
use Rattle.std.proofs.Common.{ℕ, zero, suc, ◌+◌, ◌/◌, true, false, Bool, cond, List, Option, Some, None, pos, rules}
use Rattle.std.specs.List.{All}
use Rattle.std.specs.Prelude.{◌||◌, ◌==◌, nat_lt, nat_le, length, IfSome, option_and_then, option_map}
use Rattle.font_bytes.specs.Bytes.{u8_at}
use Rattle.std.proofs.lemmas.List.Elements.{All-nil}
use Rattle.ass_num.specs.declared.geometry.Point.{Point}
use Rattle.cff_font.specs.declared.indexes.Index.{Index}
use Rattle.cff_font.specs.declared.machine.Machine.{Machine}
use Rattle.cff_font.specs.declared.machine.Program.{Program}
use Rattle.cff_font.specs.declared.read.CffFont.{CffFont}
use Rattle.outline_points.specs.declared.stroke.Stroke.{Stroke}
use Rattle.cff_font.specs.declared.tokens.Span.{Span}
use Rattle.cff_font.specs.declared.tokens.Token.{Token}
use Rattle.cff_font.specs.declared.tokens.Token.TheVariants.{Number, Operator}
use Rattle.cff_font.specs.Glyphs.{cff_contours, charstring_contours, contours_if_whole, drawn_by, glyph_contours, max_steps}
use Rattle.cff_font.specs.Indexes.{item_at}
use Rattle.outline_points.specs.CubicContours.{IsGlyphStroke}
use Rattle.cff_font.specs.Machines.{machine_at, behind_code, behind_drawing, behind_hints, behind_mask, behind_masked, behind_operator, called, charstring_token, behind_end, first_machine}
use Rattle.cff_font.specs.Machines.{in_subroutine, is_hint_code, is_mask_code, max_calls, max_hints, max_operands, moved_by, operand_before_last, returned, run, behind_step, subroutine_named, with_pen}
use Rattle.cff_font.specs.Matrices.{contours_behind, glyph_matrix}
use Rattle.cff_font.specs.Pens.{drawn_strokes, moved_pen}
use Rattle.cff_font.specs.Strokes.{strokes_of, step}
use Rattle.cff_font.specs.Subroutines.{local_subroutines}
use Rattle.cff_font.proofs.PenBounds.{IsGoodPen, behind-matrix-within, if_then, if_map, closed-within, good-moved, good-strokes}

abbrev pub IsGood : Machine → Type 0
IsGood m = IsGoodPen m.pen

-- a value, or none, as a test decides
pub if_either : {X : Type 0} (b : Bool) (o p : Option X) (P : X → Type 0) → IfSome o P → IfSome p P → IfSome (cond b o p) P
if_either true o p P ho hp = ho
if_either false o p P ho hp = hp

good-returned : (may : Bool) (m : Machine) → IsGood m → IfSome (returned may m) IsGood
good-returned may m h = if_either (length m.calls == 0) _ _ IsGood (if_either may _ _ IsGood h tt) h

good-hints : (m : Machine) → IsGood m → IfSome (behind_hints m) IsGood
good-hints m h = if_either (nat_lt max_hints (m.hints + length m.operands / 2)) _ _ IsGood tt h

good-mask : (m : Machine) → IsGood m → IfSome (behind_mask m) IsGood
good-mask m h = if_either (nat_lt m.place.to (m.place.from + (m.hints + 7) / 8)) _ _ IsGood tt h

good-masked : (m : Machine) → IsGood m → IfSome (behind_masked m) IsGood
good-masked m h = if_then (behind_hints m) behind_mask IsGood IsGood (good-hints m h) good-mask

good-move : (m : Machine) (least : ℕ) (by : Point) → IsGood m → IfSome (moved_by m least by) IsGood
good-move m least by h =
    if_either (nat_lt (length m.operands) least) _ _ IsGood tt
    (if_map (moved_pen m.pen by) (with_pen m) IsGoodPen IsGood (good-moved m.pen by h) (λ pen k. k))

-- whatever the strokes are
good-strokes-of : (m : Machine) (strokes : Option (List Stroke)) → IsGood m → IfSome (option_and_then (λ strokes. option_map (with_pen m) (drawn_strokes m.pen strokes)) strokes) IsGood
good-strokes-of m None h = tt
good-strokes-of m (Some strokes) h = if_map (drawn_strokes m.pen strokes) (with_pen m) IsGoodPen IsGood (good-strokes m.pen strokes h) (λ pen k. k)

good-drawing : (m : Machine) (code : ℕ) → IsGood m → IfSome (behind_drawing m code) IsGood
good-drawing m code h =
    if_either (code == 21) _ _ IsGood (good-move m 2 (step (operand_before_last m.operands 1) (operand_before_last m.operands 0)) h)
    (if_either (code == 22) _ _ IsGood (good-move m 1 (step (operand_before_last m.operands 0) (pos 0)) h)
    (if_either (code == 4) _ _ IsGood (good-move m 1 (step (pos 0) (operand_before_last m.operands 0)) h)
    (good-strokes-of m (strokes_of code m.operands) h)))

-- wherever the subroutine is
good-body : (m : Machine) (body : Option Span) → IsGood m → IfSome (option_map (in_subroutine m) body) IsGood
good-body m None h = tt
good-body m (Some body) h = h

good-called : (bytes : List ℕ) (index : Index) (m : Machine) → IsGood m → IfSome (called bytes index m) IsGood
good-called bytes index m h =
    if_either ((length m.operands == 0) || nat_le max_calls (length m.calls)) _ _ IsGood tt
    (good-body m (subroutine_named bytes index (operand_before_last m.operands 0)) h)

good-behind_end : (m : Machine) → IsGood m → IfSome (behind_end m) IsGood
good-behind_end m h = if_either (nat_lt 1 (length m.operands)) _ _ IsGood tt h

good-operator : (bytes : List ℕ) (program : Program) (m : Machine) (code : ℕ) → IsGood m → IfSome (behind_operator bytes program m code) IsGood
good-operator bytes program m code h =
    if_either (is_hint_code code) _ _ IsGood (good-hints m h)
    (if_either (is_mask_code code) _ _ IsGood (good-masked m h)
    (if_either (code == 10) _ _ IsGood (good-called bytes program.own m h)
    (if_either (code == 29) _ _ IsGood (good-called bytes program.shared m h)
    (if_either (code == 11) _ _ IsGood (good-returned false m h)
    (if_either (code == 14) _ _ IsGood (good-behind_end m h)
    (good-drawing m code h))))))

good-code : (bytes : List ℕ) (program : Program) (m : Machine) (token : Token) → IsGood m → IfSome (behind_code bytes program m token) IsGood
good-code bytes program m (Number value behind) h = if_either (nat_lt (length m.operands) max_operands) _ _ IsGood h tt
good-code bytes program m (Operator code behind) h = good-operator bytes program (machine_at m behind) code h

good-token : (bytes : List ℕ) (program : Program) (m : Machine) (token : Option Token) → IsGood m → IfSome (option_and_then (behind_code bytes program m) token) IsGood
good-token bytes program m None h = tt
good-token bytes program m (Some token) h = good-code bytes program m token h

good-behind_step : (bytes : List ℕ) (program : Program) (m : Machine) → IsGood m → IfSome (behind_step bytes program m) IsGood
good-behind_step bytes program m h =
    if_either (nat_le m.place.to m.place.from) _ _ IsGood (good-returned true m h)
    (good-token bytes program m (charstring_token bytes m.place.to m.place.from (u8_at bytes m.place.from)) h)

good-run : (bytes : List ℕ) (program : Program) (n : ℕ) (m : Machine) → IsGood m → IfSome (run bytes program n m) IsGood
unfolding run
good-run bytes program zero m h = tt
good-run bytes program (suc n) m h =
    if_either m.is_done _ _ IsGood h
    (if_then (behind_step bytes program m) (run bytes program n) IsGood IsGood (good-behind_step bytes program m h) (λ next k. good-run bytes program n next k))

first-good : (body : Span) → IsGood (first_machine body)
first-good body = record {
  at = record { x = search rules; y = search rules };
  contour = All-nil IsGlyphStroke;
  contours = All-nil (All IsGlyphStroke);
}

drawn-within : (m : Option Machine) → IfSome m IsGood → IfSome (option_map drawn_by m) (All (All IsGlyphStroke))
drawn-within None h = tt
drawn-within (Some m) h = closed-within m.pen.contours m.pen.contour h.contours h.contour

-- whatever the subroutines are, and wherever the charstring is
own-within : (bytes : List ℕ) (font : CffFont) (body : Span) (own : Option Index) → IfSome (option_and_then (charstring_contours bytes font body) own) (All (All IsGlyphStroke))
own-within bytes font body None = tt
own-within bytes font body (Some own) =
    let program : Program = record { shared = font.globals; own = own } in
    drawn-within (run bytes program max_steps (first_machine body)) (good-run bytes program max_steps (first_machine body) (first-good body))

body-within : (bytes : List ℕ) (font : CffFont) (g : ℕ) (body : Option Span)
    → IfSome (option_and_then (λ body. option_and_then (charstring_contours bytes font body) (local_subroutines bytes font g)) body) (All (All IsGlyphStroke))
body-within bytes font g None = tt
body-within bytes font g (Some body) = own-within bytes font body (local_subroutines bytes font g)

or-none : (contours : Option (List (List Stroke))) → IfSome contours (All (All IsGlyphStroke)) → All (All IsGlyphStroke) (contours_if_whole contours)
or-none None h = All-nil (All IsGlyphStroke)
or-none (Some contours) h = h

pub contours-within : (bytes : List ℕ) (font : CffFont) (units g : ℕ) → All (All IsGlyphStroke) (cff_contours bytes font units g)
contours-within bytes font units g =
    let m = glyph_matrix bytes font units g in
    let drawn = body-within bytes font g (item_at bytes font.glyphs g) in
    or-none (option_and_then (contours_behind m) (glyph_contours bytes font g))
    (if_then (glyph_contours bytes font g) (contours_behind m) (All (All IsGlyphStroke)) (All (All IsGlyphStroke)) drawn (behind-matrix-within m))
