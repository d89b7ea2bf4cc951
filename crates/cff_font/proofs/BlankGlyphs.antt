-- A glyph that is blank at sight draws nothing.
use Rattle.std.proofs.Common.{◌≡◌, ℕ, zero, suc, ◌+◌, ◌<◌, ◌≤◌, Bool, true, false, cond, List, [], ◌∷◌, ◌++◌, length, ◌-◌, Option, Some, None, ℤ, refl, ap, ◌∙◌, subst, arith}
use Rattle.std.specs.Prelude.{◌&&◌, ◌==◌, not, nat_lt, nat_le, IfSome, option_and_then, option_map}
use Rattle.std.proofs.lemmas.Bool.Decides.{nat_tests}
use Rattle.font_bytes.specs.Bytes.{u8_at}
use Rattle.cff_font.specs.declared.decimals.FontMatrix.{FontMatrix}
use Rattle.cff_font.specs.declared.indexes.Index.{Index}
use Rattle.cff_font.specs.declared.machine.Machine.{Machine}
use Rattle.cff_font.specs.declared.machine.Program.{Program}
use Rattle.cff_font.specs.declared.read.CffFont.{CffFont}
use Rattle.outline_points.specs.declared.stroke.Stroke.{Stroke}
use Rattle.cff_font.specs.declared.tokens.Span.{Span}
use Rattle.cff_font.specs.declared.tokens.Token.{Token}
use Rattle.cff_font.specs.declared.tokens.Token.TheVariants.{Number, Operator}
use Rattle.cff_font.specs.Glyphs.{cff_contours, charstring_contours, contours_if_whole, drawn_by, ends_by, glyph_contours, is_blank_at_sight, is_blank_body, is_blank_from, max_steps}
use Rattle.cff_font.specs.Indexes.{item_at}
use Rattle.cff_font.specs.Machines.{behind_code, behind_operator, charstring_token, in_fractions, max_operands, run}
use Rattle.cff_font.specs.Matrices.{contours_behind, glyph_matrix, transformed_contours}
use Rattle.cff_font.specs.Pens.{first_pen}
use Rattle.cff_font.specs.Subroutines.{local_subroutines}
use Rattle.cff_font.specs.Tokens.{behind_token, number_before, operator_at, whole_number}
use Rattle.cff_font.proofs.MachineBounds.{if_either}

-- ---- each number and operator ends behind the place where it begins

abbrev IsBehind : ℕ → Token → Type 0
IsBehind at token = at < behind_token token

number-behind : (stop behind at : ℕ) (value : ℤ) → at < behind → IfSome (number_before stop behind value) (IsBehind at)
number-behind stop behind at value h = if_either (nat_lt stop behind) None (Some (Number value behind)) (IsBehind at) tt h

operator-behind : (bytes : List ℕ) (stop at b : ℕ) → IfSome (operator_at bytes stop at b) (IsBehind at)
operator-behind bytes stop at b = if_either (b == 12) _ _ (IsBehind at) (if_either (nat_lt stop (at + 2)) _ _ (IsBehind at) tt (omega arith)) (omega arith)

whole-behind : (bytes : List ℕ) (stop at b : ℕ) → IfSome (whole_number bytes stop at b) (IsBehind at)
whole-behind bytes stop at b =
    if_either (b == 28) _ _ (IsBehind at) (number-behind stop (at + 3) at _ (omega arith))
    (if_either (nat_lt b 32) _ _ (IsBehind at) tt
    (if_either (nat_lt b 247) _ _ (IsBehind at) (number-behind stop (at + 1) at _ (omega arith))
    (if_either (nat_lt b 251) _ _ (IsBehind at) (number-behind stop (at + 2) at _ (omega arith))
    (if_either (nat_lt b 255) _ _ (IsBehind at) (number-behind stop (at + 2) at _ (omega arith)) tt))))

fraction-behind : (at : ℕ) (token : Option Token) → IfSome token (IsBehind at) → IfSome (option_map in_fractions token) (IsBehind at)
fraction-behind at None h = tt
fraction-behind at (Some (Number value behind)) h = h
fraction-behind at (Some (Operator code behind)) h = h

token-behind : (bytes : List ℕ) (stop at b : ℕ) → IfSome (charstring_token bytes stop at b) (IsBehind at)
token-behind bytes stop at b =
    if_either (b == 255) _ _ (IsBehind at) (number-behind stop (at + 5) at _ (omega arith))
    (if_either (nat_lt b 32 && not (b == 28)) _ _ (IsBehind at) (operator-behind bytes stop at b) (fraction-behind at (whole_number bytes stop at b) (whole-behind bytes stop at b)))

-- ---- the machine before anything is drawn

abbrev IsUndrawn : Machine → Type 0
IsUndrawn m = drawn_by m ≡ []

-- in the first charstring, with some operands
abbrev waiting : Bool → ℕ → ℕ → List ℤ → Machine
waiting is_done from to operands = record { place = record { from = from; to = to }; calls = []; operands = operands; hints = 0; pen = first_pen; is_done = is_done }

done-run : (bytes : List ℕ) (program : Program) (n from to : ℕ) (operands : List ℤ) → IfSome (run bytes program n (waiting true from to operands)) IsUndrawn
unfolding run
done-run bytes program zero from to operands = tt
done-run bytes program (suc n) from to operands = refl

then_either : {X Y : Type 0} (b : Bool) (o p : Option X) (f : X → Option Y) (P : Y → Type 0) → IfSome (option_and_then f o) P → IfSome (option_and_then f p) P → IfSome (option_and_then f (cond b o p)) P
then_either true o p f P ho hp = ho
then_either false o p f P ho hp = hp

-- behind a number the machine waits on, and behind endchar it is done
token-run : (bytes : List ℕ) (program : Program) (n k from to : ℕ) (operands : List ℤ) (token : Option Token) → to ≤ from + suc k → IfSome token (IsBehind from)
    → ends_by (is_blank_from bytes to k) token ≡ true
    → ((at : ℕ) (operands : List ℤ) → to ≤ at + k → is_blank_from bytes to k at ≡ true → IfSome (run bytes program n (waiting false at to operands)) IsUndrawn)
    → IfSome (option_and_then (run bytes program n) (option_and_then (behind_code bytes program (waiting false from to operands)) token)) IsUndrawn
token-run bytes program n k from to operands None within behind blank next = tt
token-run bytes program n k from to operands (Some (Number value at)) within behind blank next =
    then_either (nat_lt (length operands) max_operands) (Some (waiting false at to (operands ++ value ∷ []))) None (run bytes program n) IsUndrawn
    (next at (operands ++ value ∷ []) (omega (arith, within, behind)) blank) tt
token-run bytes program n k from to operands (Some (Operator code at)) within behind blank next =
    let ends : 14 ≡ code = grind (arith, nat_tests) in
    subst (λ code. IfSome (option_and_then (run bytes program n) (behind_operator bytes program (waiting false at to operands) code)) IsUndrawn) ends
    (then_either (nat_lt 1 (length operands)) None (Some (waiting true at to operands)) (run bytes program n) IsUndrawn tt (done-run bytes program n at to operands))

-- a step at the end of the charstring, or before it
spent-run : (bytes : List ℕ) (program : Program) (n from to : ℕ) (operands : List ℤ) (ends : Bool) (rest : Option Machine) → to ≤ from → ends ≡ nat_le to from
    → IfSome (option_and_then (run bytes program n) (cond ends (Some (waiting true from to operands)) rest)) IsUndrawn
spent-run bytes program n from to operands true rest within is = done-run bytes program n from to operands
spent-run bytes program n from to operands false rest within is = let more : from < to = grind (arith, nat_tests) in absurd (omega (arith, more, within))

step-run : (bytes : List ℕ) (program : Program) (n k from to : ℕ) (operands : List ℤ) (ends : Bool) → ends ≡ nat_le to from → to ≤ from + suc k
    → cond (nat_le to from) true (ends_by (is_blank_from bytes to k) (charstring_token bytes to from (u8_at bytes from))) ≡ true
    → ((at : ℕ) (operands : List ℤ) → to ≤ at + k → is_blank_from bytes to k at ≡ true → IfSome (run bytes program n (waiting false at to operands)) IsUndrawn)
    → IfSome (option_and_then (run bytes program n) (cond ends (Some (waiting true from to operands)) (option_and_then (behind_code bytes program (waiting false from to operands)) (charstring_token bytes to from (u8_at bytes from))))) IsUndrawn
step-run bytes program n k from to operands true is within blank next = done-run bytes program n from to operands
step-run bytes program n k from to operands false is within blank next =
    let token = charstring_token bytes to from (u8_at bytes from) in
    let ends : ends_by (is_blank_from bytes to k) token ≡ true = ap (λ b. cond b true (ends_by (is_blank_from bytes to k) token)) is ∙ blank in
    token-run bytes program n k from to operands token within (token-behind bytes to from (u8_at bytes from)) ends next

blank-run : (bytes : List ℕ) (program : Program) (n k from to : ℕ) (operands : List ℤ) → to ≤ from + k → is_blank_from bytes to k from ≡ true
    → IfSome (run bytes program n (waiting false from to operands)) IsUndrawn
unfolding run is_blank_from
blank-run bytes program zero k from to operands within blank = tt
blank-run bytes program (suc n) zero from to operands within blank =
    spent-run bytes program n from to operands (nat_le to from) _ (omega (arith, within)) refl
blank-run bytes program (suc n) (suc k) from to operands within blank =
    step-run bytes program n k from to operands (nat_le to from) refl within blank (λ at rest. blank-run bytes program n k at to rest)

-- ---- glyphs

-- no contours, or none that are whole
abbrev IsEmpty : Option (List (List Stroke)) → Type 0
IsEmpty contours = IfSome contours (λ all. all ≡ [])

undrawn : (m : Option Machine) → IfSome m IsUndrawn → IsEmpty (option_map drawn_by m)
undrawn None h = tt
undrawn (Some m) h = h

own-undrawn : (bytes : List ℕ) (font : CffFont) (body : Span) (own : Option Index) → is_blank_body bytes (Some body) ≡ true → IsEmpty (option_and_then (charstring_contours bytes font body) own)
own-undrawn bytes font body None blank = tt
own-undrawn bytes font body (Some own) blank =
    let program : Program = record { shared = font.globals; own = own } in
    undrawn (run bytes program max_steps (waiting false body.from body.to [])) (blank-run bytes program max_steps (body.to - body.from) body.from body.to [] (omega arith) blank)

body-undrawn : (bytes : List ℕ) (font : CffFont) (g : ℕ) (body : Option Span) → is_blank_body bytes body ≡ true
    → IsEmpty (option_and_then (λ body. option_and_then (charstring_contours bytes font body) (local_subroutines bytes font g)) body)
body-undrawn bytes font g None blank = tt
body-undrawn bytes font g (Some body) blank = own-undrawn bytes font body (local_subroutines bytes font g) blank

-- whatever the matrix is
empty-behind : (m : Option FontMatrix) (contours : Option (List (List Stroke))) → IsEmpty contours → contours_if_whole (option_and_then (contours_behind m) contours) ≡ []
empty-behind m None empty = refl
empty-behind None (Some contours) empty = empty
empty-behind (Some m) (Some contours) empty = ap (λ all. contours_if_whole (transformed_contours m all)) empty

pub blank-empty : (bytes : List ℕ) (font : CffFont) (units g : ℕ) → is_blank_at_sight bytes font g ≡ true → cff_contours bytes font units g ≡ []
blank-empty bytes font units g blank =
    empty-behind (glyph_matrix bytes font units g) (glyph_contours bytes font g) (body-undrawn bytes font g (item_at bytes font.glyphs g) blank)
