-- The ranges of the numbers that texts say.
use Rattle.std.proofs.Common.{◌≡◌, ℕ, ◌+◌, ◌*◌, ◌/◌, ◌^◌, ◌≤◌, min, Bool, true, false, cond, eqb, ltb, leb, ◌&&◌, List, [], ◌∷◌, length, take, drop, get_or, Option, Some, None, pos, neg_ℤ, refl, arith}
use Rattle.std.specs.Prelude.{IfSome}
use Rattle.std.specs.List.{prefix_len, list_all}
use Rattle.std.specs.Option.{option_map}
use Rattle.std.proofs.lemmas.Bool.Decides.{nat_tests}
use Rattle.std.proofs.lemmas.Int.{ints}
use Rattle.ass_num.specs.Bytes.{minus, point}
use Rattle.ass_num.specs.Limits.{IsHeldNumber, IsWithin, max_held, max_whole}
use Rattle.ass_num.specs.Numerals.{is_blank, is_decimal, number_of, sign_len, signed}
use Rattle.ass_num.specs.Wholes.{whole_of, whole_under}
use Rattle.ass_script.specs.Numbers.{decimal_of, milli_of, plain_decimal, pointed_decimal}

-- what holds of both of two answers holds of the one that is taken
pub either_has : {V : Type 0} (P : V → Type 0) (b : Bool) (x y : Option V) → IfSome x P → IfSome y P → IfSome (cond b x y) P
either_has P true x y first second = first
either_has P false x y first second = second

signed_within : (limit : ℕ) (sign : List ℕ) (n : ℕ) → n ≤ limit → IsWithin limit (signed sign n)
signed_within limit [] n small = (omega (arith, ints), omega (arith, ints))
signed_within limit (c ∷ cs) n small = by_sign (eqb c minus)
  where
    by_sign : (b : Bool) → IsWithin limit (cond b (neg_ℤ (pos n)) (pos n))
    by_sign true = (omega (arith, ints), omega (arith, ints))
    by_sign false = (omega (arith, ints), omega (arith, ints))

-- ---- thousandths

abbrev IsHeld : ℕ → Type 0
IsHeld n = n ≤ max_held

decimal_held : (text : List ℕ) → IfSome (decimal_of text) IsHeld
decimal_held text =
    let w = prefix_len is_decimal text in
    let f = prefix_len is_decimal (drop (w + 1) text) in
    either_has IsHeld (ltb w (length text) && eqb (get_or text w 0) point) (pointed_decimal text w f) (plain_decimal text w)
    (unless (eqb (w + f) 0) (number_of 10 (take w text) * 1000 + number_of 10 (take f (drop (w + 1) text)) * 1000 / 10 ^ f))
    (unless (eqb w 0) (number_of 10 (take w text) * 1000))
  where
    unless : (b : Bool) (n : ℕ) → IfSome (cond b None (Some (min n max_held))) IsHeld
    unless true n = tt
    unless false n = omega arith

pub milli_held : (text : List ℕ) → IfSome (milli_of text) IsHeldNumber
unfolding milli_of
milli_held text = under (decimal_of (drop (sign_len text) text)) (decimal_held (drop (sign_len text) text))
  where
    under : (o : Option ℕ) → IfSome o IsHeld → IfSome (option_map (signed (take (sign_len text) text)) o) IsHeldNumber
    under None held = tt
    under (Some n) held = signed_within max_held (take (sign_len text) text) n held

-- ---- whole numbers

under_within : (sign digits rest : List ℕ) → IfSome (whole_under sign digits rest) (IsWithin max_whole)
under_within sign digits rest = cases (ltb 0 (length digits)) (leb (number_of 10 digits) max_whole) (list_all is_blank rest) refl
  where
    cases : (some small blank : Bool) → leb (number_of 10 digits) max_whole ≡ small → IfSome (cond (some && (small && blank)) (Some (signed sign (number_of 10 digits))) None) (IsWithin max_whole)
    cases true true true e = signed_within max_whole sign (number_of 10 digits) (grind (arith, nat_tests))
    cases true true false e = tt
    cases true false blank e = tt
    cases false small blank e = tt

pub whole_within : (text : List ℕ) → IfSome (whole_of text) (IsWithin max_whole)
unfolding whole_of
whole_within text =
    let number = drop (prefix_len is_blank text) text in
    let digits = drop (sign_len number) number in
    under_within (take (sign_len number) number) (take (prefix_len is_decimal digits) digits) (drop (prefix_len is_decimal digits) digits)
