-- The bytes of written numbers: none is a comma, a blank or a line's end.
use Rattle.std.proofs.Common.{◌≡◌, ℕ, suc, ◌+◌, ◌-◌, ◌/◌, ◌%◌, ◌^◌, ◌<◌, Bool, true, false, cond, eqb, leb, ltb, ◌||◌, ◌&&◌, List, [], ◌∷◌, ◌++◌, length, drop, reverse, ℤ, pos, negsuc, refl, sym, ap, subst, arith}
use Rattle.std.specs.Fmt.{decimal, signed_decimal}
use Rattle.std.specs.List.{All, AllPass, prefix_len}
use Rattle.std.specs.Str.{IsUtf8}
use Rattle.std.proofs.lemmas.Bool.Decides.{nat_tests}
use Rattle.std.proofs.lemmas.Int.{ints}
use Rattle.std.proofs.lemmas.List.Elements.{All-nil, All-cons, All-head, All-weaker, All-append}
use Rattle.std.proofs.lemmas.List.{get_or-reverse, length-reverse}
use Rattle.std.proofs.lemmas.Str.{IsUtf8-from_ascii}
use Rattle.std.proofs.lemmas.Str.Ascii.{IsAscii-from_all}
use Rattle.ass_num.specs.Limits.{IsWithin, IsHeldNumber, max_whole}
use Rattle.ass_num.specs.Numerals.{is_blank, is_decimal}
use Rattle.ass_num.specs.declared.colour.Rgba.{Rgba}
use Rattle.ass_script.specs.Words.{is_comma}
use Rattle.ass_events.proofs.NumberLemmas.{decimal_digits}
use Rattle.ass_num.specs.Blanks.{past_blanks, before_blanks, trimmed}
use Rattle.ass_num.proofs.TrimmedLemmas.{trimmed_bare}
use Rattle.track_write.specs.Ranges.{IsByteColour}
use Rattle.track_write.specs.Spelling.{digit, two_digits, three_digits, fraction_text, thousandths_text, milli_text, hex_digit, byte_text, colour_text, flag_text, time_text}
use Rattle.track_write.specs.Texts.{is_line_feed}

-- `&`, `-`, `.`, the digits, `:` and what follows up to `H`
abbrev pub is_token : ℕ → Bool
is_token c = eqb c 38 || (eqb c 45 || (eqb c 46 || (leb 48 c && leb c 72)))

abbrev pub AreTokens : List ℕ → Type 0
AreTokens text = AllPass is_token text

-- ---- what tokens aren't

pub token_no_comma : (c : ℕ) → is_token c ≡ true → is_comma c ≡ false
token_no_comma c passes = grind (arith, nat_tests)

pub token_no_line_feed : (c : ℕ) → is_token c ≡ true → is_line_feed c ≡ false
token_no_line_feed c passes = grind (arith, nat_tests)

pub token_no_blank : (c : ℕ) → is_token c ≡ true → is_blank c ≡ false
token_no_blank c passes = grind (arith, nat_tests)

pub token_no_return : (c : ℕ) → is_token c ≡ true → eqb c 13 ≡ false
token_no_return c passes = grind (arith, nat_tests)

pub token_ascii : (c : ℕ) → is_token c ≡ true → c < 128
token_ascii c passes = grind (arith, nat_tests)

pub no_comma : (text : List ℕ) → AreTokens text → All (λ c. is_comma c ≡ false) text
no_comma text all = All-weaker (λ c. is_token c ≡ true) (λ c. is_comma c ≡ false) token_no_comma text all

pub no_line_feed : (text : List ℕ) → AreTokens text → All (λ c. is_line_feed c ≡ false) text
no_line_feed text all = All-weaker (λ c. is_token c ≡ true) (λ c. is_line_feed c ≡ false) token_no_line_feed text all

-- ---- tokens in a row

pub no_tokens : AreTokens []
no_tokens = All-nil (λ c. is_token c ≡ true)

pub one_token : (c : ℕ) (text : List ℕ) → is_token c ≡ true → AreTokens text → AreTokens (c ∷ text)
one_token c text first rest = All-cons (λ c. is_token c ≡ true) c text first rest

pub more_tokens : (a b : List ℕ) → AreTokens a → AreTokens b → AreTokens (a ++ b)
more_tokens a b first second = All-append (λ c. is_token c ≡ true) a b first second

-- ---- the texts of numbers

decimal_token : (c : ℕ) → is_decimal c ≡ true → is_token c ≡ true
decimal_token c passes = grind (arith, nat_tests)

digit_token : (n : ℕ) → is_token (digit n) ≡ true
digit_token n = small (n % 10) (omega arith)
  where
    small : (d : ℕ) → d < 10 → is_token (48 + d) ≡ true
    small d below = grind (arith, nat_tests)

hex_token : (d : ℕ) → d < 16 → is_token (hex_digit d) ≡ true
hex_token d below = cases (ltb d 10) refl
  where
    cases : (b : Bool) → ltb d 10 ≡ b → is_token (cond b (48 + d) (55 + d)) ≡ true
    cases true e = grind (arith, nat_tests)
    cases false e = grind (arith, nat_tests)

pub decimal_tokens : (n : ℕ) → n < 2 ^ 64 → AreTokens (decimal n)
decimal_tokens n small = All-weaker (λ c. is_decimal c ≡ true) (λ c. is_token c ≡ true) decimal_token (decimal n) (decimal_digits n small).all

pub signed_tokens : (z : ℤ) → IsWithin max_whole z → AreTokens (signed_decimal z)
signed_tokens (pos n) within = decimal_tokens n (omega (arith, ints, within.1))
signed_tokens (negsuc n) within = one_token 45 (decimal (suc n)) refl (decimal_tokens (suc n) (omega (arith, ints, within.0)))

two_tokens : (n : ℕ) → AreTokens (two_digits n)
two_tokens n = one_token (digit (n / 10)) (digit n ∷ []) (digit_token (n / 10)) (one_token (digit n) [] (digit_token n) no_tokens)

fraction_tokens : (n : ℕ) → AreTokens (fraction_text n)
fraction_tokens n = cases (eqb n 0) (eqb (n % 100) 0) (eqb (n % 10) 0)
  where
    cases : (x y z : Bool) → AreTokens (cond x [] (cond y (46 ∷ digit (n / 100) ∷ []) (cond z (46 ∷ two_digits (n / 10)) (46 ∷ three_digits n))))
    cases true y z = no_tokens
    cases false true z = one_token 46 (digit (n / 100) ∷ []) refl (one_token (digit (n / 100)) [] (digit_token (n / 100)) no_tokens)
    cases false false true = one_token 46 (two_digits (n / 10)) refl (two_tokens (n / 10))
    cases false false false = one_token 46 (three_digits n) refl (one_token (digit (n / 100)) (two_digits n) (digit_token (n / 100)) (two_tokens n))

pub thousandths_tokens : (n : ℕ) → n < 2 ^ 64 → AreTokens (thousandths_text n)
thousandths_tokens n small = more_tokens (decimal (n / 1000)) (fraction_text (n % 1000)) (decimal_tokens (n / 1000) (omega arith)) (fraction_tokens (n % 1000))

byte_tokens : (b : ℕ) → b < 256 → AreTokens (byte_text b)
byte_tokens b small = one_token (hex_digit (b / 16)) (hex_digit (b % 16) ∷ []) (hex_token (b / 16) (omega arith)) (one_token (hex_digit (b % 16)) [] (hex_token (b % 16) (omega arith)) no_tokens)

pub flag_tokens : (b : Bool) → AreTokens (flag_text b)
flag_tokens true = one_token 45 (49 ∷ []) refl (one_token 49 [] refl no_tokens)
flag_tokens false = one_token 48 [] refl no_tokens

mark_tokens : (mark n : ℕ) → is_token mark ≡ true → AreTokens (mark ∷ two_digits n)
mark_tokens mark n is = one_token mark (two_digits n) is (two_tokens n)

pub time_tokens : (t : ℕ) → t < 2 ^ 64 → AreTokens (time_text t)
time_tokens t small =
    let h = decimal (t / 3600000) in
    let m = 58 ∷ two_digits (t / 60000 % 60) in
    let s = 58 ∷ two_digits (t / 1000 % 60) in
    let c = 46 ∷ two_digits (t / 10 % 100) in
    more_tokens (h ++ m ++ s) c (more_tokens (h ++ m) s (more_tokens h m (decimal_tokens (t / 3600000) (omega arith)) (mark_tokens 58 (t / 60000 % 60) refl)) (mark_tokens 58 (t / 1000 % 60) refl)) (mark_tokens 46 (t / 10 % 100) refl)

-- ---- tokens stay where blanks are dropped

none_counted : (text : List ℕ) → AreTokens text → prefix_len is_blank text ≡ 0
none_counted [] all = refl
none_counted (c ∷ cs) all = ap (λ b. cond b (1 + prefix_len is_blank cs) 0) (token_no_blank c (All-head (λ z. is_token z ≡ true) c cs all))

reversed : (text : List ℕ) → AreTokens text → AreTokens (reverse text)
reversed text all = λ k d inside.
    let below : k < length text = omega (arith, length-reverse text) in
    subst (λ (c : ℕ). is_token c ≡ true) (sym (get_or-reverse text k d below)) (all (length text - 1 - k) d (omega arith))

pub tokens_stay : (text : List ℕ) → AreTokens text → trimmed text ≡ text
tokens_stay text all = trimmed_bare text (none_counted text all) (none_counted (reverse text) (reversed text all))

pub milli_tokens : (z : ℤ) → IsHeldNumber z → AreTokens (milli_text z)
milli_tokens (pos n) held = thousandths_tokens n (omega (arith, ints, held.1))
milli_tokens (negsuc n) held = one_token 45 (thousandths_text (suc n)) refl (thousandths_tokens (suc n) (omega (arith, ints, held.0)))

pub colour_tokens : (c : Rgba) → IsByteColour c → AreTokens (colour_text c)
colour_tokens c is =
    let start : AreTokens (38 ∷ 72 ∷ byte_text c.a) = one_token 38 (72 ∷ byte_text c.a) refl (one_token 72 (byte_text c.a) refl (byte_tokens c.a is.a)) in
    more_tokens ((38 ∷ 72 ∷ byte_text c.a) ++ byte_text c.b ++ byte_text c.g) (byte_text c.r)
    (more_tokens ((38 ∷ 72 ∷ byte_text c.a) ++ byte_text c.b) (byte_text c.g) (more_tokens (38 ∷ 72 ∷ byte_text c.a) (byte_text c.b) start (byte_tokens c.b is.b)) (byte_tokens c.g is.g)) (byte_tokens c.r is.r)

-- a blank before a text is dropped
pub blank_dropped : (text : List ℕ) → trimmed (32 ∷ text) ≡ trimmed text
unfolding trimmed past_blanks
blank_dropped text = let next : 1 + prefix_len is_blank text ≡ suc (prefix_len is_blank text) = omega arith in ap (λ n. before_blanks (drop n (32 ∷ text))) next

-- what has ASCII bytes alone is UTF-8
pub tokens_utf8 : (text : List ℕ) → AreTokens text → IsUtf8 text
tokens_utf8 text all = IsUtf8-from_ascii text (IsAscii-from_all text (All-weaker (λ c. is_token c ≡ true) (λ c. c < 128) token_ascii text all))
