-- Characters at the front of a text.
use Rattle.std.proofs.Common.{◌≡◌, ◌≢◌, ℕ, zero, suc, ◌+◌, ◌<◌, ◌≤◌, ◌==◌, false, List, [], ◌∷◌, ◌++◌, length, get_or, ap, sym, ◌∙◌, arith, refl, lit<, length-append}
use Rattle.std.specs.Prelude.{encode_utf8}
use Rattle.std.proofs.lemmas.Bool.{ne_eqb, cond-false, or_from, or_parts}
use Rattle.std.proofs.lemmas.List.Folds.{list_any_none, list_any-append}
use Rattle.std.proofs.lemmas.Str.{char_from_byte, encode_ascii}
use Rattle.override_tags.specs.Fronts.{has_close, begins_escape, begins_other, shown_char, Part, Char, HardBreak, SoftBreak, HardSpace, Block, IsFront, body_len}

-- a text without the byte has no `}`
pub no_close : (text : List ℕ) → ((i : ℕ) → i < length text → get_or text i 0 ≢ 125) → has_close text ≡ false
no_close text h = list_any_none (λ c. c == 125) text (λ k d within. ne_eqb (get_or text k d) 125 (λ e. h k within (get_or_same text k d within ∙ e)))
  where
    get_or_same : (text : List ℕ) (k d : ℕ) → k < length text → get_or text k 0 ≡ get_or text k d
    get_or_same [] k d h = absurd (omega arith)
    get_or_same (c ∷ text) zero d h = refl
    get_or_same (c ∷ text) (suc k) d h = get_or_same text k d (omega arith)

-- the first byte of another character
other_byte : (b : ℕ) (bytes rest : List ℕ) (c k : ℕ) → b ∷ bytes ≡ encode_utf8 c ++ rest → c ≢ k → k < 128 → (b == k) ≡ false
other_byte b bytes rest c k e other ascii = ne_eqb b k (λ same. other (char_from_byte (b ∷ bytes) rest c e (omega arith) (omega arith) ∙ same))

pub no_escape : (text rest : List ℕ) (c : ℕ) → text ≡ encode_utf8 c ++ rest → c ≢ 78 → c ≢ 110 → c ≢ 104 → begins_escape text ≡ false
no_escape [] rest c e a b d = refl
no_escape (f ∷ text) rest c e a b d =
    or_from _ _ (other_byte f text rest c 78 e a (omega arith)) (or_from _ _ (other_byte f text rest c 110 e b (omega arith)) (other_byte f text rest c 104 e d (omega arith)))

pub no_other : (text rest : List ℕ) (c : ℕ) → text ≡ encode_utf8 c ++ rest → c ≢ 123 → c ≢ 92 → begins_other text ≡ false
no_other [] rest c e a b = refl
no_other (f ∷ text) rest c e a b =
    cond-false _ _ _ (other_byte f text rest c 123 e a (omega arith)) ∙ cond-false _ _ _ (other_byte f text rest c 92 e b (omega arith))

ascii_char : (c : ℕ) (text : List ℕ) → c < 128 → c ∷ text ≡ encode_utf8 c ++ text
ascii_char c text ascii = sym (ap (λ z. z ++ text) (encode_ascii c ascii))

-- a `{` without a `}` behind it is a character
pub brace_char : (text : List ℕ) → has_close text ≡ false → IsFront (123 ∷ text) (Char 123) text
brace_char text none = (none, (123, ascii_char 123 text (lit< tt), refl))

-- so is a `\` without the letter of a break
pub backslash_char : (text : List ℕ) → begins_escape text ≡ false → IsFront (92 ∷ text) (Char 92) text
backslash_char text none = (none, (92, ascii_char 92 text (lit< tt), refl))

-- and each other character
pub other_char : (text rest : List ℕ) (c shown : ℕ) → text ≡ encode_utf8 c ++ rest → c ≢ 123 → c ≢ 92 → shown ≡ shown_char c → IsFront text (Char shown) rest
other_char text rest c shown e a b is = (no_other text rest c e a b, (c, e, is))

-- what follows has no `}` either
pub closes_rest : (text front rest : List ℕ) → text ≡ front ++ rest → has_close text ≡ false → has_close rest ≡ false
closes_rest text front rest e none = (or_parts _ _ (sym (ap has_close e ∙ list_any-append (λ c. c == 125) front rest) ∙ none)).1

-- a part is no shorter than its body
pub body_fits : (text : List ℕ) (part : Part) (rest : List ℕ) → IsFront text part rest → length rest < length text → body_len part + 1 ≤ length text
body_fits text (Char c) rest front shorter = omega arith
body_fits text HardBreak rest front shorter = omega arith
body_fits text SoftBreak rest front shorter = omega arith
body_fits text HardSpace rest front shorter = omega arith
body_fits text (Block body) rest front shorter =
    let e = ap length front.0 in
    let l = length-append body (125 ∷ rest) in
    omega arith
