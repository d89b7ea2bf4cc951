-- Where a text may be cut.
use Rattle.std.proofs.Common.{◌≡◌, ℕ, ◌+◌, ◌-◌, ◌<◌, ◌≤◌, true, List, length, get_or, arith, subst}
use Rattle.std.specs.Str.{IsUtf8, IsCharBoundary}
use Rattle.std.proofs.lemmas.Bool.Decides.{nat_tests}
use Rattle.std.proofs.lemmas.Str.{IsCharBoundary-after_ascii}
use Rattle.ass_num.specs.Numerals.{is_blank}

-- a blank is an ASCII byte
pub blank_ascii : (c : ℕ) → is_blank c ≡ true → c < 128
blank_ascii c h = grind (arith, nat_tests)

-- a text may be cut behind an ASCII byte
pub past_ascii : (text : List ℕ) (k : ℕ) → IsUtf8 text → k ≤ length text → 0 < k → get_or text (k - 1) 0 < 128 → IsCharBoundary text k
past_ascii text k utf8 within some ascii =
    let before : k - 1 < length text = omega arith in
    let same : k - 1 + 1 ≡ k = omega arith in
    let P : ℕ → Type 0 = λ z. IsCharBoundary text z in
    subst P same (IsCharBoundary-after_ascii text (k - 1) utf8 before ascii)
