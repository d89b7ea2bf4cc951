-- Fronts that begin with a sign or none.
use Rattle.std.proofs.Common.{◌≡◌, ℕ, ◌+◌, ◌<◌, min, Bool, true, false, cond, eqb, inl, inr, List, [], ◌∷◌, ◌++◌, length, take, drop, ℤ, pos, neg_ℤ, refl, sym, ap, ◌∙◌, subst, arith, length-append}
use Rattle.std.proofs.lemmas.Int.{ints, clamps}
use Rattle.std.proofs.lemmas.List.{length-take-le, length-drop}
use Rattle.std.proofs.lemmas.List.Elements.{All-head}
use Rattle.std.proofs.Math.Seq.{take-add, drop-append_seam, take-append_seam}
use Rattle.std.specs.List.{AllPass}
use Rattle.ass_num.specs.Floor.{held}
use Rattle.ass_num.specs.Fronts.{IsLongestFront, HasNoFront}
use Rattle.ass_num.specs.Numerals.{is_decimal, is_sign, sign_len, IsSign, signed, IsDecimal, IsHeldDecimal, IsMilli}
use Rattle.ass_num.proofs.Runs.{rest_of_front, sign_len-append, sign_len_le, IsSign-take, decimal_no_sign}

-- The text begins with a byte that is no sign.
abbrev pub IsUnsigned : List ℕ → Type 0
IsUnsigned bytes = (c : ℕ) × (cs : List ℕ) × (bytes ≡ c ∷ cs) × (is_sign c ≡ false)

pub unsigned_digits : (digits rest : List ℕ) → AllPass is_decimal digits → 0 < length digits → IsUnsigned (digits ++ rest)
unsigned_digits [] rest all some = absurd (omega arith)
unsigned_digits (c ∷ cs) rest all some = (c, cs ++ rest, refl, decimal_no_sign c (All-head (λ z. is_decimal z ≡ true) c cs all))

pub unsigned_all : (digits : List ℕ) → AllPass is_decimal digits → 0 < length digits → IsUnsigned digits
unsigned_all [] all some = absurd (omega arith)
unsigned_all (c ∷ cs) all some = (c, cs, refl, decimal_no_sign c (All-head (λ z. is_decimal z ≡ true) c cs all))

unsigned_point : (whole fraction : List ℕ) → AllPass is_decimal whole → IsUnsigned (whole ++ (46 ∷ fraction))
unsigned_point [] fraction all = (46, fraction, refl, refl)
unsigned_point (c ∷ cs) fraction all = (c, cs ++ (46 ∷ fraction), refl, decimal_no_sign c (All-head (λ z. is_decimal z ≡ true) c cs all))

pub unsigned_decimal : (bytes : List ℕ) (n : ℕ) → IsDecimal bytes n → IsUnsigned bytes
unsigned_decimal bytes n d = subst IsUnsigned (sym d.spelled) (elim d.point_or_none [
  | inl point ↦ let P : List ℕ → Type 0 = λ z. IsUnsigned (d.whole ++ (z ++ d.fraction)) in subst P (sym point) (unsigned_point d.whole d.fraction d.whole_digits)
  | inr bare ↦ unsigned_digits d.whole (d.point ++ d.fraction) d.whole_digits (omega (arith, d.some_digit, ap length bare.1))
])

-- A sign before what has none is as long as the sign there.
pub sign_before : (sign bytes rest : List ℕ) → IsSign sign → IsUnsigned bytes → sign_len (sign ++ (bytes ++ rest)) ≡ length sign
sign_before sign bytes rest is u = ap (λ z. sign_len (sign ++ (z ++ rest))) u.2 ∙ sign_len-append sign u.0 (u.1 ++ rest) is u.3

-- What stands behind the sign of a text, where a prefix of it is a sign and unsigned bytes.
pub behind_sign : (t sign bytes : List ℕ) (k : ℕ) → take k t ≡ sign ++ bytes → IsSign sign → IsUnsigned bytes → (sign_len t ≡ length sign) × (drop (sign_len t) t ≡ bytes ++ drop k t)
behind_sign t sign bytes k e is u =
    let text = rest_of_front t sign bytes k e in
    let count : sign_len t ≡ length sign = ap sign_len text ∙ sign_before sign bytes (drop k t) is u in
    (count, ap (λ z. drop z t) count ∙ ap (drop (length sign)) text ∙ drop-append_seam sign (bytes ++ drop k t))

-- the same bytes as a prefix of what stands behind the sign
pub front_behind_sign : (t sign bytes : List ℕ) (k : ℕ) → take k t ≡ sign ++ bytes → IsSign sign → IsUnsigned bytes → take (length bytes) (drop (sign_len t) t) ≡ bytes
front_behind_sign t sign bytes k e is u = ap (take (length bytes)) (behind_sign t sign bytes k e is u).1 ∙ take-append_seam bytes (drop k t)

-- ---- numbers in thousandths

held_under : (b : Bool) (n : ℕ) → cond b (neg_ℤ (pos (min n 1000000000))) (pos (min n 1000000000)) ≡ held (neg_ℤ (pos 1000000000)) (pos 1000000000) (cond b (neg_ℤ (pos n)) (pos n))
held_under true n = omega (arith, ints, clamps)
held_under false n = omega (arith, ints, clamps)

held_signed : (sign : List ℕ) (n : ℕ) → signed sign (min n 1000000000) ≡ held (neg_ℤ (pos 1000000000)) (pos 1000000000) (signed sign n)
held_signed [] n = omega (arith, ints, clamps)
held_signed (c ∷ cs) n = held_under (eqb c 45) n

pub milli_none : (t : List ℕ) → HasNoFront IsHeldDecimal (drop (sign_len t) t) → HasNoFront IsMilli t
milli_none t none = λ len value m.
    let u = unsigned_decimal m.decimal m.thousandths m.number in
    let front = front_behind_sign t m.sign m.decimal len m.spelled m.sign_or_none u in
    let P : List ℕ → Type 0 = λ z. IsDecimal z m.thousandths in
    none (length m.decimal) (min m.thousandths 1000000000) (m.thousandths, subst P (sym front) m.number, refl)

pub milli_front : (t : List ℕ) (value : ℤ) (h len : ℕ) → value ≡ signed (take (sign_len t) t) h → IsLongestFront IsHeldDecimal (drop (sign_len t) t) h len → IsLongestFront IsMilli t value (sign_len t + len)
milli_front t value h len is f = record {
  within = omega (arith, f.within, length-drop (sign_len t) t, sign_len_le t);
  spelled = record {
    sign = take (sign_len t) t;
    decimal = take len (drop (sign_len t) t);
    thousandths = f.spelled.0;
    spelled = take-add (sign_len t) len t;
    sign_or_none = IsSign-take t;
    number = f.spelled.1;
    value = is ∙ ap (signed (take (sign_len t) t)) f.spelled.2 ∙ held_signed (take (sign_len t) t) f.spelled.0;
  };
  longest = λ longer other fits m.
      let u = unsigned_decimal m.decimal m.thousandths m.number in
      let behind = behind_sign t m.sign m.decimal longer m.spelled m.sign_or_none u in
      let front = front_behind_sign t m.sign m.decimal longer m.spelled m.sign_or_none u in
      let P : List ℕ → Type 0 = λ z. IsDecimal z m.thousandths in
      let no_longer = f.longest (length m.decimal) (min m.thousandths 1000000000) (omega (arith, ap length behind.1, length-append m.decimal (drop longer t))) (m.thousandths, subst P (sym front) m.number, refl) in
      omega (arith, no_longer, length-take-le longer t fits, ap length m.spelled, length-append m.sign m.decimal, behind.0);
}

-- ---- the same where the length of the sign has a name

pub milli_none_at : (t : List ℕ) (s : ℕ) → s ≡ sign_len t → HasNoFront IsHeldDecimal (drop s t) → HasNoFront IsMilli t
milli_none_at t s is none = let P : ℕ → Type 0 = λ z. HasNoFront IsHeldDecimal (drop z t) in milli_none t (subst P is none)

pub milli_front_at : (t : List ℕ) (value : ℤ) (s h len : ℕ) → s ≡ sign_len t → value ≡ signed (take s t) h → IsLongestFront IsHeldDecimal (drop s t) h len → IsLongestFront IsMilli t value (s + len)
milli_front_at t value s h len is value_is front =
    let P : ℕ → Type 0 = λ z. value ≡ signed (take z t) h → IsLongestFront IsHeldDecimal (drop z t) h len → IsLongestFront IsMilli t value (z + len) in
    subst P (sym is) (milli_front t value h len) value_is front
