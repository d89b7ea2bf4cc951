-- No bytes spell two values, so a text has one longest front and one value there.
use Rattle.std.proofs.Common.{◌≡◌, ℕ, ◌+◌, ◌*◌, ◌/◌, ◌%◌, ◌^◌, Bool, true, false, cond, ◌⊎◌, inl, inr, List, [], ◌∷◌, ◌++◌, length, take, drop, ℤ, pos, neg_ℤ, refl, sym, ap, ◌∙◌, subst, arith}
use Rattle.std.proofs.lemmas.List.{append-nil}
use Rattle.std.proofs.lemmas.Bool.{false≢true}
use Rattle.std.proofs.Math.Seq.{drop-append_seam, take-append_seam}
use Rattle.std.specs.Int.{int_rem_euclid}
use Rattle.std.specs.List.{AllPass, prefix_len}
use Rattle.ass_num.specs.Floor.{held}
use Rattle.ass_num.specs.Fronts.{IsLongestFront, SpellsOne}
use Rattle.ass_num.specs.Numerals.{is_blank, is_decimal, is_mark, sign_len, number_of, IsSign, signed, IsDecimal, IsMilli, IsWholeNumber, IsMarked, IsWrapped, IsStyleColour, is_hex_start, IsTimePart, IsTime}
use Rattle.ass_num.proofs.Runs.{prefix_len-append, sign_len-append}
use Rattle.ass_num.proofs.SignFronts.{IsUnsigned, unsigned_all, unsigned_decimal}
use Rattle.ass_num.proofs.Wholes.{no_blank_digits, no_blank_signed, no_digit_blanks}
use Rattle.ass_num.proofs.ColourFronts.{no_mark_digits, hex_start_no_blank, wrapped_no_hex, wrapped_no_blank}

-- Two longest prefixes of one text are the same.
pub one_front : {Value : Type 0} (Spells : List ℕ → Value → Type 0) → SpellsOne Spells → (text : List ℕ) (v w : Value) (m n : ℕ) → IsLongestFront Spells text v m → IsLongestFront Spells text w n → (v ≡ w) × (m ≡ n)
one_front {Value} Spells one text v w m n first second =
    let same : m ≡ n = omega (arith, first.longest n w second.within second.spelled, second.longest m v first.within first.spelled) in
    let P : ℕ → Type 0 = λ z. Spells (take z text) v in
    (one (take n text) v w (subst P same first.spelled) second.spelled, same)

-- ---- where the parts stand

-- a run and what stops it
front_is : (p : ℕ → Bool) (bytes run rest : List ℕ) → bytes ≡ run ++ rest → AllPass p run → prefix_len p rest ≡ 0 → (run ≡ take (prefix_len p bytes) bytes) × (rest ≡ drop (prefix_len p bytes) bytes)
front_is p bytes run rest e all stops =
    let count : prefix_len p bytes ≡ length run = ap (prefix_len p) e ∙ prefix_len-append p run rest all ∙ omega (arith, stops) in
    (sym (ap (λ z. take z bytes) count ∙ ap (take (length run)) e ∙ take-append_seam run rest), sym (ap (λ z. drop z bytes) count ∙ ap (drop (length run)) e ∙ drop-append_seam run rest))

-- a sign and what has none
sign_is : (bytes sign rest : List ℕ) → bytes ≡ sign ++ rest → IsSign sign → IsUnsigned rest → (sign ≡ take (sign_len bytes) bytes) × (rest ≡ drop (sign_len bytes) bytes)
sign_is bytes sign rest e is u =
    let count : sign_len bytes ≡ length sign = ap sign_len e ∙ ap (λ z. sign_len (sign ++ z)) u.2 ∙ sign_len-append sign u.0 u.1 is u.3 in
    (sym (ap (λ z. take z bytes) count ∙ ap (take (length sign)) e ∙ take-append_seam sign rest), sym (ap (λ z. drop z bytes) count ∙ ap (drop (length sign)) e ∙ drop-append_seam sign rest))

-- ---- numbers in thousandths

decimal_parts : (bytes : List ℕ) (n : ℕ) → (d : IsDecimal bytes n) → (d.whole ≡ take (prefix_len is_decimal bytes) bytes) × (d.fraction ≡ drop 1 (drop (prefix_len is_decimal bytes) bytes))
decimal_parts bytes n d = elim d.point_or_none [
  | inl point ↦
      let e : bytes ≡ d.whole ++ (46 ∷ d.fraction) = d.spelled ∙ ap (λ z. d.whole ++ (z ++ d.fraction)) point in
      let parts = front_is is_decimal bytes d.whole (46 ∷ d.fraction) e d.whole_digits refl in
      (parts.0, ap (drop 1) parts.1)
  | inr bare ↦
      let e : bytes ≡ d.whole ++ [] = d.spelled ∙ ap (λ z. d.whole ++ (z ++ d.fraction)) bare.0 ∙ ap (λ z. d.whole ++ z) bare.1 in
      let parts = front_is is_decimal bytes d.whole [] e d.whole_digits refl in
      (parts.0, bare.1 ∙ ap (drop 1) parts.1)
]

one_decimal : SpellsOne IsDecimal
one_decimal bytes v w a b =
    let p = decimal_parts bytes v a in
    let q = decimal_parts bytes w b in
    let whole : a.whole ≡ b.whole = p.0 ∙ sym q.0 in
    let fraction : a.fraction ≡ b.fraction = p.1 ∙ sym q.1 in
    a.value ∙ ap (λ z. number_of 10 (z ++ a.fraction) * 1000 / 10 ^ length a.fraction) whole
    ∙ ap (λ z. number_of 10 (b.whole ++ z) * 1000 / 10 ^ length z) fraction ∙ sym b.value

pub one_milli : SpellsOne IsMilli
one_milli bytes v w a b =
    let p = sign_is bytes a.sign a.decimal a.spelled a.sign_or_none (unsigned_decimal a.decimal a.thousandths a.number) in
    let q = sign_is bytes b.sign b.decimal b.spelled b.sign_or_none (unsigned_decimal b.decimal b.thousandths b.number) in
    let sign : a.sign ≡ b.sign = p.0 ∙ sym q.0 in
    let decimal : a.decimal ≡ b.decimal = p.1 ∙ sym q.1 in
    let P : List ℕ → Type 0 = λ z. IsDecimal z a.thousandths in
    let n : a.thousandths ≡ b.thousandths = one_decimal b.decimal a.thousandths b.thousandths (subst P decimal a.number) b.number in
    a.value ∙ ap (λ z. held (neg_ℤ (pos 1000000000)) (pos 1000000000) (signed z a.thousandths)) sign
    ∙ ap (λ z. held (neg_ℤ (pos 1000000000)) (pos 1000000000) (signed b.sign z)) n ∙ sym b.value

-- ---- whole numbers

whole_parts : (bytes : List ℕ) (v : ℤ) → (a : IsWholeNumber bytes v) → (rest : List ℕ) × (rest ≡ drop (prefix_len is_blank bytes) bytes) × (a.sign ≡ take (sign_len rest) rest) × (a.digits ≡ take (prefix_len is_decimal (drop (sign_len rest) rest)) (drop (sign_len rest) rest))
whole_parts bytes v a =
    let rest = a.sign ++ (a.digits ++ a.after) in
    let u = unsigned_all a.digits a.all_digits a.some_digit in
    let unsigned : IsUnsigned (a.digits ++ a.after) = (u.0, u.1 ++ a.after, ap (λ z. z ++ a.after) u.2, u.3) in
    let first = front_is is_blank bytes a.before rest a.spelled a.blanks_before (no_blank_signed a.sign a.digits a.after a.sign_or_none a.all_digits a.some_digit) in
    let second = sign_is rest a.sign (a.digits ++ a.after) refl a.sign_or_none unsigned in
    let third = front_is is_decimal (a.digits ++ a.after) a.digits a.after refl a.all_digits (no_digit_blanks a.after a.blanks_after) in
    (rest, first.1, second.0, third.0 ∙ ap (λ z. take (prefix_len is_decimal z) z) second.1)

pub one_whole : SpellsOne IsWholeNumber
one_whole bytes v w a b =
    let p = whole_parts bytes v a in
    let q = whole_parts bytes w b in
    let rest : p.0 ≡ q.0 = p.1 ∙ sym q.1 in
    let sign : a.sign ≡ b.sign = p.2 ∙ ap (λ z. take (sign_len z) z) rest ∙ sym q.2 in
    let digits : a.digits ≡ b.digits = p.3 ∙ ap (λ z. take (prefix_len is_decimal (drop (sign_len z) z)) (drop (sign_len z) z)) rest ∙ sym q.3 in
    a.value ∙ ap (λ z. signed z (number_of 10 a.digits)) sign ∙ ap (λ z. signed b.sign (number_of 10 z)) digits ∙ sym b.value

-- ---- colours

pub one_marked : (width : ℕ) → SpellsOne (IsMarked width)
one_marked width bytes v w a b =
    let part = λ (x : ℕ) (m : IsMarked width bytes x).
    (front_is is_mark bytes m.marks m.digits m.spelled m.all_marks (ap (prefix_len is_mark) (sym (append-nil m.digits)) ∙ no_mark_digits m.digits [] m.all_digits m.some_digit)).1 in
    a.value ∙ ap (λ z. number_of 16 z % 2 ^ width) (part v a ∙ sym (part w b)) ∙ sym b.value

one_wrapped : SpellsOne IsWrapped
one_wrapped bytes v w a b =
    let p = sign_is bytes a.sign a.digits a.spelled a.sign_or_none (unsigned_all a.digits a.all_digits a.some_digit) in
    let q = sign_is bytes b.sign b.digits b.spelled b.sign_or_none (unsigned_all b.digits b.all_digits b.some_digit) in
    let same : pos v ≡ pos w =
    a.value ∙ ap (λ z. int_rem_euclid (signed z (number_of 10 a.digits)) (pos (2 ^ 32))) (p.0 ∙ sym q.0)
    ∙ ap (λ z. int_rem_euclid (signed b.sign (number_of 10 z)) (pos (2 ^ 32))) (p.1 ∙ sym q.1) ∙ sym b.value in
    cc

style_code : (bytes : List ℕ) (v : ℕ) → (x : IsStyleColour bytes v) → x.code ≡ drop (prefix_len is_blank bytes) bytes
style_code bytes v x =
    let none : prefix_len is_blank x.code ≡ 0 = elim x.value [
      | inl hex ↦ hex_start_no_blank x.code hex.0
      | inr decimal ↦ ap (prefix_len is_blank) (sym (append-nil x.code)) ∙ wrapped_no_blank x.code [] v decimal
    ] in
    (front_is is_blank bytes x.blanks x.code x.spelled x.all_blanks none).1

not_both : (code : List ℕ) (v : ℕ) → is_hex_start code ≡ true → IsWrapped code v → ⊥
not_both code v start x = false≢true (sym (ap is_hex_start (sym (append-nil code)) ∙ wrapped_no_hex code [] v x) ∙ start)

pub one_style_colour : SpellsOne IsStyleColour
one_style_colour bytes v w a b =
    let code : a.code ≡ b.code = style_code bytes v a ∙ sym (style_code bytes w b) in
    let P : List ℕ → Type 0 = λ z. ((is_hex_start z ≡ true) × IsMarked 32 z v) ⊎ IsWrapped z v in
    elim (subst P code a.value) [
      | inl hex ↦ elim b.value [ inl also ↦ one_marked 32 b.code v w hex.1 also.1 | inr decimal ↦ absurd (not_both b.code w hex.0 decimal) ]
      | inr decimal ↦ elim b.value [ inl hex ↦ absurd (not_both b.code v hex.0 decimal) | inr also ↦ one_wrapped b.code v w decimal also ]
    ]

-- ---- times

-- the digits of a part and what stands behind the byte after them
part_is : (mark : ℕ) (bytes digits rest : List ℕ) → bytes ≡ digits ++ (mark ∷ rest) → is_decimal mark ≡ false → IsTimePart digits → (digits ≡ take (prefix_len is_decimal bytes) bytes) × (rest ≡ drop 1 (drop (prefix_len is_decimal bytes) bytes))
part_is mark bytes digits rest e stops part =
    let parts = front_is is_decimal bytes digits (mark ∷ rest) e part.all_digits (ap (λ b. cond b (1 + prefix_len is_decimal rest) 0) stops) in
    (parts.0, ap (drop 1) parts.1)

-- what is left of a text behind a part
abbrev left : List ℕ → List ℕ
left z = drop 1 (drop (prefix_len is_decimal z) z)

-- the number of a part
abbrev part_number : List ℕ → ℕ
part_number z = number_of 10 (take (prefix_len is_decimal z) z)

time_of : List ℕ → ℤ
time_of z = pos (((part_number z * 60 + part_number (left z)) * 60 + part_number (left (left z))) * 1000 + part_number (left (left (left z))) * 10)

time_is : (bytes : List ℕ) (v : ℤ) → IsTime bytes v → v ≡ time_of (drop (prefix_len is_blank bytes) bytes)
unfolding time_of
time_is bytes v m =
    let d = m.hundredths ++ m.after in
    let c = m.seconds ++ (46 ∷ d) in
    let b = m.minutes ++ (58 ∷ c) in
    let a = m.hours ++ (58 ∷ b) in
    let start = front_is is_blank bytes m.before a m.spelled m.blanks_before (no_blank_digits m.hours (58 ∷ b) m.hours_part.all_digits m.hours_part.some_digit) in
    let h = part_is 58 a m.hours b refl refl m.hours_part in
    let i = part_is 58 b m.minutes c refl refl m.minutes_part in
    let s = part_is 46 c m.seconds d refl refl m.seconds_part in
    let e = front_is is_decimal d m.hundredths m.after refl m.hundredths_part.all_digits (no_digit_blanks m.after m.blanks_after) in
    let b_is : b ≡ left a = h.1 in
    let c_is : c ≡ left (left a) = i.1 ∙ ap left b_is in
    let d_is : d ≡ left (left (left a)) = s.1 ∙ ap left c_is in
    let hours : number_of 10 m.hours ≡ part_number a = ap (number_of 10) h.0 in
    let minutes : number_of 10 m.minutes ≡ part_number (left a) = ap (number_of 10) i.0 ∙ ap part_number b_is in
    let seconds : number_of 10 m.seconds ≡ part_number (left (left a)) = ap (number_of 10) s.0 ∙ ap part_number c_is in
    let hundredths : number_of 10 m.hundredths ≡ part_number (left (left (left a))) = ap (number_of 10) e.0 ∙ ap part_number d_is in
    m.value ∙ same_time hours minutes seconds hundredths ∙ ap time_of start.1
  where
    same_time : {h i s c hh ii ss cc : ℕ} → h ≡ hh → i ≡ ii → s ≡ ss → c ≡ cc → pos (((h * 60 + i) * 60 + s) * 1000 + c * 10) ≡ pos (((hh * 60 + ii) * 60 + ss) * 1000 + cc * 10)
    same_time first second third fourth = ap pos (omega (arith, first, second, third, fourth))

pub one_time : SpellsOne IsTime
one_time bytes v w a b = time_is bytes v a ∙ sym (time_is bytes w b)
