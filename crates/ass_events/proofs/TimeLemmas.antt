-- The time that a text is: the definition that computes, and the shape of the text.
use Rattle.std.proofs.Common.{◌≡◌, ℕ, ◌+◌, ◌<◌, ◌≤◌, Bool, true, false, cond, ltb, leb, eqb, List, ◌∷◌, ◌++◌, length, take, drop, get_or, Option, Some, None, ℤ, pos, refl, sym, ap, ◌∙◌, subst, arith, length-append}
use Rattle.std.specs.Prelude.{IfSome, IfNone, option_and_then}
use Rattle.std.proofs.lemmas.List.{take-append-drop, get_or_at, drop_more, length-take-le}
use Rattle.std.proofs.lemmas.List.Sums.{AllPass-from_list_all, list_all-from_AllPass, prefix_len-le-length}
use Rattle.std.proofs.lemmas.Bool.Decides.{nat_tests}
use Rattle.std.proofs.Math.Seq.{drop-append_seam, take-append_seam, drop-append-add}
use Rattle.std.specs.List.{AllPass, prefix_len, list_all}
use Rattle.ass_num.specs.Numerals.{is_blank, is_decimal, number_of, IsTimePart, IsTime}
use Rattle.ass_num.proofs.Runs.{prefix_len-append, AllPass-take}
use Rattle.ass_num.proofs.Wholes.{no_blank_digits, no_digit_blanks}
use Rattle.ass_events.specs.Numbers.{part_cut, part_before, last_cut, last_part, time_made, time_at, time_of}

-- ---- from the shape

cut_some : (mark n : ℕ) (text : List ℕ) → 0 < n → n ≤ 6 → n < length text → get_or text n 0 ≡ mark → part_cut mark text n ≡ Some (number_of 10 (take n text), drop (n + 1) text)
cut_some mark n text some few inside at = grind (arith, nat_tests)

part_some : (mark : ℕ) (digits rest : List ℕ) → is_decimal mark ≡ false → IsTimePart digits → part_before mark (digits ++ (mark ∷ rest)) ≡ Some (number_of 10 digits, rest)
part_some mark digits rest stops part =
    let text = digits ++ (mark ∷ rest) in
    let count : prefix_len is_decimal text ≡ length digits =
    prefix_len-append is_decimal digits (mark ∷ rest) part.all_digits ∙ ap (λ b. length digits + cond b (1 + prefix_len is_decimal rest) 0) stops ∙ omega arith in
    let size = length-append digits (mark ∷ rest) in
    ap (part_cut mark text) count
    ∙ cut_some mark (length digits) text part.some_digit part.at_most_six (omega (arith, size)) (get_or_at digits mark rest 0 (length digits) refl)
    ∙ ap (λ z. Some (number_of 10 z, drop (length digits + 1) text)) (take-append_seam digits (mark ∷ rest))
    ∙ ap (λ z. Some (number_of 10 digits, z)) (drop-append-add digits (mark ∷ rest) 1)

last_some : (n : ℕ) (text : List ℕ) → 0 < n → n ≤ 6 → list_all is_blank (drop n text) ≡ true → last_cut text n ≡ Some (number_of 10 (take n text))
last_some n text some few blanks = grind (arith, nat_tests)

last_is : (digits after : List ℕ) → IsTimePart digits → AllPass is_blank after → last_part (digits ++ after) ≡ Some (number_of 10 digits)
last_is digits after part blanks =
    let text = digits ++ after in
    let count : prefix_len is_decimal text ≡ length digits = prefix_len-append is_decimal digits after part.all_digits ∙ omega (arith, no_digit_blanks after blanks) in
    ap (last_cut text) count
    ∙ last_some (length digits) text part.some_digit part.at_most_six (ap (list_all is_blank) (drop-append_seam digits after) ∙ list_all-from_AllPass is_blank after blanks)
    ∙ ap (λ z. Some (number_of 10 z)) (take-append_seam digits after)

-- what follows the parts before
abbrev with_last : ℕ → ℕ → ℕ → Option ℕ → Option ℤ
with_last h m s o = option_and_then (λ c. Some (time_made h m s c)) o

abbrev with_seconds : ℕ → ℕ → Option (ℕ × List ℕ) → Option ℤ
with_seconds h m o = option_and_then (λ s. with_last h m s.0 (last_part s.1)) o

abbrev with_minutes : ℕ → Option (ℕ × List ℕ) → Option ℤ
with_minutes h o = option_and_then (λ m. with_seconds h m.0 (part_before 46 m.1)) o

abbrev with_hours : Option (ℕ × List ℕ) → Option ℤ
with_hours o = option_and_then (λ h. with_minutes h.0 (part_before 58 h.1)) o

-- a text of the shape has its time
pub time_from_shape : (t : List ℕ) (z : ℤ) → IsTime t z → time_of t ≡ Some z
unfolding time_of
time_from_shape t z m =
    let d = m.hundredths ++ m.after in
    let c = m.seconds ++ (46 ∷ d) in
    let b = m.minutes ++ (58 ∷ c) in
    let a = m.hours ++ (58 ∷ b) in
    let count : prefix_len is_blank t ≡ length m.before =
    ap (prefix_len is_blank) m.spelled ∙ prefix_len-append is_blank m.before a m.blanks_before
    ∙ omega (arith, no_blank_digits m.hours (58 ∷ b) m.hours_part.all_digits m.hours_part.some_digit) in
    let behind : drop (prefix_len is_blank t) t ≡ a = ap (λ n. drop n t) count ∙ (ap (drop (length m.before)) m.spelled ∙ drop-append_seam m.before a) in
    let h = number_of 10 m.hours in
    let i = number_of 10 m.minutes in
    let s = number_of 10 m.seconds in
    ap time_at behind
    ∙ ap with_hours (part_some 58 m.hours b refl m.hours_part)
    ∙ ap (with_minutes h) (part_some 58 m.minutes c refl m.minutes_part)
    ∙ ap (with_seconds h i) (part_some 46 m.seconds d refl m.seconds_part)
    ∙ ap (with_last h i s) (last_is m.hundredths m.after m.hundredths_part m.blanks_after)
    ∙ ap Some (sym m.value)

-- ---- back to the shape

-- digits before a mark, and what follows
record Part (mark : ℕ) (text : List ℕ) (number : ℕ) (rest : List ℕ) : Type 0 where
  digits : List ℕ
  part : IsTimePart digits
  spelled : text ≡ digits ++ (mark ∷ rest)
  value : number ≡ number_of 10 digits

record Cut (mark : ℕ) (text : List ℕ) (n number : ℕ) (rest : List ℕ) : Type 0 where
  some : 0 < n
  few : n ≤ 6
  inside : n < length text
  at : get_or text n 0 ≡ mark
  value : number ≡ number_of 10 (take n text)
  after : rest ≡ drop (n + 1) text

cut_shape : (mark : ℕ) (text : List ℕ) (n number : ℕ) (rest : List ℕ) → part_cut mark text n ≡ Some (number, rest) → Cut mark text n number rest
cut_shape mark text n number rest e = cases _ _ _ _ refl refl refl refl
  where
    cases : (a b c d : Bool) → ltb 0 n ≡ a → leb n 6 ≡ b → ltb n (length text) ≡ c → eqb (get_or text n 0) mark ≡ d → Cut mark text n number rest
    cases true true true true ea eb ec ed =
        let here : ℕ × List ℕ = (number_of 10 (take n text), drop (n + 1) text) in
        let said : ℕ × List ℕ = (number, rest) in
        let same : Some here ≡ Some said = grind (arith, nat_tests) in
        let both : here ≡ said = cc in
        record { some = grind (arith, nat_tests); few = grind (arith, nat_tests); inside = grind (arith, nat_tests); at = grind (arith, nat_tests); value = sym (ap (λ p. p.0) both); after = sym (ap (λ p. p.1) both) }
    cases false b c d ea eb ec ed = absurd (grind (arith, nat_tests))
    cases true false c d ea eb ec ed = absurd (grind (arith, nat_tests))
    cases true true false d ea eb ec ed = absurd (grind (arith, nat_tests))
    cases true true true false ea eb ec ed = absurd (grind (arith, nat_tests))

digits_are : (text : List ℕ) (n : ℕ) → n ≡ prefix_len is_decimal text → 0 < n → n ≤ 6 → IsTimePart (take n text)
digits_are text n count some few =
    let size : length (take n text) ≡ n = length-take-le n text (omega (arith, prefix_len-le-length is_decimal text)) in
    let P : ℕ → Type 0 = λ z. AllPass is_decimal (take z text) in
    record { all_digits = subst P (sym count) (AllPass-take is_decimal text); some_digit = omega (arith, size); at_most_six = omega (arith, size) }

part_shape : (mark : ℕ) (text : List ℕ) (number : ℕ) (rest : List ℕ) → part_before mark text ≡ Some (number, rest) → Part mark text number rest
part_shape mark text number rest e =
    let n = prefix_len is_decimal text in
    let cut = cut_shape mark text n number rest e in
    record {
      digits = take n text;
      part = digits_are text n refl cut.some cut.few;
      spelled = sym (take-append-drop n text) ∙ ap (λ z. take n text ++ z) (drop_more text n 0 cut.inside ∙ ap (λ z. z ∷ drop (n + 1) text) cut.at ∙ ap (λ z. mark ∷ z) (sym cut.after));
      value = cut.value;
    }

record Last (text : List ℕ) (number : ℕ) : Type 0 where
  digits : List ℕ
  after : List ℕ
  part : IsTimePart digits
  spelled : text ≡ digits ++ after
  blanks : AllPass is_blank after
  value : number ≡ number_of 10 digits

last_shape : (text : List ℕ) (number : ℕ) → last_part text ≡ Some number → Last text number
last_shape text number e = cases _ _ _ refl refl refl
  where
    cases : (a b c : Bool) → ltb 0 (prefix_len is_decimal text) ≡ a → leb (prefix_len is_decimal text) 6 ≡ b → list_all is_blank (drop (prefix_len is_decimal text) text) ≡ c → Last text number
    cases true true true ea eb ec =
        let k = prefix_len is_decimal text in
        let same : Some (number_of 10 (take k text)) ≡ Some number = grind (arith, nat_tests) in
        record {
          digits = take k text;
          after = drop k text;
          part = digits_are text k refl (grind (arith, nat_tests)) (grind (arith, nat_tests));
          spelled = sym (take-append-drop k text);
          blanks = AllPass-from_list_all is_blank (drop k text) ec;
          value = cc;
        }
    cases false b c ea eb ec = absurd (grind (arith, nat_tests))
    cases true false c ea eb ec = absurd (grind (arith, nat_tests))
    cases true true false ea eb ec = absurd (grind (arith, nat_tests))

module _ (t : List ℕ) (z : ℤ) where
  abbrev start : List ℕ
  start = drop (prefix_len is_blank t) t

  from_last : (h m s : ℕ) (b c d : List ℕ) (hour : Part 58 (drop (prefix_len is_blank t) t) h b) (minute : Part 58 b m c) (second : Part 46 c s d) (o : Option ℕ) → last_part d ≡ o → with_last h m s o ≡ Some z → IsTime t z
  from_last h m s b c d hour minute second None e whole = absurd (cc)
  from_last h m s b c d hour minute second (Some n) e whole =
      let last = last_shape d n e in
      let value : time_made h m s n ≡ z = cc in
      record {
        before = take (prefix_len is_blank t) t;
        hours = hour.digits;
        minutes = minute.digits;
        seconds = second.digits;
        hundredths = last.digits;
        after = last.after;
        spelled = sym (take-append-drop (prefix_len is_blank t) t) ∙ ap (λ x. take (prefix_len is_blank t) t ++ x) (hour.spelled
            ∙ ap (λ x. hour.digits ++ (58 ∷ x)) (minute.spelled ∙ ap (λ x. minute.digits ++ (58 ∷ x)) (second.spelled ∙ ap (λ x. second.digits ++ (46 ∷ x)) last.spelled)));
        blanks_before = AllPass-take is_blank t;
        hours_part = hour.part;
        minutes_part = minute.part;
        seconds_part = second.part;
        hundredths_part = last.part;
        blanks_after = last.blanks;
        value = sym value ∙ same_time hour.value minute.value second.value last.value;
      }
    where
      same_time : {h i s c hh ii ss cc : ℕ} → h ≡ hh → i ≡ ii → s ≡ ss → c ≡ cc → time_made h i s c ≡ time_made hh ii ss cc
      same_time first second third fourth = ap pos (omega (arith, first, second, third, fourth))

  from_second : (h m : ℕ) (b c : List ℕ) (hour : Part 58 (drop (prefix_len is_blank t) t) h b) (minute : Part 58 b m c) (o : Option (ℕ × List ℕ)) → part_before 46 c ≡ o → with_seconds h m o ≡ Some z → IsTime t z
  from_second h m b c hour minute None e whole = absurd (cc)
  from_second h m b c hour minute (Some (s, d)) e whole = from_last h m s b c d hour minute (part_shape 46 c s d e) (last_part d) refl whole

  from_minute : (h : ℕ) (b : List ℕ) (hour : Part 58 (drop (prefix_len is_blank t) t) h b) (o : Option (ℕ × List ℕ)) → part_before 58 b ≡ o → with_minutes h o ≡ Some z → IsTime t z
  from_minute h b hour None e whole = absurd (cc)
  from_minute h b hour (Some (m, c)) e whole = from_second h m b c hour (part_shape 58 b m c e) (part_before 46 c) refl whole

  from_hour : (o : Option (ℕ × List ℕ)) → part_before 58 (drop (prefix_len is_blank t) t) ≡ o → with_hours o ≡ Some z → IsTime t z
  from_hour None e whole = absurd (cc)
  from_hour (Some (h, b)) e whole = from_minute h b (part_shape 58 (drop (prefix_len is_blank t) t) h b e) (part_before 58 b) refl whole

-- the time that a text has comes of its shape
pub shape_from_time : (t : List ℕ) (z : ℤ) → time_of t ≡ Some z → IsTime t z
unfolding time_of
shape_from_time t z e = from_hour t z (part_before 58 (drop (prefix_len is_blank t) t)) refl e

-- what a reader says that answers exactly where the shape holds
pub time_read : (t : List ℕ) (r : Option ℤ) → IfSome r (IsTime t) → IfNone r ((z : ℤ) → IsTime t z → ⊥) → r ≡ time_of t
time_read t (Some z) some none = sym (time_from_shape t z some)
time_read t None some none = sym (cases (time_of t) refl)
  where
    cases : (o : Option ℤ) → time_of t ≡ o → o ≡ None
    cases None e = refl
    cases (Some z) e = absurd (none z (shape_from_time t z e))
