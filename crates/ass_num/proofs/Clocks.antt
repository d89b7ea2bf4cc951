-- Texts that are a time between blanks.
use Rattle.std.proofs.Common.{◌≡◌, ◌≢◌, ℕ, suc, ◌+◌, ◌*◌, ◌^◌, ◌<◌, ◌≤◌, min, false, cond, ◌⊎◌, inl, inr, List, ◌∷◌, ◌++◌, length, get_or, take, drop, ℤ, pos, refl, sym, ap, ◌∙◌, subst, arith, length-append}
use Rattle.std.proofs.lemmas.List.{take-append-drop, drop_more, length-take-le, length-drop, drop-drop, get_or_at}
use Rattle.std.proofs.lemmas.List.Sums.{prefix_len-le-length}
use Rattle.std.proofs.Math.Nat.{pow-le-pow_right}
use Rattle.std.proofs.Math.Seq.{drop-append_seam, drop-append-add}
use Rattle.std.specs.List.{AllPass, prefix_len}
use Rattle.ass_num.specs.Numerals.{is_blank, is_decimal, number_of, IsTimePart, IsTimeField, IsTime}
use Rattle.ass_num.proofs.NumberLaws.{number_of-lt}
use Rattle.ass_num.proofs.Runs.{prefix_len-append, prefix_len_all, AllPass-take, AllPass-from_prefix_len}
use Rattle.ass_num.proofs.Wholes.{no_blank_digits, no_digit_blanks}

pub part_small : (digits : List ℕ) → IsTimePart digits → number_of 10 digits < 1000000
part_small digits part =
    let power : 10 ^ length digits ≤ 10 ^ 6 = pow-le-pow_right (omega arith) part.at_most_six in
    omega (arith, power, number_of-lt digits part.all_digits)

-- The digits of a field are all the digits at the front.
pub field_count : (mark : ℕ) (text : List ℕ) (number len : ℕ) → is_decimal mark ≡ false → (x : IsTimeField mark text number len) → prefix_len is_decimal text ≡ length x.digits
field_count mark text number len stops x =
    ap (prefix_len is_decimal) x.spelled ∙ prefix_len-append is_decimal x.digits (mark ∷ x.rest) x.part.all_digits
    ∙ ap (λ b. length x.digits + cond b (1 + prefix_len is_decimal x.rest) 0) stops ∙ omega arith

-- what stands behind a field
pub field_rest : (mark : ℕ) (text : List ℕ) (number len : ℕ) → (x : IsTimeField mark text number len) → drop len text ≡ x.rest
field_rest mark text number len x = ap (λ z. drop z text) x.length_of_both ∙ ap (drop (length x.digits + 1)) x.spelled ∙ drop-append-add x.digits (mark ∷ x.rest) 1

-- Two fields at one front are the same.
pub field_next : (mark : ℕ) (text : List ℕ) (number len : ℕ) (digits rest : List ℕ) → is_decimal mark ≡ false → IsTimeField mark text number len → IsTimePart digits → text ≡ digits ++ (mark ∷ rest) → drop len text ≡ rest
field_next mark text number len digits rest stops x part spelled =
    let y : IsTimeField mark text (number_of 10 digits) (length digits + 1) = record { digits = digits; rest = rest; spelled = spelled; part = part; value = refl; length_of_both = refl } in
    let same : len ≡ length digits + 1 = omega (arith, x.length_of_both, field_count mark text number len stops x, field_count mark text _ _ stops y) in
    ap (λ z. drop z text) same ∙ field_rest mark text _ _ y

-- a field of the digits that were counted
pub field_some : (mark : ℕ) (text : List ℕ) (number digits : ℕ) → number ≡ min (number_of 10 (take digits text)) 4294967296 → digits ≡ prefix_len is_decimal text → 0 < digits → digits ≤ 6 → digits < length text → get_or text digits 0 ≡ mark → IsTimeField mark text number (digits + 1)
field_some mark text number digits value count some few inside at =
    let all : AllPass is_decimal (take digits text) = (let P : ℕ → Type 0 = λ z. AllPass is_decimal (take z text) in subst P (sym count) (AllPass-take is_decimal text)) in
    let size : length (take digits text) ≡ digits = length-take-le digits text (omega arith) in
    let part : IsTimePart (take digits text) = record { all_digits = all; some_digit = omega (arith, size); at_most_six = omega (arith, size) } in
    record {
      digits = take digits text;
      rest = drop (digits + 1) text;
      spelled = sym (take-append-drop digits text) ∙ ap (λ z. take digits text ++ z) (drop_more text digits 0 inside ∙ ap (λ z. z ∷ drop (digits + 1) text) at);
      part = part;
      value = omega (arith, value, part_small (take digits text) part);
      length_of_both = omega (arith, size);
    }

pub field_none : (mark : ℕ) (text : List ℕ) (digits : ℕ) → is_decimal mark ≡ false → digits ≡ prefix_len is_decimal text → (digits ≡ 0) ⊎ ((6 < digits) ⊎ ((digits ≡ length text) ⊎ (get_or text digits 0 ≢ mark))) → (number len : ℕ) → IsTimeField mark text number len → ⊥
field_none mark text digits stops count why number len x =
    let d : digits ≡ length x.digits = count ∙ field_count mark text number len stops x in
    let at : get_or text digits 0 ≡ mark = ap (get_or text digits) refl ∙ ap (λ z. get_or z digits 0) x.spelled ∙ get_or_at x.digits mark x.rest 0 digits (sym d) in
    let all : length text ≡ length x.digits + suc (length x.rest) = ap length x.spelled ∙ length-append x.digits (mark ∷ x.rest) in
    elim why [
      | inl none ↦ omega (arith, x.part.some_digit)
      | inr other ↦ elim other [
        | inl many ↦ omega (arith, x.part.at_most_six)
        | inr ends ↦ elim ends [ inl end ↦ omega arith | inr wrong ↦ wrong at ]
      ]
    ]

-- ---- the parts of a time, one behind the other

module _ (t : List ℕ) (b : ℕ) (blanks : b ≡ prefix_len is_blank t) (v : ℤ) (m : IsTime t v) where
  behind_blanks : drop b t ≡ m.hours ++ (58 ∷ (m.minutes ++ (58 ∷ (m.seconds ++ (46 ∷ (m.hundredths ++ m.after))))))
  behind_blanks =
      let rest = m.hours ++ (58 ∷ (m.minutes ++ (58 ∷ (m.seconds ++ (46 ∷ (m.hundredths ++ m.after)))))) in
      let b_is : b ≡ length m.before =
      blanks ∙ ap (prefix_len is_blank) m.spelled ∙ prefix_len-append is_blank m.before rest m.blanks_before
      ∙ omega (arith, no_blank_digits m.hours (58 ∷ (m.minutes ++ (58 ∷ (m.seconds ++ (46 ∷ (m.hundredths ++ m.after)))))) m.hours_part.all_digits m.hours_part.some_digit) in
      ap (λ z. drop z t) b_is ∙ ap (drop (length m.before)) m.spelled ∙ drop-append_seam m.before rest

  pub no_hours : ((number len : ℕ) → IsTimeField 58 (drop b t) number len → ⊥) → ⊥
  no_hours none = none (number_of 10 m.hours) (length m.hours + 1) (record {
    digits = m.hours;
    rest = m.minutes ++ (58 ∷ (m.seconds ++ (46 ∷ (m.hundredths ++ m.after))));
    spelled = behind_blanks;
    part = m.hours_part;
    value = refl;
    length_of_both = refl;
  })

  module _ (hours h : ℕ) (hour : IsTimeField 58 (drop b t) hours h) where
    behind_hours : drop (b + h) t ≡ m.minutes ++ (58 ∷ (m.seconds ++ (46 ∷ (m.hundredths ++ m.after))))
    behind_hours = sym (drop-drop h b t) ∙ field_next 58 (drop b t) hours h m.hours _ refl hour m.hours_part behind_blanks

    pub no_minutes : ((number len : ℕ) → IsTimeField 58 (drop (b + h) t) number len → ⊥) → ⊥
    no_minutes none = none (number_of 10 m.minutes) (length m.minutes + 1) (record {
      digits = m.minutes;
      rest = m.seconds ++ (46 ∷ (m.hundredths ++ m.after));
      spelled = behind_hours;
      part = m.minutes_part;
      value = refl;
      length_of_both = refl;
    })

    module _ (minutes i : ℕ) (minute : IsTimeField 58 (drop (b + h) t) minutes i) where
      behind_minutes : drop (b + h + i) t ≡ m.seconds ++ (46 ∷ (m.hundredths ++ m.after))
      behind_minutes = sym (drop-drop i (b + h) t) ∙ field_next 58 (drop (b + h) t) minutes i m.minutes _ refl minute m.minutes_part behind_hours

      pub no_seconds : ((number len : ℕ) → IsTimeField 46 (drop (b + h + i) t) number len → ⊥) → ⊥
      no_seconds none = none (number_of 10 m.seconds) (length m.seconds + 1) (record {
        digits = m.seconds;
        rest = m.hundredths ++ m.after;
        spelled = behind_minutes;
        part = m.seconds_part;
        value = refl;
        length_of_both = refl;
      })

      module _ (seconds s d e : ℕ) (second : IsTimeField 46 (drop (b + h + i) t) seconds s)
          (digits : d ≡ prefix_len is_decimal (drop (b + h + i + s) t)) (after : e ≡ prefix_len is_blank (drop (b + h + i + s + d) t)) where
        behind_seconds : drop (b + h + i + s) t ≡ m.hundredths ++ m.after
        behind_seconds = sym (drop-drop s (b + h + i) t) ∙ field_next 46 (drop (b + h + i) t) seconds s m.seconds _ refl second m.seconds_part behind_minutes

        pub no_hundredths : (d ≡ 0) ⊎ ((6 < d) ⊎ (b + h + i + s + d + e < length t)) → ⊥
        no_hundredths why =
            let d_is : d ≡ length m.hundredths =
            digits ∙ ap (prefix_len is_decimal) behind_seconds ∙ prefix_len-append is_decimal m.hundredths m.after m.hundredths_part.all_digits
            ∙ omega (arith, no_digit_blanks m.after m.blanks_after) in
            let rest : drop (b + h + i + s + d) t ≡ m.after =
            sym (drop-drop d (b + h + i + s) t) ∙ ap (drop d) behind_seconds ∙ ap (λ z. drop z (m.hundredths ++ m.after)) d_is ∙ drop-append_seam m.hundredths m.after in
            let e_is : e ≡ length m.after = after ∙ ap (prefix_len is_blank) rest ∙ prefix_len_all is_blank m.after m.blanks_after in
            let left = ap length rest in
            elim why [
              | inl none ↦ omega (arith, m.hundredths_part.some_digit)
              | inr other ↦ elim other [
                | inl many ↦ omega (arith, m.hundredths_part.at_most_six)
                | inr more ↦ omega (arith, left, length-drop (b + h + i + s + d) t)
              ]
            ]

-- the time of the parts that were read
pub time_some : (t : List ℕ) (b h i s d e hours minutes seconds hundredths : ℕ) → b ≡ prefix_len is_blank t → IsTimeField 58 (drop b t) hours h → IsTimeField 58 (drop (b + h) t) minutes i → IsTimeField 46 (drop (b + h + i) t) seconds s → d ≡ prefix_len is_decimal (drop (b + h + i + s) t) → hundredths ≡ min (number_of 10 (take d (drop (b + h + i + s) t))) 4294967296 → e ≡ prefix_len is_blank (drop (b + h + i + s + d) t) → 0 < d → d ≤ 6 → length t ≤ b + h + i + s + d + e → (v : ℤ) → v ≡ pos (((hours * 60 + minutes) * 60 + seconds) * 1000 + hundredths * 10) → IsTime t v
time_some t b h i s d e hours minutes seconds hundredths blanks hour minute second digits value after some few all v v_is =
    let last = drop (b + h + i + s) t in
    let size : length (take d last) ≡ d = length-take-le d last (omega (arith, digits, prefix_len-le-length is_decimal last)) in
    let pass : AllPass is_decimal (take d last) = (let P : ℕ → Type 0 = λ z. AllPass is_decimal (take z last) in subst P (sym digits) (AllPass-take is_decimal last)) in
    let part : IsTimePart (take d last) = record { all_digits = pass; some_digit = omega (arith, size); at_most_six = omega (arith, size) } in
    let c_is : hundredths ≡ number_of 10 (take d last) = omega (arith, value, part_small (take d last) part) in
    let rest_h = sym (field_rest 58 (drop b t) hours h hour) ∙ drop-drop h b t in
    let rest_i = sym (field_rest 58 (drop (b + h) t) minutes i minute) ∙ drop-drop i (b + h) t in
    let rest_s = sym (field_rest 46 (drop (b + h + i) t) seconds s second) ∙ drop-drop s (b + h + i) t in
    let rest_d = sym (take-append-drop d last) ∙ ap (λ z. take d last ++ z) (drop-drop d (b + h + i + s) t) in
    record {
      before = take b t;
      hours = hour.digits;
      minutes = minute.digits;
      seconds = second.digits;
      hundredths = take d last;
      after = drop (b + h + i + s + d) t;
      spelled =
          sym (take-append-drop b t) ∙ ap (λ z. take b t ++ z) (hour.spelled ∙ ap (λ z. hour.digits ++ (58 ∷ z)) (rest_h ∙ minute.spelled
          ∙ ap (λ z. minute.digits ++ (58 ∷ z)) (rest_i ∙ second.spelled ∙ ap (λ z. second.digits ++ (46 ∷ z)) (rest_s ∙ rest_d))));
      blanks_before = let P : ℕ → Type 0 = λ z. AllPass is_blank (take z t) in subst P (sym blanks) (AllPass-take is_blank t);
      hours_part = hour.part;
      minutes_part = minute.part;
      seconds_part = second.part;
      hundredths_part = part;
      blanks_after = AllPass-from_prefix_len is_blank (drop (b + h + i + s + d) t) (omega (arith, after, length-drop (b + h + i + s + d) t));
      value = v_is ∙ ap pos (omega (arith, hour.value, minute.value, second.value, c_is));
    }
