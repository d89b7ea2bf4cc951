-- Parts of a text in UTF-8, cut at ASCII bytes, are UTF-8.
use Rattle.std.proofs.Common.{◌≡◌, inl, inr, ℕ, zero, suc, ◌+◌, ◌-◌, ◌<◌, ◌≤◌, Bool, true, false, cond, eqb, List, [], ◌∷◌, ◌++◌, length, get_or, take, drop, refl, sym, subst, arith, length-append}
use Rattle.std.specs.Bool.{nat_eq}
use Rattle.std.specs.List.{All, after_first, before_first, join_with_byte, list_any, position_or_len, slice_split, starts_with}
use Rattle.std.specs.Str.{IsUtf8, is_utf8}
use Rattle.std.specs.Str.Lines.{lines, lines_of_parts, strip_carriage_return}
use Rattle.std.specs.Str.Lossy.{utf8_valid_len, valid_len_up_to}
use Rattle.std.proofs.Math.Seq.{drop-append-add, take-append_seam}
use Rattle.std.proofs.lemmas.Bool.{cases_lt}
use Rattle.std.proofs.lemmas.Bool.Decides.{nat_tests}
use Rattle.std.proofs.lemmas.List.{drop_all, get_or_at, take_all}
use Rattle.std.proofs.lemmas.List.Elements.{All-cons, All-head, All-nil, All-tail}
use Rattle.std.proofs.lemmas.List.Splits.{join_with_byte-slice_split}
use Rattle.std.proofs.lemmas.List.Sums.{passes_at_first}
use Rattle.std.proofs.lemmas.Str.{IsCharBoundary-after_ascii, IsCharBoundary-before_ascii, IsUtf8-drop, IsUtf8-from_is_utf8, IsUtf8-nil, IsUtf8-take}
use Rattle.ass_script.specs.Lines.{Line, is_comment, is_heading, key_named, keyed_line, line_in, section_named}
use Rattle.ass_script.specs.Words.{is_colon, past_mark}
use Rattle.ass_script.specs.declared.lines.Key.{Key}
use Rattle.ass_script.specs.declared.lines.Key.TheVariants as key
use Rattle.ass_script.specs.declared.lines.Section.{Section}
use Rattle.ass_script.proofs.Cuts.{boundary_behind_mark}
use Rattle.ass_num.specs.Blanks.{trimmed}

-- ---- a text whose longest front in UTF-8 is all of it

front_within : (bytes : List ℕ) (n : ℕ) → valid_len_up_to bytes n ≤ n
front_within bytes zero = omega arith
front_within bytes (suc n) = cases (is_utf8 (take (suc n) bytes)) (front_within bytes n)
  where
    cases : (b : Bool) → valid_len_up_to bytes n ≤ n → cond b (suc n) (valid_len_up_to bytes n) ≤ suc n
    cases true within = omega arith
    cases false within = omega (arith, within)

front_utf8 : (bytes : List ℕ) (n : ℕ) → valid_len_up_to bytes n ≡ n → IsUtf8 (take n bytes)
front_utf8 bytes zero e = IsUtf8-nil
front_utf8 bytes (suc n) e = cases (is_utf8 (take (suc n) bytes)) refl e
  where
    cases : (b : Bool) → is_utf8 (take (suc n) bytes) ≡ b → cond b (suc n) (valid_len_up_to bytes n) ≡ suc n → IsUtf8 (take (suc n) bytes)
    cases true is e = IsUtf8-from_is_utf8 (take (suc n) bytes) is
    cases false is e = absurd (omega (arith, e, front_within bytes n))

pub whole_utf8 : (bytes : List ℕ) → utf8_valid_len bytes ≡ length bytes → IsUtf8 bytes
unfolding utf8_valid_len
whole_utf8 bytes e = subst IsUtf8 (take_all (length bytes) bytes (omega arith)) (front_utf8 bytes (length bytes) e)

-- ---- the parts between bytes

-- a text is UTF-8 on both sides of an ASCII byte
sides : (c : ℕ) (a b : List ℕ) → c < 128 → IsUtf8 (a ++ (c ∷ b)) → IsUtf8 a × IsUtf8 b
sides c a b ascii utf8 =
    let text = a ++ (c ∷ b) in
    let inside : length a < length text = omega (arith, length-append a (c ∷ b)) in
    let at : get_or text (length a) 0 ≡ c = get_or_at a c b 0 (length a) refl in
    let low : get_or text (length a) 0 < 128 = omega (arith, at) in (
      subst IsUtf8 (take-append_seam a (c ∷ b)) (IsUtf8-take text (length a) utf8 (IsCharBoundary-before_ascii text (length a) inside low)),
      subst IsUtf8 (drop-append-add a (c ∷ b) 1) (IsUtf8-drop text (length a + 1) utf8 (IsCharBoundary-after_ascii text (length a) utf8 inside low)),
    )

joined_parts : (c : ℕ) (parts : List (List ℕ)) → c < 128 → IsUtf8 (join_with_byte c parts) → All IsUtf8 parts
joined_parts c [] ascii utf8 = All-nil IsUtf8
joined_parts c (part ∷ []) ascii utf8 = All-cons IsUtf8 part [] utf8 (All-nil IsUtf8)
joined_parts c (part ∷ (next ∷ parts)) ascii utf8 =
    let both = sides c part (join_with_byte c (next ∷ parts)) ascii utf8 in
    All-cons IsUtf8 part (next ∷ parts) both.0 (joined_parts c (next ∷ parts) ascii both.1)

pub cut_utf8 : (c : ℕ) (text : List ℕ) → c < 128 → IsUtf8 text → All IsUtf8 (slice_split (λ b. eqb b c) text)
cut_utf8 c text ascii utf8 = joined_parts c (slice_split (λ b. eqb b c) text) ascii (subst IsUtf8 (sym (join_with_byte-slice_split c text)) utf8)

-- ---- lines

stripped_utf8 : (line : List ℕ) → IsUtf8 line → IsUtf8 (strip_carriage_return line)
stripped_utf8 [] utf8 = utf8
stripped_utf8 (c ∷ cs) utf8 = cases (eqb (get_or line (length line - 1) 0) 13) refl
  where
    line : List ℕ
    line = c ∷ cs

    cases : (b : Bool) → eqb (get_or line (length line - 1) 0) 13 ≡ b → IsUtf8 (cond b (take (length line - 1) line) line)
    cases true e =
        let low : get_or line (length line - 1) 0 < 128 = grind (arith, nat_tests) in
        IsUtf8-take line (length line - 1) utf8 (IsCharBoundary-before_ascii line (length line - 1) (omega arith) low)
    cases false e = utf8

parts_are_lines : (parts : List (List ℕ)) → All IsUtf8 parts → All IsUtf8 (lines_of_parts parts)
parts_are_lines [] each = All-nil IsUtf8
parts_are_lines (x ∷ []) each = elim (eqb (length x) 0) as (λ b. All IsUtf8 (cond b [] (x ∷ []))) [ true ↦ All-nil IsUtf8 | false ↦ each ]
parts_are_lines (x ∷ (y ∷ more)) each =
    All-cons IsUtf8 (strip_carriage_return x) (lines_of_parts (y ∷ more)) (stripped_utf8 x (All-head IsUtf8 x (y ∷ more) each)) (parts_are_lines (y ∷ more) (All-tail IsUtf8 x (y ∷ more) each))

past_mark_utf8 : (text : List ℕ) → IsUtf8 text → IsUtf8 (past_mark text)
unfolding past_mark
past_mark_utf8 text utf8 = cases (starts_with nat_eq text (239 ∷ 187 ∷ 191 ∷ [])) refl
  where
    cases : (b : Bool) → starts_with nat_eq text (239 ∷ 187 ∷ 191 ∷ []) ≡ b → IsUtf8 (cond b (drop 3 text) text)
    cases true e = IsUtf8-drop text 3 utf8 (boundary_behind_mark text utf8 e)
    cases false e = utf8

pub lines_utf8 : (text : List ℕ) → IsUtf8 text → All IsUtf8 (lines (past_mark text))
lines_utf8 text utf8 = parts_are_lines (slice_split (λ b. eqb b 10) (past_mark text)) (cut_utf8 10 (past_mark text) (omega arith) (past_mark_utf8 text utf8))

-- ---- what stands behind a colon

behind_colon : (text : List ℕ) → IsUtf8 text → IsUtf8 (after_first is_colon text)
behind_colon text utf8 =
    let place = position_or_len is_colon text in
    elim (cases_lt place (length text)) [
      | inl inside ↦
          let colon = passes_at_first is_colon text 0 inside in
          let low : get_or text place 0 < 128 = grind (arith, nat_tests) in
          IsUtf8-drop text (place + 1) utf8 (IsCharBoundary-after_ascii text place utf8 inside low)
      | inr past ↦ subst IsUtf8 (sym (drop_all (place + 1) text (omega (arith, past)))) IsUtf8-nil
    ]

pub value_utf8 : (s : Section) (text : List ℕ) → IsUtf8 text → IsUtf8 (line_in s text).value
unfolding keyed_line
value_utf8 s text utf8 = cases (is_heading text) (is_comment text) (list_any is_colon text) (key.Heading (section_named (trimmed text))) (key_named s (trimmed (before_first is_colon text)))
  where
    cases : (a b c : Bool) (h k : Key) → IsUtf8 (cond {A = Line} a (record { key = h; value = [] }) (cond {A = Line} b (record { key = key.Other; value = [] }) (cond {A = Line} c (record { key = k; value = after_first is_colon text }) (record { key = key.Other; value = [] })))).value
    cases true b c h k = IsUtf8-nil
    cases false true c h k = IsUtf8-nil
    cases false false true h k = behind_colon text utf8
    cases false false false h k = IsUtf8-nil
