-- Of the names that a text begins with the longest counts.
use Rattle.std.proofs.Common.{◌≡◌, ℕ, ◌≤◌, Bool, true, not, ◌&&◌, inl, inr, List, [], ◌∷◌, ◌++◌, length, take, drop, refl, sym, ap, ◌∙◌, subst, arith, Option, None, Some, nat_eq}
use Rattle.std.specs.List.{starts_with, list_all}
use Rattle.std.specs.Option.{option_map}
use Rattle.std.proofs.lemmas.Bool.{eq-eqb, both_ways, and_parts, cases_Bool, cases_lt, cond-true, cond-false, not-true}
use Rattle.std.proofs.lemmas.List.{append-nil}
use Rattle.std.proofs.Math.Seq.{take-append_seam}
use Rattle.std.proofs.lemmas.Option.{some_pair_parts}
use Rattle.tag_arguments.specs.declared.kinds.TagName.{TagName}
use Rattle.tag_arguments.specs.Names.{NameRow, tag_names, longer_row, longer_found, longest_row, found_by, longest_name}
use Rattle.tag_arguments.specs.Laws.{IsNameRow, BeginsWithName, LongestCounts, NoneIsNone}
use Rattle.tag_arguments.proofs.NameLemmas.{begins, split, longer_yes, longer_no, longest_begins}

-- ---- the table has no spelling twice

abbrev same_spelling : NameRow → NameRow → Bool
same_spelling row later = starts_with nat_eq later.0 row.0 && nat_eq (length later.0) (length row.0)

abbrev all_differ : List NameRow → Bool
all_differ [] = true
all_differ (row ∷ rows) = list_all (λ later. not (same_spelling row later)) rows && all_differ rows

table_differs : all_differ tag_names ≡ true
table_differs = refl

-- what each row passes
pub all_rows : (test : NameRow → Bool) (rows : List NameRow) (spelling : List ℕ) (n : TagName) → list_all test rows ≡ true → IsNameRow rows spelling n → test (spelling, n) ≡ true
all_rows test [] spelling n all row = absurd row
all_rows test (r ∷ rows) spelling n all row = elim row [
  | inl e ↦ let P : NameRow → Type 0 = λ z. test z ≡ true in subst P e (and_parts _ _ all).0
  | inr more ↦ all_rows test rows spelling n (and_parts _ _ all).1 more
]

spelled_so : (r : NameRow) (spelling : List ℕ) (n m : TagName) → r ≡ (spelling, n) → same_spelling r (spelling, m) ≡ true
spelled_so r spelling n m e =
    let same : r.0 ≡ spelling = ap (λ z. z.0) e in
    ap (λ z. starts_with nat_eq spelling z && nat_eq (length spelling) (length z)) same
    ∙ ap (λ z. z && nat_eq (length spelling) (length spelling)) (begins spelling spelling [] (sym (append-nil spelling))) ∙ eqb_same (length spelling)
  where
    eqb_same : (k : ℕ) → nat_eq k k ≡ true
    eqb_same k = eq-eqb k k refl

one_name : (rows : List NameRow) (spelling : List ℕ) (n m : TagName) → all_differ rows ≡ true → IsNameRow rows spelling n → IsNameRow rows spelling m → n ≡ m
one_name [] spelling n m differ first second = absurd first
one_name (r ∷ rows) spelling n m differ first second =
    let here = (and_parts _ _ differ).0 in
    elim first [
      | inl e ↦ elim second [
        | inl f ↦ sym (ap (λ z. z.1) e) ∙ ap (λ z. z.1) f
        | inr later ↦ absurd (both_ways _ (not-true _ (all_rows (λ z. not (same_spelling r z)) rows spelling m here later)) (spelled_so r spelling n m e))
      ]
      | inr later ↦ elim second [
        | inl f ↦ absurd (both_ways _ (not-true _ (all_rows (λ z. not (same_spelling r z)) rows spelling n here later)) (spelled_so r spelling m n f))
        | inr more ↦ one_name rows spelling n m (and_parts _ _ differ).1 later more
      ]
    ]

-- ---- the longest row

none_begins : (rows : List NameRow) (text other : List ℕ) (n : TagName) → longest_row rows text ≡ None → IsNameRow rows other n → starts_with nat_eq text other ≡ true → ⊥
none_begins [] text other n none listed starts = listed
none_begins (r ∷ rows) text other n none listed starts = elim (cases_Bool (starts_with nat_eq text r.0)) [
  | inl does ↦ some_is r (longest_row rows text) (sym (cond-true _ _ _ does) ∙ none)
  | inr lacks ↦ elim listed [
    | inl e ↦ both_ways _ lacks (ap (λ z. starts_with nat_eq text z.0) e ∙ starts)
    | inr later ↦ none_begins rows text other n (sym (cond-false _ _ _ lacks) ∙ none) later starts
  ]
]
  where
    some_is : (a : NameRow) (o : Option NameRow) → longer_found (Some a) o ≡ None → ⊥
    some_is a None e = absurd (cc)
    some_is a (Some o) e = absurd (cc)

-- It is listed, and no other row that begins the text is longer.
record IsLongest (rows : List NameRow) (text : List ℕ) (row : NameRow) : Type 0 where
  listed : IsNameRow rows row.0 row.1
  longest : (other : List ℕ) (n : TagName) → IsNameRow rows other n → starts_with nat_eq text other ≡ true → length other ≤ length row.0

of_two : (r : NameRow) (rows : List NameRow) (text : List ℕ) (o : Option NameRow) (row : NameRow) → longest_row rows text ≡ o → ((z : NameRow) → o ≡ Some z → IsLongest rows text z)
    → longer_found (Some r) o ≡ Some row → IsLongest (r ∷ rows) text row
of_two r rows text None row none others e =
    let same : r ≡ row = cc in
    let P : NameRow → Type 0 = λ z. IsLongest (r ∷ rows) text z in
    subst P same (record {
      listed = inl refl;
      longest = λ other n listed starts. elim listed [
        | inl is ↦ let len = ap (λ z. length z.0) is in omega arith
        | inr later ↦ absurd (none_begins rows text other n none later starts)
      ];
    })
of_two r rows text (Some z) row some others e =
    let same : longer_row r z ≡ row = cc in
    let last = others z refl in
    let P : NameRow → Type 0 = λ z. IsLongest (r ∷ rows) text z in
    elim (cases_lt (length r.0) (length z.0)) [
      | inl below ↦ subst P (sym (longer_yes r z below) ∙ same) (record {
        listed = inr last.listed;
        longest = λ other n listed starts. elim listed [
          | inl is ↦ let len = ap (λ z. length z.0) is in omega arith
          | inr later ↦ last.longest other n later starts
        ];
      })
      | inr above ↦ subst P (sym (longer_no r z above) ∙ same) (record {
        listed = inl refl;
        longest = λ other n listed starts. elim listed [
          | inl is ↦ let len = ap (λ z. length z.0) is in omega arith
          | inr later ↦ let most = last.longest other n later starts in omega arith
        ];
      })
    ]

longest_is : (rows : List NameRow) (text : List ℕ) (row : NameRow) → longest_row rows text ≡ Some row → IsLongest rows text row
longest_is [] text row is = absurd (cc)
longest_is (r ∷ rows) text row is = elim (cases_Bool (starts_with nat_eq text r.0)) [
  | inl does ↦ of_two r rows text (longest_row rows text) row refl (longest_is rows text) (sym (cond-true _ _ _ does) ∙ is)
  | inr lacks ↦
      let last = longest_is rows text row (sym (cond-false _ _ _ lacks) ∙ is) in
      record {
        listed = inr last.listed;
        longest = λ other n listed starts. elim listed [
          | inl e ↦ absurd (both_ways _ lacks (ap (λ z. starts_with nat_eq text z.0) e ∙ starts))
          | inr later ↦ last.longest other n later starts
        ];
      }
]

-- ---- the laws

-- of two prefixes of a text that are equally long
one_front : (text a b : List ℕ) → starts_with nat_eq text a ≡ true → starts_with nat_eq text b ≡ true → length a ≡ length b → a ≡ b
one_front text a b first second len =
    sym (take-append_seam a (drop (length a) text)) ∙ ap (take (length a)) (sym (split text a first)) ∙ ap (λ z. take z text) len
    ∙ ap (take (length b)) (split text b second) ∙ take-append_seam b (drop (length b) text)

-- what was found among the rows
found_row : (text : List ℕ) (o : Option NameRow) (name : TagName) (rest : List ℕ) → option_map (found_by text) o ≡ Some (name, rest)
    → (row : NameRow) × (o ≡ Some row) × (row.1 ≡ name) × (drop (length row.0) text ≡ rest)
found_row text None name rest e = absurd (cc)
found_row text (Some row) name rest e = let parts = some_pair_parts row.1 name (drop (length row.0) text) rest e in (row, refl, parts.0, parts.1)

pub longest_counts : LongestCounts
unfolding longest_name
longest_counts text name rest found =
    let at = found_row text (longest_row tag_names text) name rest found in
    let row = at.0 in
    let is = longest_is tag_names text row at.1 in
    let does = longest_begins tag_names text row at.1 in
    let P : TagName → Type 0 = λ z. IsNameRow tag_names row.0 z in
    let listed : IsNameRow tag_names row.0 name = subst P at.2 is.listed in
    let whole : text ≡ row.0 ++ rest = split text row.0 does ∙ ap (λ z. row.0 ++ z) at.3 in
    let begins_it : BeginsWithName text row.0 name = record { listed = listed; begins = does } in (
      row.0,
      begins_it,
      whole,
      λ other n it. elim (cases_lt (length other) (length row.0)) [
        | inl shorter ↦ inr shorter
        | inr longer ↦
            let most = is.longest other n it.listed it.begins in
            let same : other ≡ row.0 = one_front text other row.0 it.begins does (omega arith) in
            let Q : List ℕ → Type 0 = λ z. IsNameRow tag_names z n in
            inl (same, one_name tag_names row.0 n name table_differs (subst Q same it.listed) listed)
      ],
    )

pub none_is_none : NoneIsNone
unfolding longest_name
none_is_none text none other n it = none_begins tag_names text other n (unfound (longest_row tag_names text) none) it.listed it.begins
  where
    unfound : (o : Option NameRow) → option_map (found_by text) o ≡ None → o ≡ None
    unfound None e = refl
    unfound (Some row) e = absurd (cc)
