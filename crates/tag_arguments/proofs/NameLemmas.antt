-- Names at the front of a text, and the longest of them.
use Rattle.std.proofs.Common.{◌≡◌, ◌≢◌, ℕ, ◌+◌, ◌<◌, ◌≤◌, true, false, cond, List, [], ◌∷◌, ◌++◌, length, drop, slice_index_or, ap, refl, sym, ◌∙◌, map, get_or, add-one, drop-cons, Bor, Option, Some, None, inl, inr, not, nat_eq, arith}
use Rattle.std.specs.List.{starts_with, filter, list_all}
use Rattle.std.specs.Option.{option_map}
use Rattle.std.proofs.lemmas.Bool.{and_parts, both_ways, cases_Bool, cases_lt, cond-true, cond-false, false_from_ne_true, lt-ltb, le-ltb}
use Rattle.std.proofs.lemmas.Bool.Decides.{Decides-eqb}
use Rattle.std.proofs.lemmas.Slice.Eq.{starts_is}
use Rattle.tag_arguments.specs.declared.kinds.TagName.{TagName}
use Rattle.tag_arguments.specs.Names.{NameRow, tag_names, rows_of, longer_row, longer_found, longest_row, found_by, longest_name}

pub begins : (text name rest : List ℕ) → text ≡ name ++ rest → starts_with nat_eq text name ≡ true
begins text name rest e = (starts_is Decides-eqb text name (starts_with nat_eq text name) refl).1 rest e

pub begins_not : (text name : List ℕ) → ((rest : List ℕ) → text ≢ name ++ rest) → starts_with nat_eq text name ≡ false
begins_not text name h = false_from_ne_true _ (λ e. h (drop (length name) text) ((starts_is Decides-eqb text name (starts_with nat_eq text name) refl).0 e))

pub split : (text front : List ℕ) → starts_with nat_eq text front ≡ true → text ≡ front ++ drop (length front) text
split text front e = (starts_is Decides-eqb text front (starts_with nat_eq text front) refl).0 e

-- of two rows
pub longer_yes : (a b : NameRow) → length a.0 < length b.0 → longer_row a b ≡ b
longer_yes a b h = cond-true _ _ _ (lt-ltb _ _ h)

pub longer_no : (a b : NameRow) → length b.0 ≤ length a.0 → longer_row a b ≡ a
longer_no a b h = cond-false _ _ _ (le-ltb _ _ h)

-- of three rows
longer_rows : (a b c : NameRow) → longer_row a (longer_row b c) ≡ longer_row (longer_row a b) c
longer_rows a b c = elim (cases_lt (length a.0) (length b.0)) [
  | inl ab ↦ elim (cases_lt (length b.0) (length c.0)) [
    | inl bc ↦ ap (longer_row a) (longer_yes b c bc) ∙ longer_yes a c (omega arith) ∙ sym (longer_yes b c bc) ∙ ap (λ z. longer_row z c) (sym (longer_yes a b ab))
    | inr cb ↦ ap (longer_row a) (longer_no b c cb) ∙ longer_yes a b ab ∙ sym (longer_no b c cb) ∙ ap (λ z. longer_row z c) (sym (longer_yes a b ab))
  ]
  | inr ba ↦ elim (cases_lt (length b.0) (length c.0)) [
    | inl bc ↦ ap (longer_row a) (longer_yes b c bc) ∙ ap (λ z. longer_row z c) (sym (longer_no a b ba))
    | inr cb ↦ ap (longer_row a) (longer_no b c cb) ∙ longer_no a b ba ∙ sym (longer_no a c (omega arith)) ∙ ap (λ z. longer_row z c) (sym (longer_no a b ba))
  ]
]

longer_joined : (longest : Option NameRow) (row : NameRow) (others : Option NameRow) → longer_found longest (longer_found (Some row) others) ≡ longer_found (longer_found longest (Some row)) others
longer_joined None row others = refl
longer_joined (Some a) row None = refl
longer_joined (Some a) row (Some c) = ap Some (longer_rows a row c)

-- a row of the code's table, as definitions have it
abbrev pub row_of : Bor (List ℕ) × TagName → NameRow
row_of row = (row.0.now, row.1)

module _ (rows : List (Bor (List ℕ) × TagName)) (i : ℕ) (d : Bor (List ℕ) × TagName) (text : List ℕ) (longest new : Option (Bor (List ℕ) × TagName)) (whole : Option NameRow) (within : i < length rows) where
  -- the rows from a place on
  longest_from : longest_row (map row_of (drop i rows)) text
      ≡ cond (starts_with nat_eq text (get_or rows i d).0.now) (longer_found (Some (row_of (get_or rows i d))) (longest_row (map row_of (drop (i + 1) rows)) text)) (longest_row (map row_of (drop (i + 1) rows)) text)
  longest_from = rw (add-one, drop-cons rows i d)

  -- the row there begins the text
  pub row_taken : (longer : Bor (List ℕ) × TagName) → starts_with nat_eq text (get_or rows i d).0.now ≡ true → new ≡ Some longer
      → Some (row_of longer) ≡ longer_found (option_map row_of longest) (Some (row_of (get_or rows i d)))
      → longer_found (option_map row_of longest) (longest_row (map row_of (drop i rows)) text) ≡ whole
      → longer_found (option_map row_of new) (longest_row (map row_of (drop (i + 1) rows)) text) ≡ whole
  row_taken longer does is e before =
      let others = longest_row (map row_of (drop (i + 1) rows)) text in
      ap (λ z. longer_found (option_map row_of z) others) is ∙ ap (λ z. longer_found z others) e ∙ sym (longer_joined (option_map row_of longest) (row_of (get_or rows i d)) others)
      ∙ ap (longer_found (option_map row_of longest)) (sym (longest_from ∙ cond-true _ _ _ does)) ∙ before

  -- or it doesn't
  pub row_passed : starts_with nat_eq text (get_or rows i d).0.now ≡ false → new ≡ longest
      → longer_found (option_map row_of longest) (longest_row (map row_of (drop i rows)) text) ≡ whole
      → longer_found (option_map row_of new) (longest_row (map row_of (drop (i + 1) rows)) text) ≡ whole
  row_passed lacks is before =
      let others = longest_row (map row_of (drop (i + 1) rows)) text in
      ap (λ z. longer_found (option_map row_of z) others) is ∙ ap (longer_found (option_map row_of longest)) (sym (longest_from ∙ cond-false _ _ _ lacks)) ∙ before

-- The longest row begins the text.
pub longest_begins : (rows : List NameRow) (text : List ℕ) (row : NameRow) → longest_row rows text ≡ Some row → starts_with nat_eq text row.0 ≡ true
longest_begins [] text row is = absurd (cc)
longest_begins (r ∷ rows) text row is = elim (cases_Bool (starts_with nat_eq text r.0)) [
  | inl does ↦ of_two r row (longest_row rows text) does (longest_begins rows text) (sym (cond-true _ _ _ does) ∙ is)
  | inr lacks ↦ longest_begins rows text row (sym (cond-false _ _ _ lacks) ∙ is)
]
  where
    of_two : (a b : NameRow) (o : Option NameRow) → starts_with nat_eq text a.0 ≡ true → ((z : NameRow) → o ≡ Some z → starts_with nat_eq text z.0 ≡ true) → longer_found (Some a) o ≡ Some b → starts_with nat_eq text b.0 ≡ true
    of_two a b None first others e = let same : a ≡ b = cc in ap (λ z. starts_with nat_eq text z.0) (sym same) ∙ first
    of_two a b (Some o) first others e = let same : longer_row a o ≡ b = cc in ap (λ z. starts_with nat_eq text z.0) (sym same) ∙ (elim (cases_lt (length a.0) (length o.0)) [
      | inl below ↦ ap (λ z. starts_with nat_eq text z.0) (longer_yes a o below) ∙ others o refl
      | inr above ↦ ap (λ z. starts_with nat_eq text z.0) (longer_no a o above) ∙ first
    ])

-- ---- rows whose spelling begins with another byte don't count

other_byte : (spelling : List ℕ) (byte : ℕ) (rest : List ℕ) → not (nat_eq (length spelling) 0) ≡ true → starts_with nat_eq spelling (byte ∷ []) ≡ false → starts_with nat_eq (byte ∷ rest) spelling ≡ false
other_byte [] byte rest spelled lacks = absurd (cc)
other_byte (b ∷ bs) byte rest spelled lacks =
    begins_not (byte ∷ rest) (b ∷ bs) (λ more e. let same : b ≡ byte = cc in both_ways _ lacks (begins (b ∷ bs) (byte ∷ []) bs (ap (λ z. z ∷ bs) same)))

same_byte : (rows : List NameRow) (byte : ℕ) (rest : List ℕ) → list_all (λ row. not (nat_eq (length row.0) 0)) rows ≡ true
    → longest_row (filter (λ row. starts_with nat_eq row.0 (byte ∷ [])) rows) (byte ∷ rest) ≡ longest_row rows (byte ∷ rest)
same_byte [] byte rest spelled = refl
same_byte (row ∷ rows) byte rest spelled =
    let text = byte ∷ rest in
    let parts = and_parts _ _ spelled in
    let others = same_byte rows byte rest parts.1 in
    elim (cases_Bool (starts_with nat_eq row.0 (byte ∷ []))) [
      | inl does ↦ ap (λ z. longest_row z text) (cond-true _ _ _ does) ∙ ap (λ z. cond (starts_with nat_eq text row.0) (longer_found (Some row) z) z) others
      | inr lacks ↦ ap (λ z. longest_row z text) (cond-false _ _ _ lacks) ∙ others ∙ sym (cond-false _ _ _ (other_byte row.0 byte rest parts.0 lacks))
    ]

pub rows_enough : (text bytes : List ℕ) (rows : List NameRow) (found : Option NameRow) → bytes ≡ text → 1 ≤ length bytes → rows ≡ rows_of (slice_index_or bytes 0 0)
    → found ≡ longest_row rows text → found ≡ longest_row tag_names text
rows_enough [] bytes rows found same some are is = let len : length bytes ≡ 0 = ap length same in absurd (omega arith)
rows_enough (byte ∷ rest) bytes rows found same some are is =
    is ∙ ap (λ z. longest_row z (byte ∷ rest)) (are ∙ ap (λ z. rows_of (slice_index_or z 0 0)) same) ∙ same_byte tag_names byte rest refl

-- ---- the name that is found

pub name_none : (text : List ℕ) (found : Option (Bor (List ℕ) × TagName)) → option_map row_of found ≡ longest_row tag_names text → found ≡ None → longest_name text ≡ None
unfolding longest_name
name_none text found e is = ap (option_map (found_by text)) (sym e ∙ ap (option_map row_of) is)

pub name_some : (text : List ℕ) (found : Option (Bor (List ℕ) × TagName)) (row : Bor (List ℕ) × TagName) (k : ℕ) (rest : List ℕ) → option_map row_of found ≡ longest_row tag_names text → found ≡ Some row
    → k ≡ length row.0.now → rest ≡ drop k text → Some (row.1, rest) ≡ longest_name text
unfolding longest_name
name_some text found row k rest e is len behind =
    ap (λ z. Some (row.1, z)) (behind ∙ ap (λ z. drop z text) len) ∙ ap (option_map (found_by text)) (sym (ap (option_map row_of) is) ∙ e)

-- The longest row begins the text, so it can be taken off.
pub name_begins : {R : Type 0} (text : List ℕ) (found : Option (Bor (List ℕ) × TagName)) (row : Bor (List ℕ) × TagName) → option_map row_of found ≡ longest_row tag_names text → found ≡ Some row
    → ((rest : List ℕ) → text ≢ row.0.now ++ rest) → R
name_begins text found row e is lacks = absurd (lacks _ (split text row.0.now (longest_begins tag_names text (row_of row) (sym e ∙ ap (option_map row_of) is))))
