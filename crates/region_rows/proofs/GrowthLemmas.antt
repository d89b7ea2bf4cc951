-- A region grows row by row.
use Rattle.std.proofs.Common.{◌≡◌, ℕ, zero, suc, ◌<◌, ◌≤◌, Bool, true, false, ◌⊎◌, ⊎_elim, ℤ, pos, negsuc, ◌+ℤ◌, ◌-ℤ◌, ◌≤ℤ◌, ◌<ℤ◌, refl, sym, ap, ◌∙◌, arith, List, [], ◌∷◌, ◌++◌, length, get_or, take, length-take}
use Rattle.std.proofs.lemmas.Int.{ints, by_lt_z}
use Rattle.std.proofs.lemmas.Bool.{and_parts, and_from, cases_lt, cases_eq}
use Rattle.std.proofs.lemmas.List.{get_or_append_left, get_or_push, get_or_past, length_push, take-append-le, take_all, get_or-take}
use Rattle.ass_num.specs.Regions.{in_runs, ascend, row_at, member, has_run, all_ascend, first_has_run, last_has_run, last_has_run_after, top_fits, is_canonical}
use Rattle.region_rows.specs.Growths.{HasRunRows, IsFormed, IsRowHolding}
use Rattle.ass_num.specs.declared.region.Run.{Run}
use Rattle.ass_num.proofs.RegionLemmas.{row_none}

row_at-before : (rows : List (List Run)) (r : List Run) (z : ℤ) → z <ℤ pos (length rows) → row_at (rows ++ r ∷ []) z ≡ row_at rows z
row_at-before rows r (pos n) h = get_or_append_left rows (r ∷ []) [] n (omega (arith, ints))
row_at-before rows r (negsuc n) h = refl

row_at-new : (rows : List (List Run)) (r : List Run) (z : ℤ) → z ≡ pos (length rows) → row_at (rows ++ r ∷ []) z ≡ r
row_at-new rows r z h = rw h (get_or_push rows r [] (length rows) refl)

all_ascend-push : (rows : List (List Run)) (r : List Run) → all_ascend rows ≡ true → ascend r ≡ true → all_ascend (rows ++ r ∷ []) ≡ true
all_ascend-push [] r h k = and_from (ascend r) true k refl
all_ascend-push (s ∷ rows) r h k = let p = and_parts (ascend s) (all_ascend rows) h in and_from (ascend s) (all_ascend (rows ++ r ∷ [])) p.0 (all_ascend-push rows r p.1 k)

all_ascend-take : (n : ℕ) (rows : List (List Run)) → all_ascend rows ≡ true → all_ascend (take n rows) ≡ true
all_ascend-take zero rows h = refl
all_ascend-take (suc n) [] h = refl
all_ascend-take (suc n) (s ∷ rows) h = let p = and_parts (ascend s) (all_ascend rows) h in and_from (ascend s) (all_ascend (take n rows)) p.0 (all_ascend-take n rows p.1)

first_has_run-push : (rows : List (List Run)) (r : List Run) → first_has_run rows ≡ true → (length rows ≡ 0 → has_run r ≡ true) → first_has_run (rows ++ r ∷ []) ≡ true
first_has_run-push [] r h k = k refl
first_has_run-push (s ∷ rows) r h k = h

first_has_run-take : (n : ℕ) (rows : List (List Run)) → first_has_run rows ≡ true → first_has_run (take n rows) ≡ true
first_has_run-take zero rows h = refl
first_has_run-take (suc n) [] h = refl
first_has_run-take (suc n) (s ∷ rows) h = h

last_has_run_after-push : (s : List Run) (rows : List (List Run)) (r : List Run) → has_run r ≡ true → last_has_run_after s (rows ++ r ∷ []) ≡ true
last_has_run_after-push s [] r h = h
last_has_run_after-push s (t ∷ rows) r h = last_has_run_after-push t rows r h

last_has_run-push : (rows : List (List Run)) (r : List Run) → has_run r ≡ true → last_has_run (rows ++ r ∷ []) ≡ true
last_has_run-push [] r h = h
last_has_run-push (s ∷ rows) r h = last_has_run_after-push s rows r h

-- ---- one more row
member-push : (wanted : ℤ → ℤ → Bool) (j top : ℤ) (rows : List (List Run)) (r : List Run) → pos (length rows) +ℤ top ≡ j → ((i k : ℤ) → k <ℤ j → member top rows i k ≡ wanted i k) → ((i : ℤ) → in_runs r i ≡ wanted i j)
    → (i k : ℤ) → k <ℤ (j +ℤ pos 1) → member top (rows ++ r ∷ []) i k ≡ wanted i k
member-push wanted j top rows r e m c i k h =
    by_lt_z k j
    (λ (l : k <ℤ j). ap (λ x. in_runs x i) (row_at-before rows r (k -ℤ top) (omega (arith, ints))) ∙ m i k l)
    (λ (l : j ≤ℤ k). let s : k ≡ j = omega (arith, ints) in ap (λ x. in_runs x i) (row_at-new rows r (k -ℤ top) (omega (arith, ints))) ∙ c i ∙ ap (λ x. wanted i x) (sym s))

pub skipped : (wanted : ℤ → ℤ → Bool) (j top : ℤ) (rows : List (List Run)) (filled : ℕ) (r : List Run) → HasRunRows wanted j top rows filled → IsRowHolding (λ i. wanted i j) r → length rows ≡ 0 → r ≡ [] → HasRunRows wanted (j +ℤ pos 1) (top +ℤ pos 1) rows filled
skipped wanted j top (s ∷ rows) filled r w c z e = absurd (omega arith)
skipped wanted j top [] filled r w c z e = record {
  ends = let q = w.ends in omega (arith, ints);
  members = λ i k h. ap (λ x. in_runs x i) (row_none (k -ℤ (top +ℤ pos 1))) ∙ by_lt_z k j
      (λ (l : k <ℤ j). sym (ap (λ x. in_runs x i) (row_none (k -ℤ top))) ∙ w.members i k l)
      (λ (l : j ≤ℤ k). let s : j ≡ k = omega (arith, ints) in ap (λ x. in_runs x i) (sym e) ∙ c.covers i ∙ ap (λ x. wanted i x) s);
  formed = record {
    ascends = w.formed.ascends;
    begins = w.formed.begins;
    within = w.formed.within;
    fills = w.formed.fills;
  };
  rest = w.rest;
}

rest-push : (rows : List (List Run)) (filled : ℕ) → ((k : ℕ) → filled ≤ k → get_or rows k [] ≡ []) → (k : ℕ) → filled ≤ k → get_or (rows ++ [] ∷ []) k [] ≡ []
rest-push rows filled h k l =
    ⊎_elim (λ (a : k < length rows). get_or_append_left rows ([] ∷ []) [] k a ∙ h k l)
    (λ (a : length rows ≤ k). ⊎_elim (λ (e : length rows ≡ k). get_or_push rows [] [] k e) (λ ne. get_or_past (rows ++ [] ∷ []) k [] (omega (arith, ne, length_push rows []))) (cases_eq (length rows) k))
    (cases_lt k (length rows))

pub grown_empty : (wanted : ℤ → ℤ → Bool) (j top : ℤ) (rows : List (List Run)) (filled : ℕ) (r : List Run) → HasRunRows wanted j top rows filled → IsRowHolding (λ i. wanted i j) r → (length rows ≡ 0 → ⊥) → r ≡ [] → HasRunRows wanted (j +ℤ pos 1) top (rows ++ r ∷ []) filled
grown_empty wanted j top rows filled r w c z e = record {
  ends = let q = w.ends in let n = length_push rows r in omega (arith, ints);
  members = member-push wanted j top rows r w.ends w.members c.covers;
  formed = record {
    ascends = all_ascend-push rows r w.formed.ascends c.ascends;
    begins = first_has_run-push rows r w.formed.begins (λ a. absurd (z a));
    within = omega (arith, w.formed.within, length_push rows r);
    fills = rw (take-append-le filled rows (r ∷ []) w.formed.within) w.formed.fills;
  };
  rest = rw e (rest-push rows filled w.rest);
}

pub grown_full : (wanted : ℤ → ℤ → Bool) (j top : ℤ) (rows : List (List Run)) (filled n : ℕ) (r : List Run) → HasRunRows wanted j top rows filled → IsRowHolding (λ i. wanted i j) r → has_run r ≡ true → n ≡ length (rows ++ r ∷ []) → HasRunRows wanted (j +ℤ pos 1) top (rows ++ r ∷ []) n
grown_full wanted j top rows filled n r w c f e = record {
  ends = let q = w.ends in let n = length_push rows r in omega (arith, ints);
  members = member-push wanted j top rows r w.ends w.members c.covers;
  formed = record {
    ascends = all_ascend-push rows r w.formed.ascends c.ascends;
    begins = first_has_run-push rows r w.formed.begins (λ a. f);
    within = omega arith;
    fills = rw (take_all n (rows ++ r ∷ []) (omega arith)) (last_has_run-push rows r f);
  };
  rest = λ k l. get_or_past (rows ++ r ∷ []) k [] (omega arith);
}

pub full_from_length : (r : List Run) → (length r ≡ 0 → ⊥) → has_run r ≡ true
full_from_length [] h = absurd (h refl)
full_from_length (x ∷ r) h = refl

-- ---- the first and the last row
pub HasRunRows-none : (wanted : ℤ → ℤ → Bool) (first : ℤ) → ((i k : ℤ) → k <ℤ first → wanted i k ≡ false) → HasRunRows wanted first first [] 0
HasRunRows-none wanted first h = record {
  ends = omega (arith, ints);
  members = λ i k l. ap (λ x. in_runs x i) (row_none (k -ℤ first)) ∙ sym (h i k l);
  formed = record {
    ascends = refl;
    begins = refl;
    within = omega arith;
    fills = refl;
  };
  rest = λ k l. refl;
}

row_at-take : (n : ℕ) (rows : List (List Run)) → ((k : ℕ) → n ≤ k → get_or rows k [] ≡ []) → (z : ℤ) → row_at (take n rows) z ≡ row_at rows z
row_at-take n rows h (negsuc k) = refl
row_at-take n rows h (pos k) =
    ⊎_elim (λ (a : k < n). get_or-take n rows k [] a)
    (λ (a : n ≤ k). get_or_past (take n rows) k [] (omega (arith, length-take n rows)) ∙ sym (h k a))
    (cases_lt k n)

pub row_at-past : (rows : List (List Run)) (z : ℤ) → pos (length rows) ≤ℤ z → row_at rows z ≡ []
row_at-past rows (pos k) h = get_or_past rows k [] (omega (arith, ints))
row_at-past rows (negsuc k) h = absurd (omega (arith, ints))

all_members : (wanted : ℤ → ℤ → Bool) (last top : ℤ) (rows : List (List Run)) (filled : ℕ) → HasRunRows wanted last top rows filled → ((i k : ℤ) → last ≤ℤ k → wanted i k ≡ false)
    → (i k : ℤ) → member top (take filled rows) i k ≡ wanted i k
all_members wanted last top rows filled w h i k =
    ap (λ x. in_runs x i) (row_at-take filled rows w.rest (k -ℤ top)) ∙ by_lt_z k last
    (λ (l : k <ℤ last). w.members i k l)
    (λ (l : last ≤ℤ k). let q = w.ends in ap (λ x. in_runs x i) (row_at-past rows (k -ℤ top) (omega (arith, ints))) ∙ sym (h i k l))

pub members_some : (wanted : ℤ → ℤ → Bool) (last top : ℤ) (rows : List (List Run)) (filled : ℕ) → HasRunRows wanted last top rows filled → ((i k : ℤ) → last ≤ℤ k → wanted i k ≡ false)
    → (top' : ℤ) → (top' ≡ top) ⊎ (filled ≡ 0) → (i k : ℤ) → member top' (take filled rows) i k ≡ wanted i k
members_some wanted last top rows filled w h top' c i k =
    ⊎_elim (λ e. rw e (all_members wanted last top rows filled w h i k))
    (λ e. let m = all_members wanted last top rows filled w h i k in
    rw e (ap (λ x. in_runs x i) (row_none (k -ℤ top')) ∙ sym (ap (λ x. in_runs x i) (row_none (k -ℤ top))) ∙ rw e at m)) c

top_fits-take : (n : ℕ) (rows : List (List Run)) (top : ℤ) → (n ≡ 0 → top ≡ pos 0) → n ≤ length rows → top_fits top (take n rows) ≡ true
top_fits-take zero rows top h l = rw (h refl) refl
top_fits-take (suc n) [] top h l = absurd (omega arith)
top_fits-take (suc n) (r ∷ rows) top h l = refl

pub canonical : (rows : List (List Run)) (filled : ℕ) → IsFormed rows filled → (top : ℤ) → (filled ≡ 0 → top ≡ pos 0) → is_canonical top (take filled rows) ≡ true
canonical rows filled w top h =
    rw (all_ascend-take filled rows w.ascends, first_has_run-take filled rows w.begins, w.fills, top_fits-take filled rows top h w.within) refl

pub empty_members : (top i k : ℤ) → member top [] i k ≡ false
empty_members top i k = ap (λ x. in_runs x i) (row_none (k -ℤ top))
