-- Labelled lists and interleavings.
use Rattle.std.proofs.Common.{◌≡◌, ◌≢◌, ℕ, zero, suc, ◌+◌, ◌-◌, ◌<◌, ◌≤◌, Bool, true, false, eqb, cond, List, [], ◌∷◌, ◌++◌, length, map, refl, sym, ap, subst, ◌∙◌, arith, eq-eqb, ne_eqb, ◌⊎◌, inl, inr, lt_of_not-le}
use Rattle.std.specs.List.{All, Contains}
use Rattle.std.proofs.lemmas.List.{map-append}
use Rattle.std.proofs.lemmas.List.Elements.{All-nil, All-cons, All-head, All-tail, All-append, All-weaker, All-contains, All-contains_itself, Contains-append_right}
use mathlib.Core.Logic.{dite}
use native.Mathlib.Decide.{ℕ_discrete, dec_le}
use Rattle.turn_cell.specs.History.{History, IsBelow, entries_of}
use Rattle.turn_cell.proofs.Histories.{entries_of-append, entries_of_below}
use Rattle.play_model.specs.Interleavings.{IsInterleaving, all_entries, sum_below}

pub sum_below_most : (n : ℕ) (f g : ℕ → ℕ) → ((i : ℕ) → i < n → f i ≤ g i) → sum_below n f ≤ sum_below n g
sum_below_most zero f g h = omega arith
sum_below_most (suc n) f g h = let rest = sum_below_most n f g (λ i lt. h i (omega arith)) in let last : f n ≤ g n = h n (omega arith) in omega arith

pub sum_below_less : (n k : ℕ) (f g : ℕ → ℕ) → ((i : ℕ) → i < n → f i ≤ g i) → k < n → f k < g k → sum_below n f < sum_below n g
sum_below_less zero k f g h lt less = absurd (omega arith)
sum_below_less (suc n) k f g h lt less =
    let last : f n ≤ g n = h n (omega arith) in
    dite (ℕ_discrete k n)
    (λ same. let here : f n < g n = subst (λ (z : ℕ). f z < g z) same less in let rest = sum_below_most n f g (λ i lt. h i (omega arith)) in omega arith)
    (λ ne. let rest = sum_below_less n k f g (λ i lt. h i (omega arith)) (omega arith) less in omega arith)

pub sum_below_same : (n : ℕ) (f g : ℕ → ℕ) → ((i : ℕ) → i < n → f i ≡ g i) → sum_below n f ≡ sum_below n g
sum_below_same zero f g h = refl
sum_below_same (suc n) f g h = let rest = sum_below_same n f g (λ i lt. h i (omega arith)) in let last : f n ≡ g n = h n (omega arith) in omega arith

-- one of the numbers is one more
sum_below_bump : (n k : ℕ) (f g : ℕ → ℕ) → k < n → f k ≡ 1 + g k → ((i : ℕ) → i ≢ k → f i ≡ g i) → sum_below n f ≡ 1 + sum_below n g
sum_below_bump zero k f g lt one same = absurd (omega arith)
sum_below_bump (suc n) k f g lt one same = dite (ℕ_discrete k n)
    (λ is. let rest = sum_below_same n f g (λ i below. same i (λ e. omega arith)) in let last : f n ≡ 1 + g n = subst (λ (z : ℕ). f z ≡ 1 + g z) is one in omega arith)
    (λ ne. let rest = sum_below_bump n k f g (omega arith) one same in let last : f n ≡ g n = same n (λ e. ne (sym e)) in omega arith)

-- one of the numbers is so much more
pub sum_below_add : (n k d : ℕ) (f g : ℕ → ℕ) → k < n → ((i : ℕ) → g i ≡ f i + cond (eqb k i) d 0) → sum_below n g ≡ sum_below n f + d
sum_below_add zero k d f g lt is = absurd (omega arith)
sum_below_add (suc n) k d f g lt is = dite (ℕ_discrete k n)
    (λ here. let rest = sum_below_same n g f (λ i below. let none : g i ≡ f i + 0 = is i ∙ ap (λ (b : Bool). f i + cond b d 0) (ne_eqb k i (λ e. omega arith)) in omega arith) in
    let last : g n ≡ f n + d = is n ∙ ap (λ (b : Bool). f n + cond b d 0) (eq-eqb k n here) in omega arith)
    (λ ne. let rest = sum_below_add n k d f g (omega arith) is in
    let last : g n ≡ f n + 0 = is n ∙ ap (λ (b : Bool). f n + cond b d 0) (ne_eqb k n ne) in omega arith)

pub sum_below_zero : (n : ℕ) → sum_below n (λ i. 0) ≡ 0
sum_below_zero zero = refl
sum_below_zero (suc n) = let h = sum_below_zero n in omega arith

-- numbers behind which there are none
pub sum_below_rest : (n m : ℕ) (f : ℕ → ℕ) → n ≤ m → ((i : ℕ) → n ≤ i → i < m → f i ≡ 0) → sum_below m f ≡ sum_below n f
sum_below_rest n zero f le none = ap (λ k. sum_below k f) (let same : zero ≡ n = omega arith in same)
sum_below_rest n (suc m) f le none = dite (ℕ_discrete n (suc m))
    (λ is. ap (λ k. sum_below k f) (sym is))
    (λ ne. let rest = sum_below_rest n m f (omega arith) (λ i from lt. none i from (omega arith)) in let last = none m (omega arith) (omega arith) in omega arith)

module _ {X : Type 0} where
  nil_or_not : (xs : List X) → (xs ≡ []) ⊎ (xs ≢ [])
  nil_or_not [] = inl refl
  nil_or_not (x ∷ xs) = inr (λ e. cc)

  cons_not_nil : (x : X) (xs : List X) → x ∷ xs ≢ []
  cons_not_nil x xs e = cc

  entries_of_here : (pair : ℕ × X) (h : History X) → entries_of pair.0 (pair ∷ h) ≡ pair.1 ∷ entries_of pair.0 h
  entries_of_here pair h = ap (λ (b : Bool). cond b (pair.1 ∷ entries_of pair.0 h) (entries_of pair.0 h)) (eq-eqb pair.0 pair.0 refl)

  entries_of_else : (m : ℕ) (pair : ℕ × X) (h : History X) → pair.0 ≢ m → entries_of m (pair ∷ h) ≡ entries_of m h
  entries_of_else m pair h ne = ap (λ (b : Bool). cond b (pair.1 ∷ entries_of m h) (entries_of m h)) (ne_eqb pair.0 m ne)

  -- what holds of each label that has an entry holds of all labels
  pub All_labels : (Q : ℕ → Type 0) (h : History X) → ((m : ℕ) → entries_of m h ≢ [] → Q m) → All (λ pair. Q pair.0) h
  All_labels Q [] has = All-nil (λ (pair : ℕ × X). Q pair.0)
  All_labels Q (pair ∷ h) has = All-cons (λ (pair : ℕ × X). Q pair.0) pair h
      (has pair.0 (λ e. cons_not_nil pair.1 (entries_of pair.0 h) (sym (entries_of_here pair h) ∙ e)))
      (All_labels Q h (λ m some. has m (dite (ℕ_discrete pair.0 m)
      (λ is e. cons_not_nil pair.1 (entries_of m h) (sym (ap (λ (b : Bool). cond b (pair.1 ∷ entries_of m h) (entries_of m h)) (eq-eqb pair.0 m is)) ∙ e))
      (λ ne e. some (sym (entries_of_else m pair h ne) ∙ e)))))

  -- what holds of each label's entries holds of all
  pub All_entries : (P : X → Type 0) (h : History X) → ((m : ℕ) → All P (entries_of m h)) → All P (all_entries h)
  All_entries P [] each = All-nil P
  All_entries P (pair ∷ h) each = All-cons P pair.1 (all_entries h)
      (All-head P pair.1 (entries_of pair.0 h) (subst (All P) (entries_of_here pair h) (each pair.0)))
      (All_entries P h (λ m. dite (ℕ_discrete pair.0 m)
      (λ is. All-tail P pair.1 (entries_of m h) (subst (All P) (ap (λ (b : Bool). cond b (pair.1 ∷ entries_of m h) (entries_of m h)) (eq-eqb pair.0 m is)) (each m)))
      (λ ne. subst (All P) (entries_of_else m pair h ne) (each m))))

  -- each entry of a label is among all
  pub entries_of_among : (m : ℕ) (h : History X) → All (Contains (all_entries h)) (entries_of m h)
  entries_of_among m [] = All-nil (Contains [])
  entries_of_among m (pair ∷ h) =
      let rest : All (Contains (pair.1 ∷ all_entries h)) (entries_of m h) = All-weaker (Contains (all_entries h)) (Contains (pair.1 ∷ all_entries h)) (λ x there. Contains-append_right (pair.1 ∷ []) (all_entries h) x there) (entries_of m h) (entries_of_among m h) in
      elim (eqb pair.0 m) as (λ b. All (Contains (pair.1 ∷ all_entries h)) (cond b (pair.1 ∷ entries_of m h) (entries_of m h))) [
        | true ↦ All-cons (Contains (pair.1 ∷ all_entries h)) pair.1 (entries_of m h) (0, omega arith, refl) rest
        | false ↦ rest
      ]

  -- with labels moved down
  abbrev pub moved : ℕ → History X → History X
  moved k h = map (λ (pair : ℕ × X). (pair.0 - k, pair.1)) h

  pub all_entries-moved : (k : ℕ) (h : History X) → all_entries (moved k h) ≡ all_entries h
  all_entries-moved k [] = refl
  all_entries-moved k (pair ∷ h) = ap (λ z. pair.1 ∷ z) (all_entries-moved k h)

  same_cond : (b c : Bool) (x : X) (xs ys : List X) → b ≡ c → xs ≡ ys → cond b (x ∷ xs) xs ≡ cond c (x ∷ ys) ys
  same_cond b c x xs ys e f = ap (λ (z : Bool). cond z (x ∷ xs) xs) e ∙ ap (λ z. cond c (x ∷ z) z) f

  pub entries_of-moved : (k i : ℕ) (h : History X) → All (λ pair. k ≤ pair.0) h → entries_of i (moved k h) ≡ entries_of (k + i) h
  entries_of-moved k i [] all = refl
  entries_of-moved k i (pair ∷ h) all =
      let up : k ≤ pair.0 = All-head (λ (pair : ℕ × X). k ≤ pair.0) pair h all in
      same_cond (eqb (pair.0 - k) i) (eqb pair.0 (k + i)) pair.1 (entries_of i (moved k h)) (entries_of (k + i) h)
      (dite (ℕ_discrete pair.0 (k + i))
      (λ is. eq-eqb (pair.0 - k) i (omega arith) ∙ sym (eq-eqb pair.0 (k + i) is))
      (λ ne. ne_eqb (pair.0 - k) i (λ e. ne (omega arith)) ∙ sym (ne_eqb pair.0 (k + i) ne)))
      (entries_of-moved k i h (All-tail (λ (pair : ℕ × X). k ≤ pair.0) pair h all))

  pub IsBelow-moved : (k n : ℕ) (h : History X) → All (λ pair. k ≤ pair.0) h → All (λ pair. pair.0 < k + n) h → IsBelow n (moved k h)
  IsBelow-moved k n [] low high = All-nil (λ (pair : ℕ × X). pair.0 < n)
  IsBelow-moved k n (pair ∷ h) low high =
      let a : k ≤ pair.0 = All-head (λ (pair : ℕ × X). k ≤ pair.0) pair h low in let b : pair.0 < k + n = All-head (λ (pair : ℕ × X). pair.0 < k + n) pair h high in
      All-cons (λ (pair : ℕ × X). pair.0 < n) (pair.0 - k, pair.1) (moved k h) (omega arith)
      (IsBelow-moved k n h (All-tail (λ (pair : ℕ × X). k ≤ pair.0) pair h low) (All-tail (λ (pair : ℕ × X). pair.0 < k + n) pair h high))

  -- one interleaving behind another
  pub IsInterleaving-append : (n : ℕ) (ps qs : ℕ → List X) (xs ys : List X) → IsInterleaving n ps xs → IsInterleaving n qs ys → IsInterleaving n (λ i. ps i ++ qs i) (xs ++ ys)
  IsInterleaving-append n ps qs xs ys a b = record {
    labelled = a.labelled ++ b.labelled;
    all = map-append (λ (pair : ℕ × X). pair.1) a.labelled b.labelled ∙ (ap (λ z. z ++ all_entries b.labelled) a.all ∙ ap (λ z. xs ++ z) b.all);
    below = All-append (λ (pair : ℕ × X). pair.0 < n) a.labelled b.labelled a.below b.below;
    each = λ i lt. entries_of-append i a.labelled b.labelled ∙ (ap (λ z. z ++ entries_of i b.labelled) (a.each i lt) ∙ ap (λ z. ps i ++ z) (b.each i lt));
  }

  -- the same lists under other names; those from n on have no items
  pub IsInterleaving_fewer : (n m : ℕ) (ps qs : ℕ → List X) (xs : List X) → n ≤ m → ((i : ℕ) → i < n → ps i ≡ qs i) → ((i : ℕ) → n ≤ i → i < m → ps i ≡ []) → IsInterleaving m ps xs → IsInterleaving n qs xs
  IsInterleaving_fewer n m ps qs xs le same none a = record {
    labelled = a.labelled;
    all = a.all;
    below = All_labels (λ (i : ℕ). i < n) a.labelled (λ i some. dite (dec_le n i)
        (λ up. absurd (some (dite (dec_le m i) (λ out. entries_of_below m i a.labelled a.below out) (λ within. a.each i (lt_of_not-le within) ∙ none i up (lt_of_not-le within)))))
        (λ no. lt_of_not-le no));
    each = λ i lt. a.each i (omega arith) ∙ same i lt;
  }

  -- what holds of the items of each list holds of all
  pub IsInterleaving_all : (P : X → Type 0) (n : ℕ) (ps : ℕ → List X) (xs : List X) → IsInterleaving n ps xs → ((i : ℕ) → i < n → All P (ps i)) → All P xs
  IsInterleaving_all P n ps xs a each = subst (All P) a.all (All_entries P a.labelled (λ m. dite (dec_le n m)
      (λ out. subst (All P) (sym (entries_of_below n m a.labelled a.below out)) (All-nil P))
      (λ no. subst (All P) (sym (a.each m (lt_of_not-le no))) (each m (lt_of_not-le no)))))

  -- each item is in one of the lists
  pub IsInterleaving_list : (n : ℕ) (ps : ℕ → List X) (xs : List X) (x : X) → IsInterleaving n ps xs → Contains xs x → (i : ℕ) × (i < n) × Contains (ps i) x
  IsInterleaving_list n ps xs x a there =
      All-contains (λ x. (i : ℕ) × (i < n) × Contains (ps i) x) xs x
      (IsInterleaving_all (λ x. (i : ℕ) × (i < n) × Contains (ps i) x) n ps xs a
      (λ i lt. All-weaker (Contains (ps i)) (λ x. (i : ℕ) × (i < n) × Contains (ps i) x) (λ x in'. (i, lt, in')) (ps i) (All-contains_itself (ps i)))) there

  -- each item of a list is there
  pub IsInterleaving_item : (n : ℕ) (ps : ℕ → List X) (xs : List X) (i : ℕ) (x : X) → IsInterleaving n ps xs → i < n → Contains (ps i) x → Contains xs x
  IsInterleaving_item n ps xs i x a lt there = subst (λ (z : List X). Contains z x) a.all
      (All-contains (Contains (all_entries a.labelled)) (entries_of i a.labelled) x (entries_of_among i a.labelled) (subst (λ (z : List X). Contains z x) (sym (a.each i lt)) there))

  length_labelled : (n : ℕ) (h : History X) → IsBelow n h → length h ≡ sum_below n (λ i. length (entries_of i h))
  length_labelled n [] below = sym (sum_below_zero n)
  length_labelled n (pair ∷ h) below =
      let rest = length_labelled n h (All-tail (λ (pair : ℕ × X). pair.0 < n) pair h below) in
      let more = sum_below_bump n pair.0 (λ i. length (entries_of i (pair ∷ h))) (λ i. length (entries_of i h)) (All-head (λ (pair : ℕ × X). pair.0 < n) pair h below)
      (ap length (entries_of_here pair h) ∙ omega arith) (λ i ne. ap length (entries_of_else i pair h (λ e. ne (sym e)))) in omega arith

  pub length_all_entries : (h : History X) → length (all_entries h) ≡ length h
  length_all_entries [] = refl
  length_all_entries (pair ∷ h) = let rest = length_all_entries h in omega arith

  pub length_interleaving : (n : ℕ) (ps : ℕ → List X) (xs : List X) → IsInterleaving n ps xs → length xs ≡ sum_below n (λ i. length (ps i))
  length_interleaving n ps xs a = ap length (sym a.all) ∙ (length_all_entries a.labelled ∙ (length_labelled n a.labelled a.below
      ∙ sum_below_same n (λ i. length (entries_of i a.labelled)) (λ i. length (ps i)) (λ i lt. ap length (a.each i lt))))

  pub IsInterleaving_nil : (n : ℕ) (ps : ℕ → List X) → ((i : ℕ) → i < n → ps i ≡ []) → IsInterleaving n ps []
  IsInterleaving_nil n ps none = record { labelled = []; all = refl; below = All-nil (λ (pair : ℕ × X). pair.0 < n); each = λ i lt. sym (none i lt) }

  pub IsInterleaving_renamed : (n : ℕ) (ps qs : ℕ → List X) (xs : List X) → ((i : ℕ) → i < n → ps i ≡ qs i) → IsInterleaving n ps xs → IsInterleaving n qs xs
  IsInterleaving_renamed n ps qs xs same a = record { labelled = a.labelled; all = a.all; below = a.below; each = λ i lt. a.each i lt ∙ same i lt }
