-- The rows of a region, seen from below or from above, that reach beyond the rows before them.
use Rattle.std.proofs.Common.{◌≡◌, ℕ, ◌+◌, ◌-◌, subst, ap, ◌<◌, ◌≤◌, Bool, true, false, ℤ, pos, negsuc, ◌+ℤ◌, ◌-ℤ◌, ◌≤ℤ◌, ◌<ℤ◌, ◌⊎◌, inl, inr, ⊎_elim, refl, sym, ◌∙◌, arith, List, [], ◌∷◌, ◌++◌, All, length, neg_ℤ}
use Rattle.std.proofs.lemmas.Int.{ints, by_lt_z}
use Rattle.std.proofs.lemmas.Bool.{cases_lt}
use Rattle.std.proofs.lemmas.List.{get_or_append_left, get_or_push, get_or_past, length_push}
use Rattle.std.proofs.lemmas.List.Elements.{All-get_or, All-nil}
use Rattle.border_region.specs.Limits.{max_key}
use Rattle.ass_num.specs.Limits.{IsRunWithin, max_sample}
use Rattle.ass_num.specs.Regions.{RegionValue, in_runs, member, row_at}
use Rattle.ass_num.specs.declared.region.Run.{Run}
use Rattle.region_rows.proofs.JoinLemmas.{member_above, member_below}
use Rattle.border_region.specs.Frontier.{AreChanges, AreRowsNear, IsFrontier, change_key, is_seen}
use Rattle.border_region.specs.Keys.{AreAscending, key_at}
use Rattle.border_region.specs.Widths.{Covers}

-- the runs of a row lie within the limit of their region
pub row_within : (limit : ℕ) (rows : List (List Run)) (z : ℤ) → All (All (IsRunWithin limit)) rows → All (IsRunWithin limit) (row_at rows z)
row_within limit rows (negsuc n) w = All-nil (IsRunWithin limit)
row_within limit rows (pos n) w =
    ⊎_elim
    (λ (l : n < length rows). All-get_or (All (IsRunWithin limit)) rows n [] l w)
    (λ (l : length rows ≤ n). rw (get_or_past rows n [] l) (All-nil (IsRunWithin limit)))
    (cases_lt n (length rows))

-- ---- ascending keys that grow by one
key_before : (found : List ℤ) (key : ℤ) (n : ℕ) → n < length found → key_at (found ++ key ∷ []) n ≡ key_at found n
key_before found key n l = get_or_append_left found (key ∷ []) (pos 0) n l

key_last : (found : List ℤ) (key : ℤ) (n : ℕ) → length found ≡ n → key_at (found ++ key ∷ []) n ≡ key
key_last found key n e = get_or_push found key (pos 0) n e

ascends_more : (found : List ℤ) (key : ℤ) → AreAscending found → ((n : ℕ) → n < length found → key_at found n ≤ℤ key) → AreAscending (found ++ key ∷ [])
ascends_more found key up below m n l h =
    let more = length_push found key in
    ⊎_elim
    (λ (a : n < length found). rw (key_before found key n a, key_before found key m (omega arith)) (up m n l a))
    (λ (a : length found ≤ n). rw (key_last found key n (omega arith)) (⊎_elim
    (λ (b : m < length found). rw (key_before found key m b) (below m b))
    (λ (b : length found ≤ m). rw (key_last found key m (omega arith)) (omega (arith, ints)))
    (cases_lt m (length found))))
    (cases_lt n (length found))

-- what holds of all keys and of one more
all_more : (P : ℤ → Type 0) (found : List ℤ) (key : ℤ) → ((n : ℕ) → n < length found → P (key_at found n)) → P key → (n : ℕ) → n < length (found ++ key ∷ []) → P (key_at (found ++ key ∷ []) n)
all_more P found key all one n h =
    let more = length_push found key in
    ⊎_elim
    (λ (a : n < length found). subst P (sym (key_before found key n a)) (all n a))
    (λ (a : length found ≤ n). subst P (sym (key_last found key n (omega arith))) one)
    (cases_lt n (length found))

-- a key that is one of those found
abbrev Found : List ℤ → ℤ → Type 0
Found found key = (n : ℕ) × (n < length found) × (key_at found n ≡ key)

still_found : (found : List ℤ) (key k : ℤ) → Found found k → Found (found ++ key ∷ []) k
still_found found key k q = let q1 = q.1 in let more = length_push found key in (q.0, omega arith, key_before found key q.0 q.1 ∙ q.2)

now_found : (found : List ℤ) (key k : ℤ) → key ≡ k → Found (found ++ key ∷ []) k
now_found found key k e = let more = length_push found key in (length found, omega arith, key_last found key (length found) refl ∙ e)

-- ---- the rows that aren't like the row before
abbrev IsLikeBefore : RegionValue → ℤ → ℤ → Type 0
IsLikeBefore region i j = member region.top region.rows i j ≡ member region.top region.rows i (j -ℤ pos 1)

-- what is known of the changes found before row j
pub record HasChanged (region : RegionValue) (j : ℤ) (found : List ℤ) : Type 0 where
  pub ascends : AreAscending found
  pub below : (n : ℕ) → n < length found → key_at found n <ℤ j
  pub near : AreRowsNear found
  pub complete : (k i : ℤ) → k <ℤ j → IsLikeBefore region i k ⊎ Found found k

pub changed_none : (region : RegionValue) → HasChanged region region.top []
changed_none region = record {
  ascends = λ m n l h. absurd (omega arith);
  below = λ n h. absurd (omega arith);
  near = λ n h. absurd (omega arith);
  complete = λ k i l. inl (member_above region.top region.rows i k l ∙ sym (member_above region.top region.rows i (k -ℤ pos 1) (omega (arith, ints))));
}

-- row j has the runs of the row before
pub changed_same : (region : RegionValue) (j : ℤ) (found : List ℤ) → ((i : ℤ) → IsLikeBefore region i j) → HasChanged region j found → HasChanged region (j +ℤ pos 1) found
changed_same region j found like old = record {
  ascends = old.ascends;
  below = λ n h. let b = old.below n h in omega (arith, ints);
  near = old.near;
  complete = λ k i l. by_lt_z k j
      (λ (m : k <ℤ j). old.complete k i m)
      (λ (m : j ≤ℤ k). let e : k ≡ j = omega (arith, ints) in inl (rw e (like i)));
}

-- it may not, and is kept
pub changed_more : (region : RegionValue) (j : ℤ) (found : List ℤ) → neg_ℤ (pos max_sample) ≤ℤ j → j ≤ℤ pos (max_sample + 1) → HasChanged region j found → HasChanged region (j +ℤ pos 1) (found ++ j ∷ [])
changed_more region j found low high old = record {
  ascends = ascends_more found j old.ascends (λ n h. let b = old.below n h in omega (arith, ints));
  below = all_more (λ z. z <ℤ (j +ℤ pos 1)) found j (λ n h. let b = old.below n h in omega (arith, ints)) (omega (arith, ints));
  near = all_more (λ z. (neg_ℤ (pos max_sample) ≤ℤ z) × (z ≤ℤ pos (max_sample + 1))) found j old.near (low, high);
  complete = λ k i l. by_lt_z k j
      (λ (m : k <ℤ j). ⊎_elim (λ e. inl e) (λ q. inr (still_found found j k q)) (old.complete k i m))
      (λ (m : j ≤ℤ k). inr (now_found found j k (omega (arith, ints))));
}

pub changed_all : (region : RegionValue) (j : ℤ) (found : List ℤ) → (region.top +ℤ pos (length region.rows)) <ℤ j → HasChanged region j found → AreChanges region found
changed_all region j found past old = record {
  ascends = old.ascends;
  near = old.near;
  complete = λ k i. by_lt_z k j
      (λ (m : k <ℤ j). old.complete k i m)
      (λ (m : j ≤ℤ k). inl (member_below region.top region.rows i k (omega (arith, ints)) ∙ sym (member_below region.top region.rows i (k -ℤ pos 1) (omega (arith, ints)))));
}

-- two rows with the same runs
pub like_from : (region : RegionValue) (j : ℤ) (row before : List Run) → row ≡ row_at region.rows (j -ℤ region.top) → before ≡ row_at region.rows ((j -ℤ pos 1) -ℤ region.top) → row ≡ before → (i : ℤ) → IsLikeBefore region i j
like_from region j row before r b e i = ap (λ (runs : List Run). in_runs runs i) (sym r ∙ e ∙ b)

-- ---- the changes as they are seen
pub key_ascends : (region : RegionValue) (upwards : Bool) (rows : List ℤ) → AreChanges region rows → (m n : ℕ) → m ≤ n → n < length rows → change_key upwards rows m ≤ℤ change_key upwards rows n
key_ascends region true rows all m n l h = let a = all.ascends (length rows - 1 - n) (length rows - 1 - m) (omega arith) (omega arith) in omega (arith, ints)
key_ascends region false rows all m n l h = all.ascends m n l h

pub key_near : (upwards : Bool) (rows : List ℤ) → AreRowsNear rows → (n : ℕ) → n < length rows → (neg_ℤ (pos max_key) ≤ℤ change_key upwards rows n) × (change_key upwards rows n ≤ℤ pos max_key)
key_near true rows near n h =
    let a = near (length rows - 1 - n) (omega arith) in
    let a0 = a.0 in
    let a1 = a.1 in
    (omega (arith, ints), omega (arith, ints))
key_near false rows near n h =
    let a = near n h in
    let a0 = a.0 in
    let a1 = a.1 in
    (omega (arith, ints), omega (arith, ints))

key_complete : (region : RegionValue) (upwards : Bool) (rows : List ℤ) → AreChanges region rows → (key i : ℤ) → is_seen region upwards key i ≡ true
    → (is_seen region upwards (key -ℤ pos 1) i ≡ true) ⊎ ((n : ℕ) × (n < length rows) × (change_key upwards rows n ≡ key))
key_complete region true rows all key i s =
    ⊎_elim
    (λ e.
    let here : (pos 1 -ℤ key) -ℤ pos 1 ≡ neg_ℤ key = omega (arith, ints) in
    let there : neg_ℤ (key -ℤ pos 1) ≡ pos 1 -ℤ key = omega (arith, ints) in
    inl (rw there (rw here at e ∙ s)))
    (λ q.
    let q1 = q.1 in
    let q2 = q.2 in
    let place : length rows - 1 - (length rows - 1 - q.0) ≡ q.0 = omega arith in
    inr (length rows - 1 - q.0, omega arith, rw place (omega (arith, ints))))
    (all.complete (pos 1 -ℤ key) i)
key_complete region false rows all key i s = ⊎_elim (λ e. inl (sym e ∙ s)) (λ q. inr q) (all.complete key i)

-- what is known of the keys found among the first n changes
pub record HasSifted (region : RegionValue) (upwards : Bool) (rows : List ℤ) (n : ℕ) (found : List ℤ) : Type 0 where
  pub ascends : AreAscending found
  pub below : (k : ℕ) → n ≤ k → k < length rows → (m : ℕ) → m < length found → key_at found m ≤ℤ change_key upwards rows k
  pub near : (m : ℕ) → m < length found → (neg_ℤ (pos max_key) ≤ℤ key_at found m) × (key_at found m ≤ℤ pos max_key)
  pub complete : (k : ℕ) (i : ℤ) → k < n → is_seen region upwards (change_key upwards rows k) i ≡ true → (is_seen region upwards (change_key upwards rows k -ℤ pos 1) i ≡ true) ⊎ Found found (change_key upwards rows k)

pub sifted_none : (region : RegionValue) (upwards : Bool) (rows : List ℤ) → HasSifted region upwards rows 0 []
sifted_none region upwards rows = record {
  ascends = λ m n l h. absurd (omega arith);
  below = λ k l h m w. absurd (omega arith);
  near = λ n h. absurd (omega arith);
  complete = λ k i l s. absurd (omega arith);
}

-- the row at the n-th key reaches nowhere beyond the row before
pub sifted_same : (region : RegionValue) (upwards : Bool) (rows : List ℤ) (n : ℕ) (key : ℤ) (found : List ℤ) (before row : List Run) → key ≡ change_key upwards rows n
    → ((i : ℤ) → in_runs before i ≡ is_seen region upwards (key -ℤ pos 1) i) → ((i : ℤ) → in_runs row i ≡ is_seen region upwards key i) → Covers 0 row before
    → HasSifted region upwards rows n found → HasSifted region upwards rows (n + 1) found
sifted_same region upwards rows n key found before row is eb er covers old = record {
  ascends = old.ascends;
  below = λ k l h m w. old.below k (omega arith) h m w;
  near = old.near;
  complete = λ k i l s. ⊎_elim
      (λ (a : k < n). old.complete k i a s)
      (λ (a : n ≤ k).
      let e : k ≡ n = omega arith in
      let here : is_seen region upwards key i ≡ true = rw is (rw e at s) in
      let gone : is_seen region upwards (key -ℤ pos 1) i ≡ true = sym (eb i) ∙ covers i i (er i ∙ here) (omega (arith, ints), omega (arith, ints)) in
      inl (rw e (rw is at gone)))
      (cases_lt k n);
}

-- it may, and its key is kept
pub sifted_more : (region : RegionValue) (upwards : Bool) (rows : List ℤ) (n : ℕ) (key : ℤ) (found : List ℤ) → AreChanges region rows → n < length rows → key ≡ change_key upwards rows n
    → HasSifted region upwards rows n found → HasSifted region upwards rows (n + 1) (found ++ key ∷ [])
sifted_more region upwards rows n key found all within is old =
    let near = key_near upwards rows all.near n within in
    record {
      ascends = ascends_more found key old.ascends (λ m h. rw is (old.below n (omega arith) within m h));
      below = λ k l h. all_more (λ z. z ≤ℤ change_key upwards rows k) found key (old.below k (omega arith) h) (rw is (key_ascends region upwards rows all n k (omega arith) h));
      near = all_more (λ z. (neg_ℤ (pos max_key) ≤ℤ z) × (z ≤ℤ pos max_key)) found key old.near (rw is near);
      complete = λ k i l s. ⊎_elim
          (λ (a : k < n). ⊎_elim (λ e. inl e) (λ q. inr (still_found found key (change_key upwards rows k) q)) (old.complete k i a s))
          (λ (a : n ≤ k). let e : k ≡ n = omega arith in inr (now_found found key (change_key upwards rows k) (rw e is)))
          (cases_lt k n);
    }

pub sifted_all : (region : RegionValue) (upwards : Bool) (rows : List ℤ) (n : ℕ) (found : List ℤ) → AreChanges region rows → length rows ≤ n → HasSifted region upwards rows n found → IsFrontier region upwards found
sifted_all region upwards rows n found all past old = record {
  ascends = old.ascends;
  near = old.near;
  complete = λ key i s. ⊎_elim
      (λ e. inl e)
      (λ q.
      let q1 = q.1 in
      let is = q.2 in
      rw is at (old.complete q.0 i (omega arith) (rw is s)))
      (key_complete region upwards rows all key i s);
}
