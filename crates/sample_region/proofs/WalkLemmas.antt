-- One step of the sweep along a row, as facts on lists.
use Rattle.std.proofs.Common.{◌≡◌, ℕ, ◌+◌, ◌<◌, ◌≤◌, Bool, true, false, not, cond, eqb, ◌&&◌, ◌||◌, ℤ, pos, ◌-ℤ◌, ◌≤ℤ◌, ◌<ℤ◌, ◌⊎◌, inl, inr, refl, sym, ap, ◌∙◌, arith, int_le, List, [], ◌∷◌, ◌++◌, All, ⊎_elim, Some, length, take, get_or}
use Rattle.std.proofs.lemmas.Int.{ints, by_lt_z}
use Rattle.std.proofs.lemmas.List.Sums.{sum_by-cons, sum_by_push}
use Rattle.std.proofs.lemmas.List.Elements.{All-head, All-tail, All-push, All-pop, All-weaker, All-nil, All-cons, All-from_get_or, All-get_or}
use Rattle.std.proofs.lemmas.List.Sums.{count_by-le-length}
use Rattle.std.proofs.lemmas.List.{length-take, get_or-take, take_more}
use Rattle.std.proofs.lemmas.Int.{clamps}
use Rattle.std.specs.Int.{int_min, int_max}
use Rattle.sample_region.specs.declared.row.RowCrossings.{RowCrossings}
use Rattle.std.proofs.lemmas.Bool.{eq-eqb, ne_eqb}
use Rattle.std.proofs.Math.Bool.{or-true}
use Rattle.ass_num.proofs.OrderLemmas.{lt_true, lt_false, le_true, le_false}
use Rattle.region_rows.proofs.JoinLemmas.{or_false, in_runs-push}
use Rattle.ass_num.specs.Regions.{in_runs, ascend_from, ascend}
use Rattle.sample_region.specs.Crossings.{downs, ups, downs_to, ups_to, IsAscending}
use Rattle.sample_region.specs.Rows.{IsRowBetween, Walked, Reopens, IsRowOf}
use Rattle.sample_region.specs.Walks.{HasWalked, Passes}
use Rattle.ass_num.specs.declared.region.Run.{Run}
use Rattle.sample_region.specs.declared.sweep.Crossing.{Crossing}

and_false : (b : Bool) → ((b && false) || false) ≡ false
and_false true = refl
and_false false = refl

pub and_nothing : (b : Bool) → ◌≡◌ {A = ℕ} (cond (b && false) 1 0) 0
and_nothing true = refl
and_nothing false = refl

pub IsRowBetween-wider : (low : ℤ) (rs : List Run) (high higher : ℤ) → high ≤ℤ higher → IsRowBetween low rs high → IsRowBetween low rs higher
IsRowBetween-wider low [] high higher h w = omega (arith, ints)
IsRowBetween-wider low (r ∷ rs) high higher h w = (w.0, w.1, IsRowBetween-wider r.to rs high higher h w.2)

-- one more run at the end
pub IsRowBetween-push : (low : ℤ) (rs : List Run) (high : ℤ) (r : Run) → IsRowBetween low rs high → high <ℤ r.from → r.from <ℤ r.to → IsRowBetween low (rs ++ r ∷ []) r.to
IsRowBetween-push low [] high r w h k = (omega (arith, ints), k, omega (arith, ints))
IsRowBetween-push low (s ∷ rs) high r w h k = (w.0, w.1, IsRowBetween-push s.to rs high r w.2 h k)

-- and without the last
pub IsRowBetween-pop : (low : ℤ) (rs : List Run) (high : ℤ) (r : Run) → IsRowBetween low (rs ++ r ∷ []) high → IsRowBetween low rs (r.from -ℤ pos 1) × ((r.from <ℤ r.to) × (r.to ≤ℤ high))
IsRowBetween-pop low [] high r w = (omega (arith, ints, w.0), (w.1, w.2))
IsRowBetween-pop low (s ∷ rs) high r w = let v = IsRowBetween-pop s.to rs high r w.2 in ((w.0, w.1, v.0), v.1)

pub IsRowBetween-bounds : (low : ℤ) (rs : List Run) (high : ℤ) → IsRowBetween low rs high → low ≤ℤ high
IsRowBetween-bounds low [] high w = w
IsRowBetween-bounds low (r ∷ rs) high w = let v = IsRowBetween-bounds r.to rs high w.2 in let a = w.0 in let b = w.1 in omega (arith, ints)

-- no sample after the end lies in a run
pub in_runs-after : (low : ℤ) (rs : List Run) (high i : ℤ) → IsRowBetween low rs high → high ≤ℤ i → in_runs rs i ≡ false
in_runs-after low [] high i w h = refl
in_runs-after low (r ∷ rs) high i w h =
    let v = in_runs-after r.to rs high i w.2 h in
    let b = IsRowBetween-bounds r.to rs high w.2 in
    rw (lt_false i r.to (omega (arith, ints)), v) (and_false (int_le r.from i))

-- ---- the counts of crossings, with one more that is no lower than any
pub downs_to-push : (i : ℤ) (cs : List Crossing) (c : Crossing) → downs_to i (cs ++ c ∷ []) ≡ downs_to i cs + cond (c.down && int_le c.at i) 1 0
downs_to-push i cs c = sum_by_push (λ (c : Crossing). cond (c.down && int_le c.at i) 1 0) cs c

pub ups_to-push : (i : ℤ) (cs : List Crossing) (c : Crossing) → ups_to i (cs ++ c ∷ []) ≡ ups_to i cs + cond (not c.down && int_le c.at i) 1 0
ups_to-push i cs c = sum_by_push (λ (c : Crossing). cond (not c.down && int_le c.at i) 1 0) cs c

pub downs-push : (cs : List Crossing) (c : Crossing) → downs (cs ++ c ∷ []) ≡ downs cs + cond c.down 1 0
downs-push cs c = sum_by_push (λ (c : Crossing). cond c.down 1 0) cs c

pub ups-push : (cs : List Crossing) (c : Crossing) → ups (cs ++ c ∷ []) ≡ ups cs + cond (not c.down) 1 0
ups-push cs c = sum_by_push (λ (c : Crossing). cond (not c.down) 1 0) cs c

and_true : (b : Bool) → (b && true) ≡ b
and_true true = refl
and_true false = refl

-- where all are at or before i, each is counted
pub downs_to-all : (i : ℤ) (cs : List Crossing) → All (λ c. c.at ≤ℤ i) cs → downs_to i cs ≡ downs cs
downs_to-all i [] h = refl
downs_to-all i (c ∷ cs) h =
    let e = All-head (λ c. c.at ≤ℤ i) c cs h in
    rw (sum_by-cons (λ (c : Crossing). cond (c.down && int_le c.at i) 1 0) c cs, sum_by-cons (λ (c : Crossing). cond c.down 1 0) c cs, le_true c.at i e, and_true c.down, downs_to-all i cs (All-tail (λ c. c.at ≤ℤ i) c cs h)) refl

pub ups_to-all : (i : ℤ) (cs : List Crossing) → All (λ c. c.at ≤ℤ i) cs → ups_to i cs ≡ ups cs
ups_to-all i [] h = refl
ups_to-all i (c ∷ cs) h =
    let e = All-head (λ c. c.at ≤ℤ i) c cs h in
    rw (sum_by-cons (λ (c : Crossing). cond (not c.down && int_le c.at i) 1 0) c cs, sum_by-cons (λ (c : Crossing). cond (not c.down) 1 0) c cs, le_true c.at i e, and_true (not c.down), ups_to-all i cs (All-tail (λ c. c.at ≤ℤ i) c cs h)) refl

-- where i is before the new crossing, it is not counted
pub downs_to-before : (i : ℤ) (cs : List Crossing) (c : Crossing) → i <ℤ c.at → downs_to i (cs ++ c ∷ []) ≡ downs_to i cs
downs_to-before i cs c h = downs_to-push i cs c ∙ rw (le_false c.at i h, and_nothing c.down) (omega arith)

pub ups_to-before : (i : ℤ) (cs : List Crossing) (c : Crossing) → i <ℤ c.at → ups_to i (cs ++ c ∷ []) ≡ ups_to i cs
ups_to-before i cs c h = ups_to-push i cs c ∙ rw (le_false c.at i h, and_nothing (not c.down)) (omega arith)

-- the last run does not end at high
pub IsRowBetween-below : (low : ℤ) (rs : List Run) (r : Run) (high : ℤ) → IsRowBetween low (rs ++ r ∷ []) high → (r.to ≡ high → ⊥) → IsRowBetween low (rs ++ r ∷ []) (high -ℤ pos 1)
IsRowBetween-below low rs r high w ne =
    let p = IsRowBetween-pop low rs high r w in
    let a = p.1.0 in
    let b = p.1.1 in
    let e : r.to ≤ℤ (high -ℤ pos 1) = by_lt_z r.to high (λ (l : r.to <ℤ high). omega (arith, ints)) (λ (l : high ≤ℤ r.to). absurd (ne (omega (arith, ints)))) in
    IsRowBetween-wider low (rs ++ r ∷ []) r.to (high -ℤ pos 1) e (IsRowBetween-push low rs (r.from -ℤ pos 1) r p.0 (omega (arith, ints)) a)

or_and_false : (b x : Bool) → (b || (x && false)) ≡ b
or_and_false true x = refl
or_and_false false true = refl
or_and_false false false = refl

meet : {x y : Bool} (z : Bool) → x ≡ z → y ≡ z → x ≡ y
meet z p q = p ∙ sym q

or_cut : (a p : Bool) → (a || (p && true)) ≡ (a || p)
or_cut a p = ap (λ q. a || q) (and_true p)

-- one more crossing makes a balance uneven
tipped : (b : Bool) (d u d' u' : ℕ) → d' ≡ d + cond b 1 0 → u' ≡ u + cond (not b) 1 0 → d ≡ u → d' ≡ u' → ⊥
tipped true d u d' u' e f h k = omega arith
tipped false d u d' u' e f h k = omega arith

last_or_nil : (xs : List Run) → (xs ≡ []) ⊎ ((rs : List Run) × (r : Run) × (xs ≡ rs ++ r ∷ []))
last_or_nil [] = inl refl
last_or_nil (x ∷ xs) = ⊎_elim (λ e. inr ([], x, ap (λ ys. x ∷ ys) e)) (λ t. inr (x ∷ t.0, t.1, ap (λ ys. x ∷ ys) t.2)) (last_or_nil xs)

module _ (low : ℤ) (done : List Crossing) (d u : ℕ) (from : ℤ) (runs : List Run) (c : Crossing) (d' u' : ℕ) (w : Walked low done d u from runs) (above : low <ℤ c.at) (all : All (λ e. e.at ≤ℤ c.at) done) (ed : d' ≡ d + cond c.down 1 0) (eu : u' ≡ u + cond (not c.down) 1 0) where
  parts : (high : ℤ) → All (λ (e : Crossing). e.at ≤ℤ high) (done ++ c ∷ []) → All (λ (e : Crossing). e.at ≤ℤ high) done × (c.at ≤ℤ high)
  parts high h = All-pop (λ (e : Crossing). e.at ≤ℤ high) (done ++ c ∷ []) done (Some c) refl h

  -- after the new crossing the counts are those of all
  downs_all : downs (done ++ c ∷ []) ≡ d'
  downs_all = downs-push done c ∙ omega (arith, w.downs_is, ed)

  ups_all : ups (done ++ c ∷ []) ≡ u'
  ups_all = ups-push done c ∙ omega (arith, w.ups_is, eu)

  reached : (i : ℤ) → c.at ≤ℤ i → All (λ (e : Crossing). e.at ≤ℤ i) (done ++ c ∷ [])
  reached i h = All-push (λ (e : Crossing). e.at ≤ℤ i) done c (All-weaker (λ (e : Crossing). e.at ≤ℤ c.at) (λ (e : Crossing). e.at ≤ℤ i) (λ e k. omega (arith, ints, k, h)) done all) h

  counted : (i : ℤ) → c.at ≤ℤ i → not (eqb (downs_to i (done ++ c ∷ [])) (ups_to i (done ++ c ∷ []))) ≡ not (eqb d' u')
  counted i h = rw (downs_to-all i (done ++ c ∷ []) (reached i h), ups_to-all i (done ++ c ∷ []) (reached i h), downs_all, ups_all) refl

  kept : (i : ℤ) → i <ℤ c.at → not (eqb (downs_to i (done ++ c ∷ [])) (ups_to i (done ++ c ∷ []))) ≡ (in_runs runs i || (not (eqb d u) && int_le from i))
  kept i h = rw (downs_to-before i done c h, ups_to-before i done c h) (sym (w.covers i))

  odd : Bool → ℤ → Type 0
  odd z i = not (eqb (downs_to i (done ++ c ∷ [])) (ups_to i (done ++ c ∷ []))) ≡ z

  counted_odd : (d' ≡ u' → ⊥) → (i : ℤ) → c.at ≤ℤ i → odd true i
  unfolding odd
  counted_odd ne i h = counted i h ∙ ap not (ne_eqb d' u' ne)

  counted_even : d' ≡ u' → (i : ℤ) → c.at ≤ℤ i → odd false i
  unfolding odd
  counted_even e i h = counted i h ∙ ap not (eq-eqb d' u' e)

  kept_outer : d ≡ u → (i : ℤ) → i <ℤ c.at → odd (in_runs runs i) i
  unfolding odd
  kept_outer e i h = kept i h ∙ ap (λ b. in_runs runs i || (not b && int_le from i)) (eq-eqb d u e) ∙ or_false (in_runs runs i)

  kept_inner : (d ≡ u → ⊥) → (i : ℤ) → i <ℤ c.at → odd (in_runs runs i || int_le from i) i
  unfolding odd
  kept_inner ne i h = kept i h ∙ ap (λ b. in_runs runs i || (not b && int_le from i)) (ne_eqb d u ne)

  pub opened : d ≡ u → ((rs : List Run) (r : Run) → runs ≡ rs ++ r ∷ [] → r.to ≡ c.at → ⊥) → Walked low (done ++ c ∷ []) d' u' c.at runs
  unfolding odd
  opened e apart =
      let ne : d' ≡ u' → ⊥ = tipped c.down d u d' u' ed eu e in
      let row : IsRowBetween low runs (c.at -ℤ pos 1) =
      ⊎_elim (λ n. rw n (omega (arith, ints)))
      (λ t. rw t.2 (IsRowBetween-below low t.0 t.1 c.at (rw t.2 at (w.outer e c.at (omega (arith, ints)) all)) (apart t.0 t.1 t.2)))
      (last_or_nil runs) in
      record {
        downs_is = sym downs_all;
        ups_is = sym ups_all;
        covers = λ i. by_lt_z i c.at
            (λ (l : i <ℤ c.at). meet (in_runs runs i) (rw (le_false c.at i l) (or_and_false (in_runs runs i) (not (eqb d' u')))) (kept_outer e i l))
            (λ (l : c.at ≤ℤ i). meet true (rw (le_true c.at i l, ne_eqb d' u' ne) (or-true (in_runs runs i))) (counted_odd ne i l));
        outer = λ k. absurd (ne k);
        inner = λ _. (row, λ high h. (parts high h).1);
      }

  pub reopened : d ≡ u → (rs : List Run) (r : Run) → runs ≡ rs ++ r ∷ [] → r.to ≡ c.at → Walked low (done ++ c ∷ []) d' u' r.from rs
  unfolding odd
  reopened e rs r er et =
      let ne : d' ≡ u' → ⊥ = tipped c.down d u d' u' ed eu e in
      let p : IsRowBetween low rs (r.from -ℤ pos 1) × ((r.from <ℤ r.to) × (r.to ≤ℤ c.at)) = IsRowBetween-pop low rs c.at r (rw er at (w.outer e c.at (omega (arith, ints)) all)) in
      let p0 : r.from <ℤ r.to = p.1.0 in
      record {
        downs_is = sym downs_all;
        ups_is = sym ups_all;
        covers = λ i. by_lt_z i c.at
            (λ (l : i <ℤ c.at). meet (in_runs runs i)
            (rw (ne_eqb d' u' ne, er, in_runs-push rs r i, et, lt_true i c.at l) (sym (or_cut (in_runs rs i) (int_le r.from i))))
            (kept_outer e i l))
            (λ (l : c.at ≤ℤ i). meet true (rw (le_true r.from i (omega (arith, ints)), ne_eqb d' u' ne) (or-true (in_runs rs i))) (counted_odd ne i l));
        outer = λ k. absurd (ne k);
        inner = λ _. (p.0, λ high h. let q = (parts high h).1 in omega (arith, ints));
      }

  pub closed : (d ≡ u → ⊥) → d' ≡ u' → from <ℤ c.at → (f : ℤ) (r : Run) → r.from ≡ from → r.to ≡ c.at → Walked low (done ++ c ∷ []) d' u' f (runs ++ r ∷ [])
  unfolding odd
  closed ne e l f r rf rt =
      let i0 = w.inner ne in
      let row : IsRowBetween low (runs ++ r ∷ []) r.to = IsRowBetween-push low runs (from -ℤ pos 1) r i0.0 (omega (arith, ints)) (omega (arith, ints)) in
      record {
        downs_is = sym downs_all;
        ups_is = sym ups_all;
        covers = λ i. by_lt_z i c.at
            (λ (l : i <ℤ c.at). meet (in_runs runs i || int_le from i)
            (rw (eq-eqb d' u' e, in_runs-push runs r i, rf, rt, lt_true i c.at l) (or_false (in_runs runs i || (int_le from i && true)) ∙ or_cut (in_runs runs i) (int_le from i)))
            (kept_inner ne i l))
            (λ (l : c.at ≤ℤ i). meet false
            (rw (eq-eqb d' u' e, in_runs-after low (runs ++ r ∷ []) r.to i row (omega (arith, ints))) refl)
            (counted_even e i l));
        outer = λ _ high h a. let q = (parts high a).1 in IsRowBetween-wider low (runs ++ r ∷ []) r.to high (omega (arith, ints)) row;
        inner = λ k. absurd (k e);
      }

  pub closed_empty : (d ≡ u → ⊥) → d' ≡ u' → c.at ≤ℤ from → (f : ℤ) → Walked low (done ++ c ∷ []) d' u' f runs
  unfolding odd
  closed_empty ne e l f =
      let i0 = w.inner ne in
      let s : from ≤ℤ c.at = i0.1 c.at all in
      record {
        downs_is = sym downs_all;
        ups_is = sym ups_all;
        covers = λ i. by_lt_z i c.at
            (λ (l' : i <ℤ c.at). meet (in_runs runs i)
            (rw (eq-eqb d' u' e) (or_false (in_runs runs i)))
            (kept_inner ne i l' ∙ rw (le_false from i (omega (arith, ints))) (or_false (in_runs runs i))))
            (λ (l' : c.at ≤ℤ i). meet false
            (rw (eq-eqb d' u' e, in_runs-after low runs (from -ℤ pos 1) i i0.0 (omega (arith, ints))) refl)
            (counted_even e i l'));
        outer = λ _ high h a. let q = (parts high a).1 in IsRowBetween-wider low runs (from -ℤ pos 1) high (omega (arith, ints)) i0.0;
        inner = λ k. absurd (k e);
      }

  pub stayed : (d ≡ u → ⊥) → (d' ≡ u' → ⊥) → Walked low (done ++ c ∷ []) d' u' from runs
  unfolding odd
  stayed ne ne' =
      let i0 = w.inner ne in
      let s : from ≤ℤ c.at = i0.1 c.at all in
      record {
        downs_is = sym downs_all;
        ups_is = sym ups_all;
        covers = λ i. by_lt_z i c.at
            (λ (l : i <ℤ c.at). meet (in_runs runs i || int_le from i) (rw (ne_eqb d' u' ne') refl) (kept_inner ne i l))
            (λ (l : c.at ≤ℤ i). meet true (rw (le_true from i (omega (arith, ints)), ne_eqb d' u' ne') (or-true (in_runs runs i))) (counted_odd ne' i l));
        outer = λ k. absurd (ne' k);
        inner = λ _. (i0.0, λ high h. i0.1 high (parts high h).0);
      }

  pub reopens : d ≡ u → (f : ℤ) (rs : List Run) → Reopens c.at runs f rs → Walked low (done ++ c ∷ []) d' u' f rs
  reopens e f rs h = ⊎_elim (λ t. rw t.3 (reopened e rs t.0 t.1 t.2)) (λ t. rw (t.0, t.1) (opened e t.2)) h

-- before any crossing
pub Walked-none : (low from : ℤ) → Walked low [] 0 0 from []
Walked-none low from = record {
  downs_is = refl;
  ups_is = refl;
  covers = λ i. refl;
  outer = λ _ high h _. h;
  inner = λ ne. absurd (ne refl);
}

-- ---- a whole row
-- all crossings lie between two numbers
bounded : (cs : List Crossing) → (low : ℤ) × (high : ℤ) × (low ≤ℤ high) × All (λ (c : Crossing). low <ℤ c.at) cs × All (λ (c : Crossing). c.at ≤ℤ high) cs
bounded [] = (pos 0, pos 0, omega (arith, ints), All-nil (λ (c : Crossing). pos 0 <ℤ c.at), All-nil (λ (c : Crossing). c.at ≤ℤ pos 0))
bounded (c ∷ cs) =
    let b = bounded cs in
    let l = int_min b.0 (c.at -ℤ pos 1) in
    let h = int_max b.1 c.at in
    let o = b.2 in (
      l,
      h,
      omega (arith, ints, clamps),
      All-cons (λ (c : Crossing). l <ℤ c.at) c cs (omega (arith, ints, clamps)) (All-weaker (λ (c : Crossing). b.0 <ℤ c.at) (λ (c : Crossing). l <ℤ c.at) (λ e k. omega (arith, ints, clamps, k)) cs b.3),
      All-cons (λ (c : Crossing). c.at ≤ℤ h) c cs (omega (arith, ints, clamps)) (All-weaker (λ (c : Crossing). c.at ≤ℤ b.1) (λ (c : Crossing). c.at ≤ℤ h) (λ e k. omega (arith, ints, clamps, k)) cs b.4),
    )

ascend_from-row : (low : ℤ) (rs : List Run) (high : ℤ) → IsRowBetween low rs high → ascend_from low rs ≡ true
ascend_from-row low [] high w = refl
ascend_from-row low (r ∷ rs) high w = rw (lt_true low r.from w.0, lt_true r.from r.to w.1, ascend_from-row r.to rs high w.2) refl

ascend-row : (low : ℤ) (rs : List Run) (high : ℤ) → IsRowBetween low rs high → ascend rs ≡ true
ascend-row low [] high w = refl
ascend-row low (r ∷ rs) high w = rw (lt_true r.from r.to w.1, ascend_from-row r.to rs high w.2) refl

pub finished : (cs : List Crossing) (d u : ℕ) (from : ℤ) (runs : List Run) → ((low : ℤ) → All (λ (c : Crossing). low <ℤ c.at) cs → Walked low cs d u from runs) → downs cs ≡ ups cs → IsRowOf cs runs
finished cs d u from runs h even =
    let b = bounded cs in
    let w = h b.0 b.3 in
    let e : d ≡ u = w.downs_is ∙ even ∙ sym w.ups_is in
    record {
      covers = λ i. sym (or_false (in_runs runs i)) ∙ ap (λ t. in_runs runs i || (not t && int_le from i)) (sym (eq-eqb d u e)) ∙ w.covers i;
      ascends = ascend-row b.0 runs b.1 (w.outer e b.1 b.2 b.4);
    }

-- the counts stay below the number of crossings
pub few : (cs : List Crossing) (k d u : ℕ) (from : ℤ) (runs : List Run) → ((low : ℤ) → All (λ (c : Crossing). low <ℤ c.at) cs → Walked low (take k cs) d u from runs) → k < length cs → (d + 1 ≤ length cs) × (u + 1 ≤ length cs)
few cs k d u from runs h l =
    let b = bounded cs in
    let w = h b.0 b.3 in
    let p = count_by-le-length (λ (c : Crossing). c.down) (take k cs) in
    let q = count_by-le-length (λ (c : Crossing). not c.down) (take k cs) in
    let n = length-take k cs in
    (omega (arith, p, n, w.downs_is), omega (arith, q, n, w.ups_is))

-- those before a crossing are no higher
pub before : (cs : List Crossing) (k : ℕ) (d : Crossing) → IsAscending cs → k < length cs → All (λ e. e.at ≤ℤ (get_or cs k d).at) (take k cs)
before cs k d up h = All-from_get_or (λ e. e.at ≤ℤ (get_or cs k d).at) (take k cs) d
    (λ i l. let m : i < k = omega (arith, l, length-take k cs) in rw (get_or-take k cs i d m) (up i k d (omega arith) h))

pub walk_more : (cs : List Crossing) (k : ℕ) (d : Crossing) (old new : RowCrossings) → IsAscending cs → k < length cs
    → ((low : ℤ) → All (λ (c : Crossing). low <ℤ c.at) cs → HasWalked low (take k cs) old) → Passes (get_or cs k d) old new
    → (low : ℤ) → All (λ (c : Crossing). low <ℤ c.at) cs → HasWalked low (take (k + 1) cs) new
walk_more cs k d old new up h w p low a = rw (take_more cs k d h) (p low (take k cs) (w low a) (All-get_or (λ (c : Crossing). low <ℤ c.at) cs k d h a) (before cs k d up h))
