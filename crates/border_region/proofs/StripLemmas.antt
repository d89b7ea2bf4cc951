-- Strips of runs, each of which goes on in the next row.
use Rattle.std.proofs.Common.{◌≡◌, ℕ, zero, suc, ◌+◌, ◌-◌, ◌<◌, ◌≤◌, Bool, true, false, ℤ, pos, neg_ℤ, ◌≤ℤ◌, ◌<ℤ◌, ⊎_elim, refl, sym, ap, ◌∙◌, arith, int_lt, List, [], ◌∷◌, ◌++◌, length, get_or, All}
use Rattle.std.specs.Bool.{MatchBool}
use Rattle.std.proofs.lemmas.Int.{ints}
use Rattle.std.proofs.lemmas.Bool.{cases_lt}
use Rattle.std.proofs.lemmas.List.{get_or_append_left, get_or_default, get_or_push, get_or_past, length_push}
use Rattle.std.specs.List.Sorted.{IsPartitionedBy, IsPartitionPoint}
use Rattle.std.proofs.lemmas.List.Elements.{All-get_or}
use Rattle.ass_num.specs.Limits.{IsRunWithin, IsWithin}
use Rattle.ass_num.specs.Regions.{ascend}
use Rattle.ass_num.specs.declared.region.Run.{Run}
use Rattle.ass_num.proofs.OrderLemmas.{lt_is, lt_not, lt_true}
use Rattle.ass_num.proofs.RegionLemmas.{first_ascends, ascends_parts, rest_ascends, run_at}
use Rattle.border_region.specs.Keys.{key_at}
use Rattle.border_region.specs.Strips.{AreBefore, AreSidesOf, DoMeet, DoSidesMeet, EndsShortOf, FollowsOne, GoesOn, BeginsStrip, IsStrip, IsStripFrom, StripHas, no_run, run_in, runs_of_row}

-- ---- runs of a row
-- a run ends before the next one begins
next_begins : (runs : List Run) (n : ℕ) → ascend runs ≡ true → n + 1 < length runs → (run_in runs n).to <ℤ (run_in runs (n + 1)).from
next_begins [] n up l = absurd (omega arith)
next_begins (r ∷ []) n up l = absurd (omega arith)
next_begins (r ∷ s ∷ rs) zero up l = (ascends_parts r.to s rs (first_ascends r (s ∷ rs) up).1).0
next_begins (r ∷ s ∷ rs) (suc n) up l = let e : suc n + 1 ≡ suc (n + 1) = omega arith in rw e (next_begins (s ∷ rs) n (rest_ascends r (s ∷ rs) up) (omega arith))

-- so later runs end later
ends_later : (runs : List Run) (d n : ℕ) → ascend runs ≡ true → n + d < length runs → (run_in runs n).to ≤ℤ (run_in runs (n + d)).to
ends_later runs zero n up l = let e : n + 0 ≡ n = omega arith in rw e (omega (arith, ints))
ends_later runs (suc d) n up l =
    let e : n + suc d ≡ (n + d) + 1 = omega arith in
    let before = ends_later runs d n up (omega arith) in
    let next = next_begins runs (n + d) up (omega arith) in
    let full = run_at runs ((n + d) + 1) no_run up (omega arith) in
    rw e (omega (arith, ints))

pub no_later_ends : (runs : List Run) (m n : ℕ) → ascend runs ≡ true → m ≤ n → n < length runs → (run_in runs m).to ≤ℤ (run_in runs n).to
no_later_ends runs m n up l h = let e : m + (n - m) ≡ n = omega arith in rw e at (ends_later runs (n - m) m up (omega arith))

-- what `partition_point` asks, and gives
pub are_parted : (runs : List Run) (place : ℤ) → ascend runs ≡ true → IsPartitionedBy (λ (run : Run). int_lt run.to place) runs
are_parted runs place up m n d l h e =
    let a = lt_is (get_or runs n d).to place e in
    let b = rw (get_or_default runs n no_run d h, get_or_default runs m no_run d (omega arith)) at (no_later_ends runs m n up l h) in
    lt_true (get_or runs m d).to place (omega (arith, ints))

pub are_before : (runs : List Run) (place : ℤ) (count : ℕ) → count ≤ length runs → IsPartitionPoint (λ (run : Run). int_lt run.to place ≡ true) (λ (run : Run). int_lt run.to place ≡ false) runs count → AreBefore place runs count
are_before runs place count l p = record {
  within = l;
  before = λ n h. lt_is (run_in runs n).to place (p.0 n no_run (omega arith) h);
  after = λ n h k. lt_not (run_in runs n).to place (p.1 n no_run h k);
}

-- Runs that end before a place come first. So where a run meets one that begins at the place, and the run before it ends before the place, so many runs end before it.
place_of_first : (runs : List Run) (place : ℤ) (count n : ℕ) → ascend runs ≡ true → AreBefore place runs count → n < length runs → place ≤ℤ (run_in runs n).to → EndsShortOf runs n place → n ≡ count
place_of_first runs place count n up are l reaches first = ⊎_elim
    (λ (a : n < count). absurd (let b = are.before n a in omega (arith, ints)))
    (λ (a : count ≤ n). ⊎_elim
    (λ (b : count < n).
    let last = first (n - 1) (omega arith) in
    let far = no_later_ends runs count (n - 1) up (omega arith) (omega arith) in
    let enough = are.after count (omega arith) (omega arith) in
    absurd (omega (arith, ints)))
    (λ (b : n ≤ count). omega arith)
    (cases_lt count n))
    (cases_lt n count)

-- ---- the tests
pub ends_if : (runs : List Run) (n : ℕ) (place : ℤ) (r : Bool) → 0 < n → r ≡ int_lt (run_in runs (n - 1)).to place → MatchBool r (EndsShortOf runs n place) (EndsShortOf runs n place → ⊥)
ends_if runs n place true some e = λ m h. let here : m ≡ n - 1 = omega arith in rw here (lt_is (run_in runs (n - 1)).to place (sym e))
ends_if runs n place false some e = λ all. let a = all (n - 1) (omega arith) in let b = lt_not (run_in runs (n - 1)).to place (sym e) in omega (arith, ints)

pub goes_on_if : (above : List Run) (p : ℕ) (below : List Run) (n : ℕ) (r : Bool) → p < length above → n < length below → DoMeet (run_in above p) (run_in below n) → EndsShortOf above p (run_in below n).from
    → MatchBool r (EndsShortOf below n (run_in above p).from) (EndsShortOf below n (run_in above p).from → ⊥) → MatchBool r (GoesOn above p below n) (GoesOn above p below n → ⊥)
goes_on_if above p below n true la lb meet first e = record { from = la; to = lb; meet = meet; first_above = first; first_below = e }
goes_on_if above p below n false la lb meet first e = λ g. e g.first_below

-- whether a strip begins in a row that has one above it
pub begins_if : (rows : List (List Run)) (k n : ℕ) (r : Bool) → 0 < k → MatchBool r ((p : ℕ) → GoesOn (runs_of_row rows (k - 1)) p (runs_of_row rows k) n → ⊥) ((p : ℕ) × GoesOn (runs_of_row rows (k - 1)) p (runs_of_row rows k) n)
    → MatchBool r (BeginsStrip rows k n) (FollowsOne rows k n)
begins_if rows k n true some e = λ y p at g. let here : y ≡ k - 1 = omega arith in e p (rw here at g)
begins_if rows k n false some e = (k - 1, e.0, (let at : (k - 1) + 1 ≡ k = omega arith in at), e.1)

-- ---- a run goes on in one run, and one run goes on in it
pub goes_on_below : (above : List Run) (p : ℕ) (below : List Run) (n count : ℕ) → ascend below ≡ true → AreBefore (run_in above p).from below count → GoesOn above p below n → n ≡ count
goes_on_below above p below n count up are g = place_of_first below (run_in above p).from count n up are g.to g.meet.0 g.first_below

pub goes_on_above : (above : List Run) (p : ℕ) (below : List Run) (n count : ℕ) → ascend above ≡ true → AreBefore (run_in below n).from above count → GoesOn above p below n → p ≡ count
goes_on_above above p below n count up are g = place_of_first above (run_in below n).from count p up are g.from g.meet.1 g.first_above

same_next : (above : List Run) (p : ℕ) (below : List Run) (m n : ℕ) → ascend below ≡ true → GoesOn above p below m → GoesOn above p below n → m ≡ n
same_next above p below m n up a b = ⊎_elim
    (λ (l : m < n). absurd (let f = b.first_below (n - 1) (omega arith) in let e = no_later_ends below m (n - 1) up (omega arith) (let t = b.to in omega arith) in let x = a.meet.0 in omega (arith, ints)))
    (λ (l : n ≤ m). ⊎_elim
    (λ (h : n < m). absurd (let f = a.first_below (m - 1) (omega arith) in let e = no_later_ends below n (m - 1) up (omega arith) (let t = a.to in omega arith) in let x = b.meet.0 in omega (arith, ints)))
    (λ (h : m ≤ n). omega arith)
    (cases_lt n m))
    (cases_lt m n)

-- ---- from row to row
-- a strip has one run a row
pub has_one : (rows : List (List Run)) (k n d m q : ℕ) → ((y : ℕ) → ascend (runs_of_row rows y) ≡ true) → StripHas rows k n d m → StripHas rows k n d q → m ≡ q
has_one rows k n zero m q up a b = a.0 ∙ sym b.0
has_one rows k n (suc d) m q up a b =
    let e : a.0 ≡ b.0 = has_one rows k n d a.0 b.0 up a.1 b.1 in
    same_next (runs_of_row rows (k + d)) b.0 (runs_of_row rows (k + suc d)) m q (up (k + suc d)) (rw e at a.2) b.2

-- which lies in its row
pub has_within : (rows : List (List Run)) (k n d m : ℕ) → StripHas rows k n d m → m < length (runs_of_row rows (k + d))
has_within rows k n zero m h = let e : k + 0 ≡ k = omega arith in rw (e, h.0) h.1
has_within rows k n (suc d) m h = h.2.to

-- The strip that begins with a run that goes on in another has all runs of the strip that would begin with that one.
pub has_from_above : (rows : List (List Run)) (y p k n d m : ℕ) → y + 1 ≡ k → GoesOn (runs_of_row rows y) p (runs_of_row rows k) n → StripHas rows k n d m → StripHas rows y p (suc d) m
has_from_above rows y p k n zero m e g h =
    let here : y + 0 ≡ y = omega arith in
    let next : y + suc 0 ≡ k = omega arith in
    (p, (refl, g.from), rw (here, next, h.0) g)
has_from_above rows y p k n (suc d) m e g h =
    let here : y + suc d ≡ k + d = omega arith in
    let next : y + suc (suc d) ≡ k + suc d = omega arith in
    (h.0, has_from_above rows y p k n d h.0 e g h.1, rw (here, next) h.2)

-- ---- a strip while it is followed down
abbrev run_there : List (List Run) → ℕ → ℕ → Run
run_there rows row at = run_in (runs_of_row rows row) at

pub record HasFollowed (rows : List (List Run)) (k n row at : ℕ) (lefts rights : List ℤ) : Type 0 where
  pub place : k + length lefts ≡ row
  pub same : length rights ≡ length lefts
  pub has : StripHas rows k n (length lefts) at
  pub full : (d : ℕ) → d < length lefts → key_at lefts d <ℤ neg_ℤ (key_at rights d)
  pub meet : (d : ℕ) → d + 1 < length lefts → DoSidesMeet lefts rights d
  pub last : (d : ℕ) → d + 1 ≡ length lefts → (key_at lefts d ≤ℤ (run_in (runs_of_row rows row) at).to) × ((run_in (runs_of_row rows row) at).from ≤ℤ neg_ℤ (key_at rights d))
  pub held : (d : ℕ) → d < length lefts → (m : ℕ) × StripHas rows k n d m × AreSidesOf (run_in (runs_of_row rows (k + d)) m) lefts rights d

pub followed_none : (rows : List (List Run)) (k n : ℕ) → n < length (runs_of_row rows k) → HasFollowed rows k n k n [] []
followed_none rows k n l = record {
  place = omega arith;
  same = refl;
  has = (refl, l);
  full = λ d h. absurd (omega arith);
  meet = λ d h. absurd (omega arith);
  last = λ d h. absurd (omega arith);
  held = λ d h. absurd (omega arith);
}

-- the run of the row is added, as all of it that the strip keeps
record HasPushed (rows : List (List Run)) (k n row at : ℕ) (lefts rights : List ℤ) : Type 0 where
  pub some : 0 < length lefts
  pub place : k + length lefts ≡ row + 1
  pub has : StripHas rows k n (length lefts - 1) at
  pub strip : IsStrip lefts rights
  pub held : (d : ℕ) → d < length lefts → (m : ℕ) × StripHas rows k n d m × AreSidesOf (run_in (runs_of_row rows (k + d)) m) lefts rights d

side_before : (side : List ℤ) (place : ℤ) (d : ℕ) → d < length side → key_at (side ++ place ∷ []) d ≡ key_at side d
side_before side place d l = get_or_append_left side (place ∷ []) (pos 0) d l

side_last : (side : List ℤ) (place : ℤ) (d : ℕ) → length side ≡ d → key_at (side ++ place ∷ []) d ≡ place
side_last side place d e = get_or_push side place (pos 0) d e

pushed : (rows : List (List Run)) (k n row at : ℕ) (lefts rights : List ℤ) → ((y : ℕ) → ascend (runs_of_row rows y) ≡ true) → HasFollowed rows k n row at lefts rights
    → HasPushed rows k n row at (lefts ++ (run_there rows row at).from ∷ []) (rights ++ neg_ℤ (run_there rows row at).to ∷ [])
pushed rows k n row at lefts rights up old =
    let run : Run = run_in (runs_of_row rows row) at in
    let here : k + length lefts ≡ row = old.place in
    let same = old.same in
    let ml = length_push lefts run.from in
    let mr = length_push rights (neg_ℤ run.to) in
    let within : at < length (runs_of_row rows row) = rw here at (has_within rows k n (length lefts) at old.has) in
    let full : run.from <ℤ run.to = run_at (runs_of_row rows row) at no_run (up row) within in
    let twice : neg_ℤ (neg_ℤ run.to) ≡ run.to = omega (arith, ints) in
    let count : length (lefts ++ run.from ∷ []) - 1 ≡ length lefts = omega arith in
    record {
      some = omega arith;
      place = omega arith;
      has = rw count old.has;
      strip = record {
        some = omega arith;
        same = omega arith;
        full = λ d l. ⊎_elim
            (λ (a : d < length lefts). rw (side_before lefts run.from d a, side_before rights (neg_ℤ run.to) d (omega arith)) (old.full d a))
            (λ (a : length lefts ≤ d). rw (side_last lefts run.from d (omega arith), side_last rights (neg_ℤ run.to) d (omega arith), twice) full)
            (cases_lt d (length lefts));
        meet = λ d l. ⊎_elim
            (λ (a : d + 1 < length lefts).
            rw (side_before lefts run.from d (omega arith), side_before lefts run.from (d + 1) a, side_before rights (neg_ℤ run.to) d (omega arith), side_before rights (neg_ℤ run.to) (d + 1) (omega arith)) (old.meet d a))
            (λ (a : length lefts ≤ d + 1).
            let last = old.last d (omega arith) in
            rw (side_before lefts run.from d (omega arith), side_last lefts run.from (d + 1) (omega arith), side_before rights (neg_ℤ run.to) d (omega arith), side_last rights (neg_ℤ run.to) (d + 1) (omega arith), twice) last)
            (cases_lt (d + 1) (length lefts));
      };
      held = λ d l. ⊎_elim
          (λ (a : d < length lefts).
          let q = old.held d a in
          (q.0, q.1, (side_before lefts run.from d a ∙ q.2.0, side_before rights (neg_ℤ run.to) d (omega arith) ∙ q.2.1)))
          (λ (a : length lefts ≤ d).
          let e : d ≡ length lefts = omega arith in
          (at, rw e old.has, rw (e, here) (side_last lefts run.from (length lefts) refl, side_last rights (neg_ℤ run.to) (length lefts) (omega arith))))
          (cases_lt d (length lefts));
    }

-- it goes on in the next row ..
pub followed_more : (rows : List (List Run)) (k n row at next : ℕ) (lefts rights : List ℤ) → ((y : ℕ) → ascend (runs_of_row rows y) ≡ true) → GoesOn (runs_of_row rows row) at (runs_of_row rows (row + 1)) next → HasFollowed rows k n row at lefts rights
    → HasFollowed rows k n (row + 1) next (lefts ++ (run_there rows row at).from ∷ []) (rights ++ neg_ℤ (run_there rows row at).to ∷ [])
followed_more rows k n row at next lefts rights up g old =
    let run : Run = run_in (runs_of_row rows row) at in
    let p = pushed rows k n row at lefts rights up old in
    let same = old.same in
    let here : k + length lefts ≡ row = old.place in
    let ml = length_push lefts run.from in
    let mr = length_push rights (neg_ℤ run.to) in
    let twice : neg_ℤ (neg_ℤ run.to) ≡ run.to = omega (arith, ints) in
    let count : length (lefts ++ run.from ∷ []) ≡ suc (length lefts) = omega arith in
    let below : k + suc (length lefts) ≡ row + 1 = omega arith in
    record {
      place = omega arith;
      same = omega arith;
      has = rw count (at, old.has, rw (here, below) g);
      full = p.strip.full;
      meet = p.strip.meet;
      last = λ d e. rw (side_last lefts run.from d (omega arith), side_last rights (neg_ℤ run.to) d (omega arith), twice) g.meet;
      held = p.held;
    }

-- .. or ends with the row.
pub followed_all : (rows : List (List Run)) (k n row at : ℕ) (lefts rights : List ℤ) → ((y : ℕ) → ascend (runs_of_row rows y) ≡ true) → ((m : ℕ) → GoesOn (runs_of_row rows row) at (runs_of_row rows (row + 1)) m → ⊥) → HasFollowed rows k n row at lefts rights
    → IsStripFrom rows k n (lefts ++ (run_there rows row at).from ∷ []) (rights ++ neg_ℤ (run_there rows row at).to ∷ [])
followed_all rows k n row at lefts rights up ends old = record {
  strip = p.strip;
  held = p.held;
  all = λ d m h.
      let l : d < length (lefts ++ run.from ∷ []) = within d m h in
      let q = p.held d l in
      let e : q.0 ≡ m = has_one rows k n d q.0 m up q.1 h in
      (l, rw e at q.2);
}
  where
    run : Run
    run = run_in (runs_of_row rows row) at

    p : HasPushed rows k n row at (lefts ++ run.from ∷ []) (rights ++ neg_ℤ run.to ∷ [])
    p = pushed rows k n row at lefts rights up old

    -- no run comes after the last one
    beyond : (d m : ℕ) → StripHas rows k n (length lefts + suc d) m → ⊥
    beyond zero m h =
        let e : length lefts + suc zero ≡ suc (length lefts) = omega arith in
        let g = rw e at h in
        let here : k + length lefts ≡ row = old.place in
        let same : g.0 ≡ at = has_one rows k n (length lefts) g.0 at up g.1 old.has in
        let below : k + suc (length lefts) ≡ row + 1 = omega arith in
        ends m (rw (same, here, below) at g.2)
    beyond (suc d) m h = let e : length lefts + suc (suc d) ≡ suc (length lefts + suc d) = omega arith in let g = rw e at h in beyond d g.0 g.1

    within : (d m : ℕ) → StripHas rows k n d m → d < length (lefts ++ run.from ∷ [])
    within d m h =
        let ml = length_push lefts run.from in
        ⊎_elim
        (λ (a : d < length lefts + 1). omega arith)
        (λ (a : length lefts + 1 ≤ d). let e : length lefts + suc (d - (length lefts + 1)) ≡ d = omega arith in absurd (beyond (d - (length lefts + 1)) m (rw e h)))
        (cases_lt d (length lefts + 1))

-- no run lies past the last row
pub no_run_past : (rows : List (List Run)) (y at : ℕ) → length rows ≤ y → at < length (runs_of_row rows y) → ⊥
no_run_past rows y at past l = let e = ap length (get_or_past rows y [] past) in omega arith

-- ---- the sides of a strip are places of samples
pub sides_within : (limit : ℕ) (rows : List (List Run)) (k n : ℕ) (lefts rights : List ℤ) → All (All (IsRunWithin limit)) rows → IsStripFrom rows k n lefts rights → (d : ℕ) → d < length lefts → IsWithin (limit + 1) (key_at lefts d) × IsWithin (limit + 1) (key_at rights d)
sides_within limit rows k n lefts rights all s d l =
    let h = s.held d l in
    let m = has_within rows k n d h.0 h.1 in
    let run : Run = run_in (runs_of_row rows (k + d)) h.0 in
    let within : IsRunWithin limit run = All-get_or (IsRunWithin limit) (runs_of_row rows (k + d)) h.0 no_run m (row_limit (k + d) (filled (k + d) h.0 m)) in
    let full = s.strip.full d l in
    let left = within.left in
    let right = within.right in
    let from = h.2.0 in
    let to = h.2.1 in
    ((omega (arith, ints), omega (arith, ints)), (omega (arith, ints), omega (arith, ints)))
  where
    filled : (y m : ℕ) → m < length (runs_of_row rows y) → y < length rows
    filled y m h = ⊎_elim (λ (a : y < length rows). a) (λ (a : length rows ≤ y). absurd (no_run_past rows y m a h)) (cases_lt y (length rows))

    row_limit : (y : ℕ) → y < length rows → All (IsRunWithin limit) (runs_of_row rows y)
    row_limit y h = All-get_or (All (IsRunWithin limit)) rows y [] h all

-- nor a row of a strip
pub strip_rows_within : (rows : List (List Run)) (k n : ℕ) (lefts rights : List ℤ) → IsStripFrom rows k n lefts rights → k + length lefts ≤ length rows
strip_rows_within rows k n lefts rights s =
    let some = s.strip.some in
    let h = s.held (length lefts - 1) (omega arith) in
    let m = has_within rows k n (length lefts - 1) h.0 h.1 in
    ⊎_elim
    (λ (a : k + (length lefts - 1) < length rows). omega arith)
    (λ (a : length rows ≤ k + (length lefts - 1)). absurd (no_run_past rows (k + (length lefts - 1)) h.0 a m))
    (cases_lt (k + (length lefts - 1)) (length rows))
