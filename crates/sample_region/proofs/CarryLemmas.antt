-- Quotients and rests, carried from row to row.
use Rattle.std.proofs.Common.{◌≡◌, ℕ, suc, ◌+◌, ◌*◌, ◌/◌, ◌<◌, ◌≤◌, ℤ, pos, negsuc, neg_ℤ, ◌+ℤ◌, ◌-ℤ◌, ◌*ℤ◌, ◌≤ℤ◌, ◌<ℤ◌, ⊎_elim, refl, sym, ap, ◌∙◌, arith, Bool, true, false, cond, int_lt, FitsSigned, w32, w64, List, [], ◌∷◌, ◌++◌, All, length, get_or, take, drop, map, filter}
use Rattle.std.proofs.Math.Nat.{div-mul-le_self, lt-div-mul-add, mul-le-mul_left}
use Rattle.std.proofs.Math.IntN.{*ℤ_comm, +ℤ_one, suc_ℤ-*ℤ, zero-*ℤ}
use Rattle.std.proofs.lemmas.Int.{ints, by_lt_z}
use Rattle.std.specs.Int.{int_div_euclid}
use Rattle.ass_num.specs.declared.geometry.Point.{Point}
use Rattle.std.proofs.Math.ListN.{length-set, set}
use Rattle.std.proofs.lemmas.Bool.{cases_eq}
use Rattle.std.proofs.lemmas.List.{append-nil, drop_all, get_or-set_other, get_or-set_same, get_or_default, map-append, take_all, take_more}
use Rattle.std.proofs.lemmas.List.Elements.{All-cons, All-get_or, All-head, All-nil, All-push, All-tail}
use Rattle.ass_num.proofs.OrderLemmas.{lt_false, lt_true}
use Rattle.sample_region.specs.Carried.{AreCarriedTo, GoOnFrom, IsCarriedTo, cut_number, live_edges}
use Rattle.sample_region.specs.Crossings.{crossing_at, cut_of}
use Rattle.sample_region.specs.Edges.{IsCrossed, IsUprightPast, unended}
use Rattle.sample_region.specs.declared.carried.LiveEdge.{LiveEdge}
use Rattle.sample_region.specs.declared.edges.SweepEdge.{SweepEdge}
use Rattle.sample_region.proofs.SignedLemmas.{cut_within, mul_add, mul_lt}

-- ---- the quotient, and what is over
pub quotient_bounds : (n : ℤ) (k : ℕ) → 0 < k → ((int_div_euclid n (pos k) *ℤ pos k) ≤ℤ n) × (n <ℤ (int_div_euclid n (pos k) *ℤ pos k +ℤ pos k))
quotient_bounds (pos a) k p = let l = div-mul-le_self a k in let h = lt-div-mul-add {a = a} {b = k} p in (omega (arith, ints), omega (arith, ints))
quotient_bounds (negsuc a) k p =
    let l = div-mul-le_self a k in
    let h = lt-div-mul-add {a = a} {b = k} p in
    let e : negsuc (a / k) *ℤ pos k ≡ neg_ℤ (pos ((a / k + 1) * k)) = omega (arith, ints) in
    (omega (arith, ints), omega (arith, ints))

-- only one number is the quotient
pub quotient_is : (n q : ℤ) (k : ℕ) → 0 < k → (q *ℤ pos k) ≤ℤ n → n <ℤ (q *ℤ pos k +ℤ pos k) → q ≡ int_div_euclid n (pos k)
quotient_is n q k p low high =
    let r : ℤ = int_div_euclid n (pos k) in
    let b = quotient_bounds n k p in
    let b0 = b.0 in
    let b1 = b.1 in
    by_lt_z q r
    (λ (l : q <ℤ r). absurd (let m = mul_lt q r k l in omega (arith, ints)))
    (λ (l : r ≤ℤ q). by_lt_z r q
    (λ (h : r <ℤ q). absurd (let m = mul_lt r q k h in omega (arith, ints)))
    (λ (h : q ≤ℤ r). omega (arith, ints)))

-- a quotient is no greater than what is divided
pub quotient_near : (n q : ℤ) (k m : ℕ) → 0 < k → neg_ℤ (pos m) ≤ℤ n → n ≤ℤ pos m → (q *ℤ pos k) ≤ℤ n → n <ℤ (q *ℤ pos k +ℤ pos k) → (neg_ℤ (pos m) ≤ℤ q) × (q ≤ℤ pos m)
quotient_near n (pos a) k m p low high least most = let e : a * 1 ≤ a * k = mul-le-mul_left a p in (omega (arith, ints), omega (arith, ints))
quotient_near n (negsuc a) k m p low high least most =
    let e : a * 1 ≤ a * k = mul-le-mul_left a p in
    let f : negsuc a *ℤ pos k ≡ neg_ℤ (pos (a * k + k)) = omega (arith, ints) in
    (omega (arith, ints), omega (arith, ints))

-- the quotient and what is over, where the divisor is any number above 0
pub quotient_parts : (n d : ℤ) → pos 0 <ℤ d → ((int_div_euclid n d *ℤ d) ≤ℤ n) × (n <ℤ (int_div_euclid n d *ℤ d +ℤ d))
quotient_parts n (pos k) p = quotient_bounds n k (omega (arith, ints))
quotient_parts n (negsuc k) p = absurd (omega (arith, ints))

pub whole_near : (n d q : ℤ) (m : ℕ) → pos 0 <ℤ d → neg_ℤ (pos m) ≤ℤ n → n ≤ℤ pos m → (q *ℤ d) ≤ℤ n → n <ℤ (q *ℤ d +ℤ d) → (neg_ℤ (pos m) ≤ℤ q) × (q ≤ℤ pos m)
whole_near n (pos k) q m p low high least most = quotient_near n q k m (omega (arith, ints)) low high least most
whole_near n (negsuc k) q m p low high least most = absurd (omega (arith, ints))

-- a number above 0 is a natural number
pub from_positive : (d : ℤ) → pos 0 <ℤ d → (k : ℕ) × (0 < k) × (d ≡ pos k)
from_positive (pos k) p = (k, omega (arith, ints), refl)
from_positive (negsuc k) p = absurd (omega (arith, ints))

-- ---- one row
-- the number grows by four times the width from row to row
next_number : (a b : Point) (y : ℤ) → cut_number a b (y +ℤ pos 4) ≡ cut_number a b y +ℤ pos 4 *ℤ (b.x -ℤ a.x)
next_number a b y =
    let e : (y +ℤ pos 4) -ℤ a.y ≡ (y -ℤ a.y) +ℤ pos 4 = omega (arith, ints) in
    let f : (b.x -ℤ a.x) *ℤ ((y -ℤ a.y) +ℤ pos 4) ≡ (b.x -ℤ a.x) *ℤ (y -ℤ a.y) +ℤ pos 4 *ℤ (b.x -ℤ a.x) = spread (b.x -ℤ a.x) (y -ℤ a.y) in
    ap (λ z. (b.x -ℤ a.x) *ℤ z +ℤ (a.x +ℤ pos 2) *ℤ (b.y -ℤ a.y) -ℤ pos 1) e ∙ omega (arith, ints, f)
  where
    one_more : (z x : ℤ) → (z +ℤ pos 1) *ℤ x ≡ z *ℤ x +ℤ x
    one_more z x = ap (λ k. k *ℤ x) (+ℤ_one z) ∙ suc_ℤ-*ℤ z x

    spread : (x z : ℤ) → x *ℤ (z +ℤ pos 4) ≡ x *ℤ z +ℤ pos 4 *ℤ x
    spread x z =
        let e : z +ℤ pos 4 ≡ (((z +ℤ pos 1) +ℤ pos 1) +ℤ pos 1) +ℤ pos 1 = omega (arith, ints) in
        let a = one_more z x in
        let b = one_more (z +ℤ pos 1) x in
        let c = one_more ((z +ℤ pos 1) +ℤ pos 1) x in
        let d = one_more (((z +ℤ pos 1) +ℤ pos 1) +ℤ pos 1) x in
        *ℤ_comm x (z +ℤ pos 4) ∙ ap (λ k. k *ℤ x) e ∙ rw (*ℤ_comm x z) (omega (arith, ints))

sums : (q s g n : ℤ) (k : ℕ) (r t : ℤ) → q *ℤ pos k +ℤ r ≡ n → s *ℤ pos k +ℤ t ≡ g → (q +ℤ s) *ℤ pos k +ℤ (r +ℤ t) ≡ n +ℤ g
sums q s g n k r t e f = let m = mul_add q s k in omega (arith, ints)

sums_over : (q s g n : ℤ) (k : ℕ) (r t : ℤ) → q *ℤ pos k +ℤ r ≡ n → s *ℤ pos k +ℤ t ≡ g → ((q +ℤ s) +ℤ pos 1) *ℤ pos k +ℤ ((r +ℤ t) -ℤ pos k) ≡ n +ℤ g
sums_over q s g n k r t e f = let m = mul_add q s k in let o = mul_add (q +ℤ s) (pos 1) k in omega (arith, ints)

pub carried_on : (y : ℤ) (live new : LiveEdge) (k : ℕ) → live.divisor ≡ pos k → new.edge ≡ live.edge → new.divisor ≡ live.divisor → new.step ≡ live.step → new.step_over ≡ live.step_over → new.at ≡ live.at +ℤ live.step → new.over ≡ live.over +ℤ live.step_over → new.over <ℤ live.divisor
    → IsCrossed (y +ℤ pos 4) live.edge → IsCarriedTo y live → IsCarriedTo (y +ℤ pos 4) new
carried_on y live new k dk ee ed es eo ea er less crossed was =
    let m = sums live.at live.step (pos 4 *ℤ (live.edge.lower.x -ℤ live.edge.upper.x)) (cut_number live.edge.upper live.edge.lower y) k live.over live.step_over (rw dk at was.sum) (rw dk at was.step_sum) in
    let low = was.low in
    let step_low = was.step_low in
    record {
      crossed = rw ee crossed;
      divisor = rw (ee, ed) was.divisor;
      sum = rw (ee, ed, ea, er, dk) (m ∙ sym (next_number live.edge.upper live.edge.lower y));
      low = rw er (omega (arith, ints));
      high = rw ed less;
      step_sum = rw (ee, ed, es, eo) was.step_sum;
      step_low = rw eo step_low;
      step_high = rw (ed, eo) was.step_high;
    }

pub carried_over : (y : ℤ) (live new : LiveEdge) (k : ℕ) → live.divisor ≡ pos k → new.edge ≡ live.edge → new.divisor ≡ live.divisor → new.step ≡ live.step → new.step_over ≡ live.step_over → new.at ≡ (live.at +ℤ live.step) +ℤ pos 1
    → new.over ≡ (live.over +ℤ live.step_over) -ℤ live.divisor → live.divisor ≤ℤ (live.over +ℤ live.step_over) → IsCrossed (y +ℤ pos 4) live.edge → IsCarriedTo y live → IsCarriedTo (y +ℤ pos 4) new
carried_over y live new k dk ee ed es eo ea er more crossed was =
    let m = sums_over live.at live.step (pos 4 *ℤ (live.edge.lower.x -ℤ live.edge.upper.x)) (cut_number live.edge.upper live.edge.lower y) k live.over live.step_over (rw dk at was.sum) (rw dk at was.step_sum) in
    let high = was.high in
    let step_high = was.step_high in
    record {
      crossed = rw ee crossed;
      divisor = rw (ee, ed) was.divisor;
      sum = rw (ee, ed, ea, er, dk) (m ∙ sym (next_number live.edge.upper live.edge.lower y));
      low = rw er (omega (arith, ints));
      high = rw (ed, er) (omega (arith, ints));
      step_sum = rw (ee, ed, es, eo) was.step_sum;
      step_low = rw eo was.step_low;
      step_high = rw (ed, eo) step_high;
    }

-- ---- the crossing
pub carried_at : (y : ℤ) (live : LiveEdge) (k : ℕ) → 0 < k → live.divisor ≡ pos k → IsCarriedTo y live → live.at ≡ cut_of live.edge.upper live.edge.lower y
carried_at y live k p dk was =
    let sum = rw dk at was.sum in
    let low = was.low in
    let high = rw dk at was.high in
    let q = quotient_is (cut_number live.edge.upper live.edge.lower y) live.at k p (omega (arith, ints)) (omega (arith, ints)) in
    q ∙ ap (λ d. int_div_euclid (cut_number live.edge.upper live.edge.lower y) d) (sym dk ∙ was.divisor)

-- an upright edge crosses each of its rows alike
pub upright_carried : (y z : ℤ) (live : LiveEdge) → live.edge.upper.x ≡ live.edge.lower.x → IsCrossed z live.edge → IsCarriedTo y live → IsCarriedTo z live
upright_carried y z live e crossed was =
    let n : live.edge.lower.x -ℤ live.edge.upper.x ≡ pos 0 = omega (arith, ints) in
    let same : cut_number live.edge.upper live.edge.lower y ≡ cut_number live.edge.upper live.edge.lower z = rw (n, zero-*ℤ (y -ℤ live.edge.upper.y), zero-*ℤ (z -ℤ live.edge.upper.y)) refl in
    record {
      crossed = crossed;
      divisor = was.divisor;
      sum = was.sum ∙ same;
      low = was.low;
      high = was.high;
      step_sum = was.step_sum;
      step_low = was.step_low;
      step_high = was.step_high;
    }

-- ---- all edges
pub crossings_carried : (y : ℤ) (active : List LiveEdge) → AreCarriedTo y active → map (λ (live : LiveEdge). record { at = live.at; down = live.edge.down }) active ≡ map (crossing_at y) (live_edges active)
crossings_carried y [] all = refl
crossings_carried y (live ∷ active) all =
    let one : IsCarriedTo y live = All-head (IsCarriedTo y) live active all in
    let height : pos 0 <ℤ live.divisor = (let low = one.low in let high = one.high in omega (arith, ints)) in
    let k = from_positive live.divisor height in
    let e = carried_at y live k.0 k.1 k.2 one in
    rw e (ap (λ cs. crossing_at y live.edge ∷ cs) (crossings_carried y active (All-tail (IsCarriedTo y) live active all)))

-- those that are left after the ended ones are dropped go on
pub go_on : (y : ℤ) (active : List LiveEdge) → AreCarriedTo (y -ℤ pos 4) active → All (GoOnFrom (y -ℤ pos 4)) (filter (λ (live : LiveEdge). int_lt y live.edge.lower.y) active)
go_on y [] all = All-nil (GoOnFrom (y -ℤ pos 4))
go_on y (live ∷ active) all =
    let one : IsCarriedTo (y -ℤ pos 4) live = All-head (IsCarriedTo (y -ℤ pos 4)) live active all in
    let rest = go_on y active (All-tail (IsCarriedTo (y -ℤ pos 4)) live active all) in
    let here : (y -ℤ pos 4) +ℤ pos 4 ≡ y = omega (arith, ints) in
    by_lt_z y live.edge.lower.y
    (λ (l : y <ℤ live.edge.lower.y).
    let begun = one.crossed.begun in
    rw (lt_true y live.edge.lower.y l) (All-cons (GoOnFrom (y -ℤ pos 4)) live (filter (λ (e : LiveEdge). int_lt y e.edge.lower.y) active) (one, rw here (record { edge = one.crossed.edge; begun = omega (arith, ints); unended = l })) rest))
    (λ (l : live.edge.lower.y ≤ℤ y). rw (lt_false y live.edge.lower.y l) rest)

-- On a steady row all edges are upright and cross it, so they stand there already.
pub steady_carried : (y z : ℤ) (active : List LiveEdge) → y ≤ℤ z → All (IsUprightPast z) (live_edges active) → AreCarriedTo y active → AreCarriedTo z active
steady_carried y z [] l up all = All-nil (IsCarriedTo z)
steady_carried y z (live ∷ active) l up all =
    let one : IsCarriedTo y live = All-head (IsCarriedTo y) live active all in
    let u = All-head (IsUprightPast z) live.edge (live_edges active) up in
    let begun = one.crossed.begun in
    All-cons (IsCarriedTo z) live active (upright_carried y z live u.0 (record { edge = one.crossed.edge; begun = omega (arith, ints); unended = u.1 }) one)
    (steady_carried y z active l (All-tail (IsUprightPast z) live.edge (live_edges active) up) (All-tail (IsCarriedTo y) live active all))

-- edges are dropped alike with and without what is carried
live_edges-cond : (b : Bool) (live : LiveEdge) (rest : List LiveEdge) (edges : List SweepEdge) → live_edges rest ≡ edges → live_edges (cond b (live ∷ rest) rest) ≡ cond b (live.edge ∷ edges) edges
live_edges-cond true live rest edges e = ap (λ es. live.edge ∷ es) e
live_edges-cond false live rest edges e = e

pub live_edges-filter : (y : ℤ) (active : List LiveEdge) → live_edges (filter (λ (live : LiveEdge). int_lt y live.edge.lower.y) active) ≡ unended y (live_edges active)
live_edges-filter y [] = refl
live_edges-filter y (live ∷ active) =
    live_edges-cond (int_lt y live.edge.lower.y) live (filter (λ (e : LiveEdge). int_lt y e.edge.lower.y) active) (unended y (live_edges active)) (live_edges-filter y active)

-- an edge is taken in, unless it ends above the row
pub taken : (y : ℤ) (e : SweepEdge) (live : LiveEdge) (old : List LiveEdge) → live.edge ≡ e → y <ℤ e.lower.y → live_edges (old ++ live ∷ []) ≡ live_edges old ++ cond (int_lt y e.lower.y) (e ∷ []) []
taken y e live old same l = rw (lt_true y e.lower.y l) (map-append (λ (x : LiveEdge). x.edge) old (live ∷ []) ∙ ap (λ x. live_edges old ++ x ∷ []) same)

pub not_taken : (y : ℤ) (e : SweepEdge) (old : List LiveEdge) → e.lower.y ≤ℤ y → live_edges old ≡ live_edges old ++ cond (int_lt y e.lower.y) (e ∷ []) []
not_taken y e old l = rw (lt_false y e.lower.y l) (sym (append-nil (live_edges old)))

-- ---- all edges move on, one after another
pub record HasMovedOn (k : ℕ) (start now : List LiveEdge) : Type 0 where
  pub count : length now ≡ length start
  pub edges : (n : ℕ) (d : LiveEdge) → (get_or now n d).edge ≡ (get_or start n d).edge
  pub rest : (n : ℕ) (d : LiveEdge) → k ≤ n → get_or now n d ≡ get_or start n d
  pub carried : (y : ℤ) (n : ℕ) (d : LiveEdge) → n < k → n < length start → GoOnFrom y (get_or start n d) → IsCarriedTo (y +ℤ pos 4) (get_or now n d)

pub moved_none : (start : List LiveEdge) → HasMovedOn 0 start start
moved_none start = record {
  count = refl;
  edges = λ n d. refl;
  rest = λ n d l. refl;
  carried = λ y n d l. absurd (omega arith);
}

pub moved_more : (k : ℕ) (start now : List LiveEdge) (new d : LiveEdge) → k < length now → new.edge ≡ (get_or now k d).edge → ((y : ℤ) → GoOnFrom y (get_or now k d) → IsCarriedTo (y +ℤ pos 4) new) → HasMovedOn k start now → HasMovedOn (k + 1) start (set now k new)
moved_more k start now new d l same carried old =
    let c = old.count in
    let more = length-set now k new in
    record {
      count = omega arith;
      edges = λ n e. ⊎_elim
          (λ (h : n ≡ k). rw (h, get_or-set_same now k new e l) (same ∙ ap (λ (x : LiveEdge). x.edge) (get_or_default now k d e l) ∙ old.edges k e))
          (λ ne. rw (get_or-set_other now k n new e ne) (old.edges n e))
          (cases_eq n k);
      rest = λ n e h. let ne : n ≡ k → ⊥ = λ same. omega arith in rw (get_or-set_other now k n new e ne) (old.rest n e (omega arith));
      carried = λ y n e h w go. ⊎_elim
          (λ (here : n ≡ k).
          let was : get_or now k d ≡ get_or start n e = get_or_default now k d e l ∙ old.rest k e (omega arith) ∙ ap (λ m. get_or start m e) (sym here) in
          rw (here, get_or-set_same now k new e l) (carried y (rw was go)))
          (λ ne. rw (get_or-set_other now k n new e ne) (old.carried y n e (omega (arith, ne)) w go))
          (cases_eq n k);
    }

same_edges : (xs ys : List LiveEdge) → length xs ≡ length ys → ((n : ℕ) (d : LiveEdge) → (get_or xs n d).edge ≡ (get_or ys n d).edge) → live_edges xs ≡ live_edges ys
same_edges [] [] c h = refl
same_edges [] (y ∷ ys) c h = absurd (omega arith)
same_edges (x ∷ xs) [] c h = absurd (omega arith)
same_edges (x ∷ xs) (y ∷ ys) c h = let rest = same_edges xs ys (omega arith) (λ n d. h (suc n) d) in rw (h 0 x, rest) refl

pub moved_edges : (k : ℕ) (start now : List LiveEdge) → HasMovedOn k start now → live_edges now ≡ live_edges start
moved_edges k start now h = same_edges now start h.count h.edges

pub moved_all : (k : ℕ) (start now : List LiveEdge) (y : ℤ) → length start ≤ k → HasMovedOn k start now → All (GoOnFrom y) start → AreCarriedTo (y +ℤ pos 4) now
moved_all k start now y past h all n d l =
    let c = h.count in
    let w : n < length start = omega arith in
    h.carried y n d (omega arith) w (All-get_or (GoOnFrom y) start n d w all)

-- ---- what the sums of one row keep to
pub cut_near : (y : ℤ) (live : LiveEdge) → IsCarriedTo y live → (negsuc 65535 ≤ℤ live.at) × (live.at ≤ℤ pos 65536)
cut_near y live was =
    let edge = was.crossed.edge in
    let u = edge.upper in
    let v = edge.lower in
    let begun = was.crossed.begun in
    let unended = was.crossed.unended in
    let low = was.low in
    let high = was.high in
    let k = from_positive live.divisor (omega (arith, ints)) in
    rw (carried_at y live k.0 k.1 k.2 was)
    (cut_within live.edge.upper.x live.edge.lower.x (y -ℤ live.edge.upper.y) (live.edge.lower.y -ℤ live.edge.upper.y) (omega (arith, ints)) (omega (arith, ints)) (omega (arith, ints)) (omega (arith, ints)) (omega (arith, ints)) (omega (arith, ints)))

-- what is over stays below the divisor
pub next_over : (y : ℤ) (live : LiveEdge) → GoOnFrom y live → (pos 0 ≤ℤ (live.over +ℤ live.step_over)) × ((live.over +ℤ live.step_over) ≤ℤ pos 4194304) × (live.divisor ≤ℤ pos 2097152) × (pos 0 <ℤ live.divisor)
next_over y live g =
    let was = g.0 in
    let edge = was.crossed.edge in
    let u = edge.upper in
    let v = edge.lower in
    let d = was.divisor in
    let low = was.low in
    let high = was.high in
    let step_low = was.step_low in
    let step_high = was.step_high in
    (omega (arith, ints), omega (arith, ints), omega (arith, ints), omega (arith, ints))

-- so does where it crosses
pub next_at : (y : ℤ) (live : LiveEdge) → (live.over +ℤ live.step_over) <ℤ live.divisor → GoOnFrom y live → (negsuc 65535 ≤ℤ (live.at +ℤ live.step)) × ((live.at +ℤ live.step) ≤ℤ pos 65536)
next_at y live less g =
    let o = next_over y live g in
    let o3 = o.3 in
    let k = from_positive live.divisor o3 in
    let new : LiveEdge = record live { at = live.at +ℤ live.step; over = live.over +ℤ live.step_over } in
    cut_near (y +ℤ pos 4) new (carried_on y live new k.0 k.2 refl refl refl refl refl refl less g.1 g.0)

pub next_at_over : (y : ℤ) (live : LiveEdge) → live.divisor ≤ℤ (live.over +ℤ live.step_over) → GoOnFrom y live → (negsuc 65535 ≤ℤ ((live.at +ℤ live.step) +ℤ pos 1)) × (((live.at +ℤ live.step) +ℤ pos 1) ≤ℤ pos 65536)
next_at_over y live more g =
    let o = next_over y live g in
    let o3 = o.3 in
    let k = from_positive live.divisor o3 in
    let new : LiveEdge = record live { at = (live.at +ℤ live.step) +ℤ pos 1; over = (live.over +ℤ live.step_over) -ℤ live.divisor } in
    cut_near (y +ℤ pos 4) new (carried_over y live new k.0 k.2 refl refl refl refl refl refl more g.1 g.0)

-- what is over once the divisor is taken off
pub over_less : (y : ℤ) (live : LiveEdge) → live.divisor ≤ℤ (live.over +ℤ live.step_over) → GoOnFrom y live → FitsSigned w64 ((live.over +ℤ live.step_over) -ℤ live.divisor)
over_less y live more g =
    let o = next_over y live g in
    let o1 = o.1 in
    let o3 = o.3 in
    omega (arith, ints)

-- such numbers fit a sample's type
pub fits_sample : (z : ℤ) → negsuc 65535 ≤ℤ z → z ≤ℤ pos 65536 → FitsSigned w32 z
fits_sample z low high = omega (arith, ints)

pub fits_before : (z : ℤ) → negsuc 65535 ≤ℤ (z +ℤ pos 1) → (z +ℤ pos 1) ≤ℤ pos 65536 → FitsSigned w32 z
fits_before z low high = omega (arith, ints)

abbrev pub no_live : LiveEdge
no_live = record { edge = record { upper = record { x = pos 0; y = pos 0 }; lower = record { x = pos 0; y = pos 0 }; down = false }; at = pos 0; over = pos 0; step = pos 0; step_over = pos 0; divisor = pos 0 }

-- one more edge stands upright
pub upright_more : (y : ℤ) (active : List LiveEdge) (k : ℕ) (d : LiveEdge) → k < length active → All (IsUprightPast y) (live_edges (take k active)) → IsUprightPast y (get_or active k d).edge → All (IsUprightPast y) (live_edges (take (k + 1) active))
upright_more y active k d l all this =
    rw (take_more active k d l, map-append (λ (live : LiveEdge). live.edge) (take k active) (get_or active k d ∷ [])) (All-push (IsUprightPast y) (live_edges (take k active)) (get_or active k d).edge all this)

-- what stands behind the written items is left of the old ones, none
pub all_written : (n : ℕ) (new old : List LiveEdge) → length new ≡ length old → n ≡ length old → take n (new ++ drop (length new) old) ≡ new
all_written n new old same whole = ap (λ xs. take n (new ++ xs)) (drop_all (length new) old (omega arith)) ∙ ap (take n) (append-nil new) ∙ take_all n new (omega arith)
