-- How far a side reaches in each row, row by row of the side.
use Rattle.std.proofs.Common.{◌≡◌, ℕ, ◌+◌, ◌-◌, ◌*◌, ◌<◌, ◌≤◌, ℤ, pos, negsuc, ◌-ℤ◌, ◌≤ℤ◌, ◌⊎◌, inl, inr, ⊎_elim, refl, sym, ap, ◌∙◌, arith, List, [], ◌∷◌, ◌++◌, length, length-append, get_or, slice_index, map, take, drop, append_assoc}
use Rattle.std.proofs.lemmas.Int.{ints}
use Rattle.std.proofs.lemmas.Bool.{cases_lt, cases_eq}
use Rattle.std.proofs.lemmas.List.{get_or_append_left, get_or-append_right, get_or-map, get_or-take, get_or-drop, get_or_push, length-drop, length-map, length-take-le, length_push, map-append, take_all, take_more}
use Rattle.ass_num.specs.Limits.{IsWithin, max_sample}
use Rattle.border_region.specs.Ellipse.{AreFalling}
use Rattle.border_region.specs.Keys.{key_at}
use Rattle.border_region.specs.Limits.{max_radius}
use Rattle.border_region.specs.Reach.{AreLeast, AreLowered, AreReached, IsDoneAbove, IsDoneBelow, IsProfile, IsProfileOf, IsRowAt, IsSide, IsWideSide, IsWidenedSide}

-- ---- the profile
row_at_same : (middle d e p : ℕ) → IsRowAt middle d p → IsRowAt middle e p → d ≡ e
row_at_same middle d e p a b =
    ⊎_elim
    (λ (x : p ≡ middle + d). ⊎_elim (λ (y : p ≡ middle + e). omega arith) (λ (y : p + e ≡ middle). omega arith) b)
    (λ (x : p + d ≡ middle). ⊎_elim (λ (y : p ≡ middle + e). omega arith) (λ (y : p + e ≡ middle). omega arith) b)
    a

pub record HasProfile (widths : List ℕ) (q : ℕ) (profile : List ℤ) : Type 0 where
  pub count : length profile ≡ q
  pub each : (d p : ℕ) → p < q → d < length widths → IsRowAt (length widths - 1) d p → key_at profile p ≡ pos (slice_index widths d)

pub profile_none : (widths : List ℕ) → HasProfile widths 0 []
profile_none widths = record { count = refl; each = λ d p l h a. absurd (omega arith) }

pub profile_more : (widths : List ℕ) (q d : ℕ) (width : ℤ) (profile : List ℤ) → IsRowAt (length widths - 1) d q → width ≡ pos (slice_index widths d) → HasProfile widths q profile → HasProfile widths (q + 1) (profile ++ width ∷ [])
profile_more widths q d width profile at is old =
    let c = old.count in
    let more = length_push profile width in
    record {
      count = omega arith;
      each = λ e p l h a. ⊎_elim
          (λ (b : p < q). rw (get_or_append_left profile (width ∷ []) (pos 0) p (omega arith)) (old.each e p b h a))
          (λ (b : q ≤ p).
          let here : p ≡ q = omega arith in
          let same : d ≡ e = row_at_same (length widths - 1) d e q at (rw here at a) in
          rw (get_or_push profile width (pos 0) p (omega arith)) (rw same at is))
          (cases_lt p q);
    }

pub profile_all : (widths : List ℕ) (q : ℕ) (profile : List ℤ) → 0 < length widths → q ≡ 2 * (length widths - 1) + 1 → HasProfile widths q profile → IsProfileOf widths profile
profile_all widths q profile some e old =
    let c = old.count in
    record {
      count = omega arith;
      each = λ d p h a. old.each d p (⊎_elim (λ (x : p ≡ length widths - 1 + d). omega arith) (λ (x : p + d ≡ length widths - 1). omega arith) a) h a;
    }

-- so many rows from the middle one
from_middle : (middle p : ℕ) → (d : ℕ) × (d ≤ middle ⊎ middle + d ≡ p) × IsRowAt middle d p
from_middle middle p = ⊎_elim
    (λ (l : p < middle). (middle - p, inl (omega arith), inr (omega arith)))
    (λ (l : middle ≤ p). (p - middle, inr (omega arith), inl (omega arith)))
    (cases_lt p middle)

pub profile_is : (widths : List ℕ) (profile : List ℤ) → AreFalling widths → IsProfileOf widths profile → IsProfile (length widths - 1) profile
profile_is widths profile fall is =
    let some = fall.some in
    let few = fall.few in
    let c = is.count in
    let middle : ℕ = length widths - 1 in
    record {
      count = omega arith;
      few = omega arith;
      least = λ p l. let f = from_middle middle p in let e = is.each f.0 p (near p l) f.2 in rw e (omega (arith, ints));
      most = λ p l. let f = from_middle middle p in let e = is.each f.0 p (near p l) f.2 in let s = fall.small f.0 (near p l) in rw e (omega (arith, ints));
      grows = λ p l.
          let a = is.each (middle - p) p (omega arith) (inr (omega arith)) in
          let b = is.each (middle - (p + 1)) (p + 1) (omega arith) (inr (omega arith)) in
          let next : (middle - (p + 1)) + 1 ≡ middle - p = omega arith in
          let f = rw next at (fall.falls (middle - (p + 1)) (omega arith)) in
          rw (a, b) (omega (arith, ints));
      falls = λ p l h.
          let a = is.each (p - middle) p (omega arith) (inl (omega arith)) in
          let b = is.each (p + 1 - middle) (p + 1) (omega arith) (inl (omega arith)) in
          let next : (p - middle) + 1 ≡ p + 1 - middle = omega arith in
          let f = rw next at (fall.falls (p - middle) (omega arith)) in
          rw (a, b) (omega (arith, ints));
    }
  where
    near : (p : ℕ) → p < length profile → (from_middle (length widths - 1) p).0 < length widths
    near p l =
        let some = fall.some in
        let c = is.count in
        let f = from_middle (length widths - 1) p in
        ⊎_elim (λ (x : f.0 ≤ length widths - 1). omega arith) (λ (x : length widths - 1 + f.0 ≡ p). omega arith) f.1

-- ---- the start
pub rest_is : (n : ℕ) (xs : List ℤ) → take (length xs - n) (drop n xs) ≡ drop n xs
rest_is n xs = take_all (length xs - n) (drop n xs) (omega (arith, length-drop n xs))

-- one more number stands at the end
pub mapped_more : (f : ℤ → ℤ) (start old new xs : List ℤ) (k : ℕ) (v : ℤ) → k < length xs → new ≡ old ++ v ∷ [] → v ≡ f (key_at xs k) → old ≡ start ++ map f (take k xs) → new ≡ start ++ map f (take (k + 1) xs)
mapped_more f start old new xs k v l push e was =
    push ∙ rw (was, e, append_assoc start (map f (take k xs)) (f (key_at xs k) ∷ [])) (ap (λ ys. start ++ ys) (sym (rw (take_more xs k (pos 0) l, map-append f (take k xs) (key_at xs k ∷ [])) refl)))

pub record HasStarted (middle : ℕ) (profile side wide : List ℤ) : Type 0 where
  pub count : length wide + 1 ≡ length side + length profile
  pub first : (p : ℕ) → p < middle → key_at wide p ≡ key_at side 0 -ℤ key_at profile p
  pub rows : (k : ℕ) → k < length side → key_at wide (middle + k) ≡ key_at side k -ℤ key_at profile middle
  pub last : (p : ℕ) → middle < p → p < length profile → key_at wide ((length side - 1) + p) ≡ key_at side (length side - 1) -ℤ key_at profile p

pub started : (middle : ℕ) (profile side wide : List ℤ) (s0 sn w : ℤ) → IsProfile middle profile → 0 < length side → s0 ≡ key_at side 0 → sn ≡ key_at side (length side - 1) → w ≡ key_at profile middle
    → wide ≡ (map (λ (v : ℤ). s0 -ℤ v) (take middle profile) ++ map (λ (s : ℤ). s -ℤ w) side) ++ map (λ (v : ℤ). sn -ℤ v) (drop (middle + 1) profile) → HasStarted middle profile side wide
started middle profile side wide s0 sn w pro some e0 en ew is =
    let c = pro.count in
    let a : List ℤ = map (λ (v : ℤ). s0 -ℤ v) (take middle profile) in
    let b : List ℤ = map (λ (s : ℤ). s -ℤ w) side in
    let d : List ℤ = map (λ (v : ℤ). sn -ℤ v) (drop (middle + 1) profile) in
    let la : length a ≡ middle = length-map (take middle profile) (λ (v : ℤ). s0 -ℤ v) ∙ length-take-le middle profile (omega arith) in
    let lb : length b ≡ length side = length-map side (λ (s : ℤ). s -ℤ w) in
    let ld : length d ≡ length profile - (middle + 1) = length-map (drop (middle + 1) profile) (λ (v : ℤ). sn -ℤ v) ∙ length-drop (middle + 1) profile in
    let lab : length (a ++ b) ≡ length a + length b = length-append a b in
    let lall : length ((a ++ b) ++ d) ≡ length (a ++ b) + length d = length-append (a ++ b) d in
    rw is (record {
      count = omega arith;
      first = λ p l.
          get_or_append_left (a ++ b) d (pos 0) p (omega arith) ∙ get_or_append_left a b (pos 0) p (omega arith)
          ∙ get_or-map (λ (v : ℤ). s0 -ℤ v) (take middle profile) p (pos 0) (pos 0) (rw (length-take-le middle profile (omega arith)) l) ∙ rw (get_or-take middle profile p (pos 0) l, e0) refl;
      rows = λ k l.
          let place : (middle + k) - middle ≡ k = omega arith in
          get_or_append_left (a ++ b) d (pos 0) (middle + k) (omega arith) ∙ get_or-append_right a b middle (middle + k) (pos 0) la (omega arith) ∙ ap (λ n. get_or b n (pos 0)) place
          ∙ get_or-map (λ (s : ℤ). s -ℤ w) side k (pos 0) (pos 0) l ∙ rw ew refl;
      last = λ p l h.
          let place : ((length side - 1) + p) - (middle + length side) ≡ p - (middle + 1) = omega arith in
          let back : (p - (middle + 1)) + (middle + 1) ≡ p = omega arith in
          let there : (middle + 1) + (p - (middle + 1)) ≡ p = omega arith in
          get_or-append_right (a ++ b) d (middle + length side) ((length side - 1) + p) (pos 0) (omega arith) (omega arith) ∙ ap (λ n. get_or d n (pos 0)) place
          ∙ get_or-map (λ (v : ℤ). sn -ℤ v) (drop (middle + 1) profile) (p - (middle + 1)) (pos 0) (pos 0) (rw (length-drop (middle + 1) profile) (omega arith))
          ∙ ap (λ v. sn -ℤ v) (get_or-drop (middle + 1) profile (p - (middle + 1)) (pos 0) ∙ ap (λ n. get_or profile n (pos 0)) there) ∙ rw en refl;
    })

pub start_is : (middle : ℕ) (profile side wide : List ℤ) → IsProfile middle profile → 0 < length side → HasStarted middle profile side wide → IsWideSide (IsDoneAbove middle side 1) profile side wide
start_is middle profile side wide pro some h =
    let c = pro.count in
    let count = h.count in
    record {
      some = some;
      count = count;
      reached = λ m l. ⊎_elim
          (λ (a : m < middle). (0, m, record { row = some; within = omega arith; sum = omega arith; is = h.first m a }))
          (λ (a : middle ≤ m). ⊎_elim
          (λ (b : m < middle + length side).
          let place : middle + (m - middle) ≡ m = omega arith in
          (m - middle, middle, record { row = omega arith; within = omega arith; sum = omega arith; is = rw place at (h.rows (m - middle) (omega arith)) }))
          (λ (b : middle + length side ≤ m).
          let place : (length side - 1) + (m - (length side - 1)) ≡ m = omega arith in
          (length side - 1, m - (length side - 1), record { row = omega arith; within = omega arith; sum = place; is = rw place at (h.last (m - (length side - 1)) (omega arith) (omega arith)) }))
          (cases_lt m (middle + length side)))
          (cases_lt m middle);
      least = λ k p l q done. ⊎_elim
          (λ (e : p ≡ middle). let place : middle + k ≡ k + middle = omega arith in rw e (rw place at (at_most (h.rows k l))))
          (λ more. ⊎_elim
          (λ (f : (p < middle) × (k < 1)). let f1 = f.1 in let z : k ≡ 0 = omega arith in let sum : k + p ≡ p = omega arith in rw (sum, z) (at_most (h.first p f.0)))
          (λ (g : (middle < p) × (length side ≤ k + 1)). let g1 = g.1 in let z : k ≡ length side - 1 = omega arith in rw z (at_most (h.last p g.0 q)))
          more)
          done;
    }
  where
    at_most : {x y : ℤ} → x ≡ y → x ≤ℤ y
    at_most e = omega (arith, ints)

-- ---- one row of the side
-- lowered numbers are still reached from some row
still_reached : (profile side old new : List ℤ) (k first end : ℕ) (s : ℤ) → s ≡ key_at side k → k < length side → end ≤ length profile → AreLowered profile s k first end old new → AreReached profile side old → AreReached profile side new
still_reached profile side old new k first end s es l h low was = λ m lm.
    let c = low.count in
    ⊎_elim
    (λ (e : key_at new m ≡ key_at old m).
    let q = was m (omega arith) in
    let r = q.2 in
    (q.0, q.1, record { row = r.row; within = r.within; sum = r.sum; is = e ∙ r.is }))
    (λ q.
    let q2 = q.2 in
    (k, q.0, record { row = l; within = omega arith; sum = q.3; is = q.4 ∙ ap (λ z. z -ℤ key_at profile q.0) es }))
    (low.either m (omega arith))

-- and those that reached far enough still do
still_least : (IsDone : ℕ → ℕ → Type 0) (profile side old new : List ℤ) (k first end : ℕ) (s : ℤ) → length old + 1 ≡ length side + length profile → AreLowered profile s k first end old new → AreLeast IsDone profile side old → AreLeast IsDone profile side new
still_least IsDone profile side old new k first end s c low was = λ y p l h done.
    let a = was y p l h done in
    let b = low.no_more (y + p) (omega arith) in
    omega (arith, ints)

-- above row k: the row before reaches no less
pub above_same : (middle : ℕ) (profile side wide : List ℤ) (k : ℕ) → IsProfile middle profile → 0 < k → k < length side → key_at side (k - 1) ≤ℤ key_at side k → IsWideSide (IsDoneAbove middle side k) profile side wide → IsWideSide (IsDoneAbove middle side (k + 1)) profile side wide
above_same middle profile side wide k pro some within no_less old = record {
  some = old.some;
  count = old.count;
  reached = old.reached;
  least = λ y p l h done. ⊎_elim
      (λ (e : p ≡ middle). old.least y p l h (inl e))
      (λ more. ⊎_elim
      (λ (f : (p < middle) × (y < k + 1)).
      let f0 = f.0 in
      let f1 = f.1 in
      ⊎_elim
      (λ (a : y < k). old.least y p l h (inr (inl (f0, a))))
      (λ (a : k ≤ y).
      let here : y ≡ k = omega arith in
      let place : (k - 1) + (p + 1) ≡ y + p = omega arith in
      let c = pro.count in
      let g = pro.grows p f0 in
      let before = rw place at (old.least (k - 1) (p + 1) (omega arith) (omega arith) (before_done p f0)) in
      rw here (rw here at (chain before no_less g)))
      (cases_lt y k))
      (λ g. old.least y p l h (inr (inr g)))
      more)
      done;
}
  where
    before_done : (p : ℕ) → p < middle → IsDoneAbove middle side k (k - 1) (p + 1)
    before_done p l = ⊎_elim (λ (e : p + 1 ≡ middle). inl e) (λ ne. inr (inl (omega (arith, ne), omega arith))) (cases_eq (p + 1) middle)

    chain : {w a b x y : ℤ} → w ≤ℤ (a -ℤ x) → a ≤ℤ b → y ≤ℤ x → w ≤ℤ (b -ℤ y)
    chain h k l = omega (arith, ints)

-- or what row k reaches is lowered
pub above_more : (middle : ℕ) (profile side old new : List ℤ) (k : ℕ) (s : ℤ) → IsProfile middle profile → k < length side → s ≡ key_at side k → AreLowered profile s k 0 middle old new
    → IsWideSide (IsDoneAbove middle side k) profile side old → IsWideSide (IsDoneAbove middle side (k + 1)) profile side new
above_more middle profile side old new k s pro within es low was =
    let c = pro.count in
    let cl = low.count in
    let cw = was.count in
    record {
      some = was.some;
      count = omega arith;
      reached = still_reached profile side old new k 0 middle s es within (omega arith) low was.reached;
      least = λ y p l h done. ⊎_elim
          (λ (e : p ≡ middle). still y p l h (inl e))
          (λ more. ⊎_elim
          (λ (f : (p < middle) × (y < k + 1)).
          let f0 = f.0 in
          let f1 = f.1 in
          ⊎_elim (λ (a : y < k). still y p l h (inr (inl (f0, a)))) (λ (a : k ≤ y). let here : y ≡ k = omega arith in rw here (rw es at (low.least p (omega arith) f0))) (cases_lt y k))
          (λ g. still y p l h (inr (inr g)))
          more)
          done;
    }
  where
    still : AreLeast (IsDoneAbove middle side k) profile side new
    still = still_least (IsDoneAbove middle side k) profile side old new k 0 middle s was.count low was.least

-- below row k: the row after reaches no less
pub below_same : (middle : ℕ) (profile side wide : List ℤ) (k done : ℕ) → IsProfile middle profile → k + 1 + done ≡ length side → 0 < done → key_at side (k + 1) ≤ℤ key_at side k → IsWideSide (IsDoneBelow middle side done) profile side wide
    → IsWideSide (IsDoneBelow middle side (done + 1)) profile side wide
below_same middle profile side wide k done pro e some no_less old = record {
  some = old.some;
  count = old.count;
  reached = old.reached;
  least = λ y p l h d. ⊎_elim
      (λ (a : p ≤ middle). old.least y p l h (inl a))
      (λ (b : length side ≤ y + (done + 1)). ⊎_elim
      (λ (a : p < middle + 1). old.least y p l h (inl (omega arith)))
      (λ (a : middle + 1 ≤ p). ⊎_elim
      (λ (c : length side ≤ y + done). old.least y p l h (inr c))
      (λ ne.
      let here : y ≡ k = omega (arith, ne) in
      let place : (k + 1) + (p - 1) ≡ y + p = omega arith in
      let next : (p - 1) + 1 ≡ p = omega arith in
      let g = rw next at (pro.falls (p - 1) (omega arith) (omega arith)) in
      let after = rw place at (old.least (k + 1) (p - 1) (omega arith) (omega arith) (inr (omega arith))) in
      rw here (rw here at (chain after no_less g)))
      (reaches y))
      (cases_lt p (middle + 1)))
      d;
}
  where
    chain : {w a b x y : ℤ} → w ≤ℤ (a -ℤ x) → a ≤ℤ b → y ≤ℤ x → w ≤ℤ (b -ℤ y)
    chain h k l = omega (arith, ints)

    reaches : (y : ℕ) → (length side ≤ y + done) ⊎ (y + done < length side)
    reaches y = ⊎_elim (λ (a : y + done < length side). inr a) (λ (a : length side ≤ y + done). inl a) (cases_lt (y + done) (length side))

pub below_more : (middle : ℕ) (profile side old new : List ℤ) (k done : ℕ) (s : ℤ) → IsProfile middle profile → k + 1 + done ≡ length side → s ≡ key_at side k → AreLowered profile s k (middle + 1) (length profile) old new
    → IsWideSide (IsDoneBelow middle side done) profile side old → IsWideSide (IsDoneBelow middle side (done + 1)) profile side new
below_more middle profile side old new k done s pro e es low was =
    let c = pro.count in
    let cl = low.count in
    let cw = was.count in
    record {
      some = was.some;
      count = omega arith;
      reached = still_reached profile side old new k (middle + 1) (length profile) s es (omega arith) (omega arith) low was.reached;
      least = λ y p l h d. ⊎_elim
          (λ (a : p ≤ middle). still y p l h (inl a))
          (λ (b : length side ≤ y + (done + 1)). ⊎_elim
          (λ (a : p < middle + 1). still y p l h (inl (omega arith)))
          (λ (a : middle + 1 ≤ p). ⊎_elim
          (λ (x : y + done < length side). let here : y ≡ k = omega arith in rw here (rw es at (low.least p a h)))
          (λ (x : length side ≤ y + done). still y p l h (inr x))
          (cases_lt (y + done) (length side)))
          (cases_lt p (middle + 1)))
          d;
    }
  where
    still : AreLeast (IsDoneBelow middle side done) profile side new
    still = still_least (IsDoneBelow middle side done) profile side old new k (middle + 1) (length profile) s was.count low was.least

-- ---- all rows of the side
pub above_all_rows : (middle : ℕ) (profile side wide : List ℤ) (k : ℕ) → length side ≤ k → IsWideSide (IsDoneAbove middle side k) profile side wide → IsWideSide (IsDoneBelow middle side 1) profile side wide
above_all_rows middle profile side wide k past old = record {
  some = old.some;
  count = old.count;
  reached = old.reached;
  least = λ y p l h d. ⊎_elim
      (λ (a : p < middle). old.least y p l h (inr (inl (a, omega arith))))
      (λ (a : middle ≤ p). ⊎_elim
      (λ (e : p ≡ middle). old.least y p l h (inl e))
      (λ ne. old.least y p l h (inr (inr (omega (arith, ne), ⊎_elim (λ (b : p ≤ middle). absurd (omega (arith, ne))) (λ (b : length side ≤ y + 1). b) d))))
      (cases_eq p middle))
      (cases_lt p middle);
}

pub below_all_rows : (middle : ℕ) (profile side wide : List ℤ) (done : ℕ) → length side ≤ done → IsWideSide (IsDoneBelow middle side done) profile side wide → IsWidenedSide profile side wide
below_all_rows middle profile side wide done past old = record {
  count = old.count;
  reached = old.reached;
  least = λ k p l h. old.least k p l h (inr (omega arith));
}

-- ---- how far a widened side lies from 0
pub wide_near : (middle : ℕ) (profile side wide : List ℤ) → IsProfile middle profile → IsSide side → IsWidenedSide profile side wide → (m : ℕ) → m < length wide → IsWithin (max_sample + 1 + max_radius) (key_at wide m)
wide_near middle profile side wide pro near w m l =
    let r = w.reached m l in
    let at = r.2 in
    let is = at.is in
    let s = near r.0 at.row in
    let s0 = s.0 in
    let s1 = s.1 in
    let least = pro.least r.1 at.within in
    let most = pro.most r.1 at.within in
    (omega (arith, ints), omega (arith, ints))

-- no number of the widened side lies far below those of the side
pub wide_low : (middle : ℕ) (profile side wide : List ℤ) → IsProfile middle profile → IsSide side → IsWidenedSide profile side wide → (m : ℕ) → m < length wide → negsuc 199999 ≤ℤ key_at wide m
wide_low middle profile side wide pro near w m l =
    let r = w.reached m l in
    let q = r.2 in
    let is = q.is in
    let low = near r.0 q.row in
    let most = pro.most r.1 q.within in
    omega (arith, ints)
