-- A side after a write to a part of it.
use Rattle.std.proofs.Common.{◌≡◌, ℕ, ◌+◌, ◌-◌, ◌<◌, ◌≤◌, ℤ, pos, ◌-ℤ◌, ◌≤ℤ◌, ◌<ℤ◌, inl, inr, ⊎_elim, ap, ◌∙◌, arith, List, length, take, drop, rules}
use Rattle.std.specs.Int.{int_min}
use Rattle.std.proofs.lemmas.Int.{ints, clamps, by_lt_z}
use Rattle.std.proofs.Math.ListN.{set}
use Rattle.std.proofs.lemmas.Bool.{cases_eq, cases_lt}
use Rattle.std.proofs.lemmas.List.{places, get_or-drop, get_or-set_other, get_or-set_same, get_or-take}
use Rattle.border_region.specs.Keys.{key_at}
use Rattle.border_region.specs.Reach.{AreLowered}
use borrow.Rule.Slice.PartMut.{put_mid}

part_before : (a n t : ℕ) (xs ys : List ℤ) → t < a → a ≤ length xs → key_at (put_mid a n xs ys) t ≡ key_at xs t
part_before a n t xs ys before fits = search (rules, places)

part_within : (a n t : ℕ) (xs ys : List ℤ) → a ≤ length xs → t < length ys → key_at (put_mid a n xs ys) (a + t) ≡ key_at ys t
part_within a n t xs ys fits within = search (rules, places)

part_after : (a n t : ℕ) (xs ys : List ℤ) → a ≤ length xs → length ys ≡ n → a + n ≤ t → key_at (put_mid a n xs ys) t ≡ key_at xs t
part_after a n t xs ys fits count after = search (rules, places)

length_with_part : (a n : ℕ) (xs ys : List ℤ) → a + n ≤ length xs → length ys ≡ n → length (put_mid a n xs ys) ≡ length xs
length_with_part a n xs ys fits count = search (rules, places)

-- a place of a part
at_place : (a n t : ℕ) (xs : List ℤ) → t < n → key_at (take n (drop a xs)) t ≡ key_at xs (a + t)
at_place a n t xs l = get_or-take n (drop a xs) t (pos 0) l ∙ get_or-drop a xs t (pos 0)

pub lowered : (profile old part : List ℤ) (s : ℤ) (k first end n a w v : ℕ) → first ≤ end → k + end ≤ length old → a ≡ k + first → n ≡ end - first → w ≡ n → v ≡ n → length part ≡ n
    → ((q : ℕ) → q < n → key_at part q ≡ int_min (key_at (take w (drop a old)) q) (s -ℤ key_at (take v (drop first profile)) q)) → AreLowered profile s k first end old (put_mid a n old part)
lowered profile old part s k first end n a w v l fits ea en ew ev count is = record {
  count = length_with_part a n old part (omega arith) count;
  no_more = λ m h. cases m (λ same. rw same (omega (arith, ints))) (λ q lq e. let v = inside q lq in rw (← e, v) (omega (arith, ints, clamps)));
  least = λ p h k2.
      let place : a + (p - first) ≡ k + p = omega arith in
      let row : first + (p - first) ≡ p = omega arith in
      let here : key_at new (k + p) ≡ int_min (key_at old (k + p)) (s -ℤ key_at profile p) = rw (place, row) at (inside (p - first) (omega arith)) in
      rw here (omega (arith, ints, clamps));
  either = λ m h. cases m
      (λ same. inl same)
      (λ q lq e.
      let v = inside q lq in
      by_lt_z (key_at old (a + q)) (s -ℤ key_at profile (first + q))
      (λ (x : key_at old (a + q) <ℤ (s -ℤ key_at profile (first + q))). inl (rw (← e) (v ∙ omega (arith, ints, clamps))))
      (λ (x : (s -ℤ key_at profile (first + q)) ≤ℤ key_at old (a + q)). inr (first + q, omega arith, omega arith, omega arith, rw (← e) (v ∙ omega (arith, ints, clamps)))));
}
  where
    new : List ℤ
    new = put_mid a n old part

    inside : (q : ℕ) → q < n → key_at new (a + q) ≡ int_min (key_at old (a + q)) (s -ℤ key_at profile (first + q))
    inside q h = part_within a n q old part (omega arith) (omega arith) ∙ rw (← at_place a n q old h, ← at_place first n q profile h) (rw (ew, ev) at (is q h))

    cases : {P : Type 0} (m : ℕ) → (key_at new m ≡ key_at old m → P) → ((q : ℕ) → q < n → a + q ≡ m → P) → P
    cases m outer inner = ⊎_elim
        (λ (x : m < a). outer (part_before a n m old part x (omega arith)))
        (λ (x : a ≤ m). ⊎_elim (λ (y : m < a + n). inner (m - a) (omega arith) (omega arith)) (λ (y : a + n ≤ m). outer (part_after a n m old part (omega arith) count y)) (cases_lt m (a + n)))
        (cases_lt m a)

-- ---- numbers lowered one after another
pub record IsLoweredTo (to : ℕ → ℤ) (start now : List ℤ) (k : ℕ) : Type 0 where
  pub done : (q : ℕ) → q < k → key_at now q ≡ int_min (key_at start q) (to q)
  pub rest : (q : ℕ) → k ≤ q → key_at now q ≡ key_at start q

pub lowered_more : (to : ℕ → ℤ) (start now : List ℤ) (k : ℕ) (v : ℤ) → k < length now → v ≡ int_min (key_at now k) (to k) → IsLoweredTo to start now k → IsLoweredTo to start (set now k v) (k + 1)
lowered_more to start now k v l e old = record {
  done = λ q h. ⊎_elim
      (λ (here : q ≡ k). rw (here, get_or-set_same now k v (pos 0) l) (e ∙ ap (λ z. int_min z (to k)) (old.rest k (omega arith))))
      (λ ne. rw (get_or-set_other now k q v (pos 0) ne) (old.done q (omega (arith, ne))))
      (cases_eq q k);
  rest = λ q h. let ne : q ≡ k → ⊥ = λ same. omega arith in rw (get_or-set_other now k q v (pos 0) ne) (old.rest q (omega arith));
}
