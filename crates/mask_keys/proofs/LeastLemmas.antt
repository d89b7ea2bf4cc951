-- The box that a search finds is the least one of the pixels that pass.
use Rattle.std.proofs.Common.{◌≡◌, ℕ, zero, suc, ◌+◌, ◌*◌, Bool, true, false, ℤ, pos, neg_ℤ, ◌+ℤ◌, ◌-ℤ◌, ◌≤ℤ◌, ◌<ℤ◌, unsigned_abs, refl, sym, ap, ◌∙◌, arith}
use Rattle.std.proofs.lemmas.Int.{ints, by_lt_z}
use Rattle.std.proofs.lemmas.Bool.{false≢true}
use Rattle.ass_num.specs.Limits.{IsWithin}
use Rattle.mask_keys.specs.Boxes.{some_from, first_from, last_end_from, box_from, box_within}
use Rattle.mask_keys.proofs.BoxLemmas.{IsLeastOf, some_from-found, some_from-made}
use Rattle.mask_keys.proofs.ReachLemmas.{first_is, last_is, size_of}

-- no number before the first one passes
first_least : (p : ℤ → Bool) (i : ℤ) (n : ℕ) (k : ℤ) → i ≤ℤ k → k <ℤ (i +ℤ pos n) → p k ≡ true → first_from p i n ≤ℤ k
unfolding first_from
first_least p i zero k a b e = absurd (omega (arith, ints))
first_least p i (suc n) k a b e = by_test (p i) refl (λ l. first_least p (i +ℤ pos 1) n k l (omega (arith, ints)) e)
  where
    by_test : (t : Bool) → p i ≡ t → ((i +ℤ pos 1) ≤ℤ k → first_from p (i +ℤ pos 1) n ≤ℤ k) → first_from p i (suc n) ≤ℤ k
    by_test true f next = rw f a
    by_test false f next =
        by_lt_z i k
        (λ (l : i <ℤ k). rw f (next (omega (arith, ints))))
        (λ (l : k ≤ℤ i). let same : k ≡ i = omega (arith, ints) in absurd (false≢true (sym f ∙ ap p (sym same) ∙ e)))

-- the last one passes
last_passes : (p : ℤ → Bool) (i : ℤ) (n : ℕ) (k : ℤ) → i ≤ℤ k → k <ℤ (i +ℤ pos n) → p k ≡ true → p (last_end_from p i n -ℤ pos 1) ≡ true
unfolding last_end_from
last_passes p i zero k a b e = absurd (omega (arith, ints))
last_passes p i (suc n) k a b e = by_test (p (i +ℤ pos n)) refl (λ l. last_passes p i n k a l e)
  where
    by_test : (t : Bool) → p (i +ℤ pos n) ≡ t → (k <ℤ (i +ℤ pos n) → p (last_end_from p i n -ℤ pos 1) ≡ true) → p (last_end_from p i (suc n) -ℤ pos 1) ≡ true
    by_test true f next = let end : (i +ℤ pos (suc n)) -ℤ pos 1 ≡ i +ℤ pos n = omega (arith, ints) in rw f (ap p end ∙ f)
    by_test false f next =
        by_lt_z k (i +ℤ pos n)
        (λ (l : k <ℤ (i +ℤ pos n)). rw f (next l))
        (λ (l : (i +ℤ pos n) ≤ℤ k). let same : k ≡ i +ℤ pos n = omega (arith, ints) in absurd (false≢true (sym f ∙ ap p (sym same) ∙ e)))

module _ (limit : ℕ) (passes : ℤ → ℤ → Bool) (near : (x y : ℤ) → passes x y ≡ true → IsWithin limit x × IsWithin limit y) where
  low : ℤ
  low = neg_ℤ (pos limit)

  count : ℕ
  count = 2 * limit + 1

  column : ℤ → Bool
  column x = some_from (λ y. passes x y) low count

  row : ℤ → Bool
  row y = some_from (λ x. passes x y) low count

  column_of : (x y : ℤ) → passes x y ≡ true → column x ≡ true
  unfolding column low count
  column_of x y h = let w = (near x y h).1 in let a = w.0 in let b = w.1 in some_from-made (λ z. passes x z) low count y a (omega (arith, ints)) h

  row_of : (x y : ℤ) → passes x y ≡ true → row y ≡ true
  unfolding row low count
  row_of x y h = let w = (near x y h).0 in let a = w.0 in let b = w.1 in some_from-made (λ z. passes z y) low count x a (omega (arith, ints)) h

  -- the least stretch along an axis, by the numbers of those that pass
  record IsSpan (p : ℤ → Bool) (from : ℤ) (len : ℕ) : Type 0 where
    holds : (k : ℤ) → IsWithin limit k → p k ≡ true → (from ≤ℤ k) × (k <ℤ (from +ℤ pos len))
    first : p from ≡ true
    last : p ((from +ℤ pos len) -ℤ pos 1) ≡ true

  span_is : (p : ℤ → Bool) → some_from p low count ≡ true → IsSpan p (first_from p low count) (unsigned_abs (last_end_from p low count -ℤ first_from p low count))
  unfolding low count
  span_is p h =
      let f = first_is p low count h in
      let a = f.from in
      let b = f.before in
      let from : ℤ = first_from p low count in
      let end : ℤ = last_end_from p low count in
      let l = last_is p low count from a b f.passes in
      let u = l.0 in
      let size : pos (unsigned_abs (end -ℤ from)) ≡ end -ℤ from = size_of (end -ℤ from) (omega (arith, ints)) in
      let whole : (from +ℤ pos (unsigned_abs (end -ℤ from))) -ℤ pos 1 ≡ end -ℤ pos 1 = omega (arith, ints, size) in
      record {
        holds = λ k w e.
            let c = w.0 in
            let d = w.1 in
            let g = first_least p low count k c (omega (arith, ints)) e in
            let m = (last_is p low count k c (omega (arith, ints)) e).0 in
            (g, omega (arith, ints, size));
        first = f.passes;
        last = ap p whole ∙ last_passes p low count from a b f.passes;
      }

  some_row : some_from column low count ≡ true → some_from row low count ≡ true
  unfolding column row
  some_row h =
      let r = some_from-found column low count h in
      let s = some_from-found (λ y. passes r.0 y) low count r.3 in
      some_from-made row low count s.0 s.1 s.2 (some_from-made (λ x. passes x s.0) low count r.0 r.1 r.2 s.3)

  full : some_from column low count ≡ true → IsLeastOf passes (box_from column row low count)
  unfolding column row
  full h =
      let across = span_is column h in
      let down = span_is row (some_row h) in
      rw h (record {
        has = λ i j e.
            let w = near i j e in
            let x = across.holds i w.0 (column_of i j e) in
            let y = down.holds j w.1 (row_of i j e) in
            record { left = x.0; right = x.1; top = y.0; bottom = y.1 };
        least = λ other held i j b.
            let l = some_from-found (λ y. passes (first_from column low count) y) low count across.first in
            let r = some_from-found (λ y. passes _ y) low count across.last in
            let t = some_from-found (λ x. passes x (first_from row low count)) low count down.first in
            let u = some_from-found (λ x. passes x _) low count down.last in
            let hl = (held _ l.0 l.3).left in
            let hr = (held _ r.0 r.3).right in
            let ht = (held t.0 _ t.3).top in
            let hu = (held u.0 _ u.3).bottom in
            let bl = b.left in
            let br = b.right in
            let bt = b.top in
            let bb = b.bottom in
            record { left = omega (arith, ints); right = omega (arith, ints); top = omega (arith, ints); bottom = omega (arith, ints) };
      })

  no_pixel : some_from column low count ≡ false → (i j : ℤ) → passes i j ≡ true → ⊥
  unfolding low count
  no_pixel h i j e =
      let w = (near i j e).0 in
      let a = w.0 in
      let b = w.1 in
      false≢true (sym h ∙ some_from-made column low count i a (omega (arith, ints)) (column_of i j e))

  none : some_from column low count ≡ false → IsLeastOf passes (box_from column row low count)
  none h = rw h (record {
    has = λ i j e. absurd (no_pixel h i j e);
    least = λ other held i j b. let l = b.left in let r = b.right in absurd (omega (arith, ints));
  })

pub box_within-least : (limit : ℕ) (passes : ℤ → ℤ → Bool) → ((x y : ℤ) → passes x y ≡ true → IsWithin limit x × IsWithin limit y) → IsLeastOf passes (box_within limit passes)
unfolding box_within low count column row
box_within-least limit passes near = by_test (some_from (λ x. some_from (λ y. passes x y) (neg_ℤ (pos limit)) (2 * limit + 1)) (neg_ℤ (pos limit)) (2 * limit + 1)) refl
  where
    by_test : (b : Bool) → some_from (λ x. some_from (λ y. passes x y) (neg_ℤ (pos limit)) (2 * limit + 1)) (neg_ℤ (pos limit)) (2 * limit + 1) ≡ b → IsLeastOf passes (box_within limit passes)
    by_test true h = full limit passes near h
    by_test false h = none limit passes near h
