-- The least box of the pixels that pass a test.
use Rattle.std.proofs.Common.{◌≡◌, ℕ, zero, suc, ◌+◌, ◌*◌, ◌<◌, Bool, true, false, ◌⊎◌, inl, inr, ⊎_elim, ℤ, pos, neg_ℤ, ◌+ℤ◌, ◌-ℤ◌, ◌≤ℤ◌, ◌<ℤ◌, refl, sym, ap, ◌∙◌, arith, unsigned_abs}
use Rattle.std.proofs.lemmas.Int.{ints, by_lt_z}
use Rattle.std.proofs.lemmas.Bool.{or_left, or_right, or_cases, false≢true}
use Rattle.ass_num.specs.Coverage.{PixelBox, InBox}
use Rattle.ass_num.proofs.MaskLemmas.{box_parts, corner_in, far_corner_in}
use Rattle.mask_keys.specs.Boxes.{some_from, first_from, last_end_from, no_box, box_from, box_within}

-- ---- some number of a stretch passes

pub some_from-found : (p : ℤ → Bool) (i : ℤ) (n : ℕ) → some_from p i n ≡ true → (k : ℤ) × (i ≤ℤ k) × (k <ℤ (i +ℤ pos n)) × (p k ≡ true)
unfolding some_from
some_from-found p i zero h = absurd (false≢true h)
some_from-found p i (suc n) h =
    ⊎_elim
    (λ e. (i, omega (arith, ints), omega (arith, ints), e))
    (λ e. let r = some_from-found p (i +ℤ pos 1) n e in let a = r.1 in let b = r.2 in (r.0, omega (arith, ints), omega (arith, ints), r.3))
    (or_cases (p i) (some_from p (i +ℤ pos 1) n) h)

pub some_from-made : (p : ℤ → Bool) (i : ℤ) (n : ℕ) (k : ℤ) → i ≤ℤ k → k <ℤ (i +ℤ pos n) → p k ≡ true → some_from p i n ≡ true
unfolding some_from
some_from-made p i zero k a b e = absurd (omega (arith, ints))
some_from-made p i (suc n) k a b e =
    by_lt_z i k
    (λ (l : i <ℤ k). or_right (p i) (some_from p (i +ℤ pos 1) n) (some_from-made p (i +ℤ pos 1) n k (omega (arith, ints)) (omega (arith, ints)) e))
    (λ (l : k ≤ℤ i). let same : k ≡ i = omega (arith, ints) in or_left (p i) (some_from p (i +ℤ pos 1) n) (ap p (sym same) ∙ e))

-- ---- the first and the last one

first_is : (p : ℤ → Bool) (i : ℤ) (n : ℕ) (k : ℤ) → i ≤ℤ k → k <ℤ (i +ℤ pos n) → p k ≡ true → ((m : ℤ) → i ≤ℤ m → m <ℤ k → p m ≡ false) → first_from p i n ≡ k
unfolding first_from
first_is p i zero k a b e none = absurd (omega (arith, ints))
first_is p i (suc n) k a b e none =
    by_lt_z i k
    (λ (l : i <ℤ k). rw (none i (omega (arith, ints)) l) (first_is p (i +ℤ pos 1) n k (omega (arith, ints)) (omega (arith, ints)) e (λ m u v. none m (omega (arith, ints)) v)))
    (λ (l : k ≤ℤ i). let same : i ≡ k = omega (arith, ints) in rw (ap p same ∙ e) same)

last_is : (p : ℤ → Bool) (i : ℤ) (n : ℕ) (k : ℤ) → i <ℤ k → k ≤ℤ (i +ℤ pos n) → p (k -ℤ pos 1) ≡ true → ((m : ℤ) → k ≤ℤ m → m <ℤ (i +ℤ pos n) → p m ≡ false) → last_end_from p i n ≡ k
unfolding last_end_from
last_is p i zero k a b e none = absurd (omega (arith, ints))
last_is p i (suc n) k a b e none =
    by_lt_z (i +ℤ pos n) k
    (λ (l : (i +ℤ pos n) <ℤ k).
    let same : i +ℤ pos n ≡ k -ℤ pos 1 = omega (arith, ints) in
    let end : i +ℤ pos (suc n) ≡ k = omega (arith, ints) in
    rw (ap p same ∙ e) end)
    (λ (l : k ≤ℤ (i +ℤ pos n)). rw (none (i +ℤ pos n) l (omega (arith, ints))) (last_is p i n k a l e (λ m u v. none m u (omega (arith, ints)))))

-- ---- the box

-- A box that isn't empty along one axis alone.
abbrev pub IsProper : PixelBox → Type 0
IsProper b = (b ≡ no_box) ⊎ ((0 < b.w) × (0 < b.h))

-- all its pixels lie within so much of 0
pub record IsBoxNear (limit : ℕ) (b : PixelBox) : Type 0 where
  pub left : neg_ℤ (pos limit) ≤ℤ b.x
  pub right : (b.x +ℤ pos b.w) ≤ℤ (pos limit +ℤ pos 1)
  pub top : neg_ℤ (pos limit) ≤ℤ b.y
  pub bottom : (b.y +ℤ pos b.h) ≤ℤ (pos limit +ℤ pos 1)

-- The box has all the pixels that pass, and lies in each box that has them.
pub record IsLeastOf (passes : ℤ → ℤ → Bool) (b : PixelBox) : Type 0 where
  pub has : (i j : ℤ) → passes i j ≡ true → InBox b i j
  pub least : (other : PixelBox) → ((i j : ℤ) → passes i j ≡ true → InBox other i j) → (i j : ℤ) → InBox b i j → InBox other i j

none_in_no_box : (i j : ℤ) → InBox no_box i j → ⊥
none_in_no_box i j h = let l = h.left in let r = h.right in omega (arith, ints)

module _ (limit : ℕ) (passes : ℤ → ℤ → Bool) (b : PixelBox) (is : IsLeastOf passes b) (near : IsBoxNear limit b) where
  from : ℤ
  from = neg_ℤ (pos limit)

  count : ℕ
  count = 2 * limit + 1

  column : ℤ → Bool
  column x = some_from (λ y. passes x y) from count

  row : ℤ → Bool
  row y = some_from (λ x. passes x y) from count

  column_in : (x : ℤ) → column x ≡ true → (b.x ≤ℤ x) × (x <ℤ (b.x +ℤ pos b.w))
  unfolding column
  column_in x h = let r = some_from-found (λ y. passes x y) from count h in let m = is.has x r.0 r.3 in (m.left, m.right)

  row_in : (y : ℤ) → row y ≡ true → (b.y ≤ℤ y) × (y <ℤ (b.y +ℤ pos b.h))
  unfolding row
  row_in y h = let r = some_from-found (λ x. passes x y) from count h in let m = is.has r.0 y r.3 in (m.top, m.bottom)

  column_out : (x : ℤ) → (x <ℤ b.x) ⊎ ((b.x +ℤ pos b.w) ≤ℤ x) → column x ≡ false
  column_out x o = by_test (column x) refl
    where
      by_test : (t : Bool) → column x ≡ t → column x ≡ false
      by_test false e = e
      by_test true e = let m = column_in x e in let u = m.0 in let v = m.1 in absurd (elim o [ inl l ↦ omega (arith, ints) | inr l ↦ omega (arith, ints) ])

  row_out : (y : ℤ) → (y <ℤ b.y) ⊎ ((b.y +ℤ pos b.h) ≤ℤ y) → row y ≡ false
  row_out y o = by_test (row y) refl
    where
      by_test : (t : Bool) → row y ≡ t → row y ≡ false
      by_test false e = e
      by_test true e = let m = row_in y e in let u = m.0 in let v = m.1 in absurd (elim o [ inl l ↦ omega (arith, ints) | inr l ↦ omega (arith, ints) ])

  column_of : (x y : ℤ) → passes x y ≡ true → column x ≡ true
  unfolding column from count
  column_of x y h =
      let m = is.has x y h in
      let t = m.top in
      let u = m.bottom in
      let v = near.top in
      let w = near.bottom in
      some_from-made (λ z. passes x z) from count y (omega (arith, ints)) (omega (arith, ints)) h

  row_of : (x y : ℤ) → passes x y ≡ true → row y ≡ true
  unfolding row from count
  row_of x y h =
      let m = is.has x y h in
      let t = m.left in
      let u = m.right in
      let v = near.left in
      let w = near.right in
      some_from-made (λ z. passes z y) from count x (omega (arith, ints)) (omega (arith, ints)) h

  module _ (wide : 0 < b.w) (high : 0 < b.h) where
    -- a column or a row at an edge has a pixel, else a smaller box would do
    without_left : column b.x ≡ false → ⊥
    without_left none =
        let other : PixelBox = record { x = b.x +ℤ pos 1; y = b.y; w = b.w; h = b.h } in
        let held : (i j : ℤ) → passes i j ≡ true → InBox other i j = λ i j h.
        let m = is.has i j h in
        let l = m.left in
        let r = m.right in
        by_lt_z b.x i
        (λ (g : b.x <ℤ i). record { left = omega (arith, ints); right = omega (arith, ints); top = m.top; bottom = m.bottom })
        (λ (g : i ≤ℤ b.x). let same : i ≡ b.x = omega (arith, ints) in absurd (false≢true (sym none ∙ ap column (sym same) ∙ column_of i j h))) in
        let c = is.least other held b.x b.y (corner_in b wide high) in
        let l = c.left in
        omega (arith, ints)

    without_right : column ((b.x +ℤ pos b.w) -ℤ pos 1) ≡ false → ⊥
    without_right none =
        let last : ℤ = (b.x +ℤ pos b.w) -ℤ pos 1 in
        let other : PixelBox = record { x = b.x -ℤ pos 1; y = b.y; w = b.w; h = b.h } in
        let held : (i j : ℤ) → passes i j ≡ true → InBox other i j = λ i j h.
        let m = is.has i j h in
        let l = m.left in
        let r = m.right in
        by_lt_z i last
        (λ (g : i <ℤ last). record { left = omega (arith, ints); right = omega (arith, ints); top = m.top; bottom = m.bottom })
        (λ (g : last ≤ℤ i). let same : i ≡ last = omega (arith, ints) in absurd (false≢true (sym none ∙ ap column (sym same) ∙ column_of i j h))) in
        let c = is.least other held _ _ (far_corner_in b wide high) in
        let l = c.right in
        omega (arith, ints)

    without_top : row b.y ≡ false → ⊥
    without_top none =
        let other : PixelBox = record { x = b.x; y = b.y +ℤ pos 1; w = b.w; h = b.h } in
        let held : (i j : ℤ) → passes i j ≡ true → InBox other i j = λ i j h.
        let m = is.has i j h in
        let l = m.top in
        let r = m.bottom in
        by_lt_z b.y j
        (λ (g : b.y <ℤ j). record { left = m.left; right = m.right; top = omega (arith, ints); bottom = omega (arith, ints) })
        (λ (g : j ≤ℤ b.y). let same : j ≡ b.y = omega (arith, ints) in absurd (false≢true (sym none ∙ ap row (sym same) ∙ row_of i j h))) in
        let c = is.least other held b.x b.y (corner_in b wide high) in
        let l = c.top in
        omega (arith, ints)

    without_bottom : row ((b.y +ℤ pos b.h) -ℤ pos 1) ≡ false → ⊥
    without_bottom none =
        let last : ℤ = (b.y +ℤ pos b.h) -ℤ pos 1 in
        let other : PixelBox = record { x = b.x; y = b.y -ℤ pos 1; w = b.w; h = b.h } in
        let held : (i j : ℤ) → passes i j ≡ true → InBox other i j = λ i j h.
        let m = is.has i j h in
        let l = m.top in
        let r = m.bottom in
        by_lt_z j last
        (λ (g : j <ℤ last). record { left = m.left; right = m.right; top = omega (arith, ints); bottom = omega (arith, ints) })
        (λ (g : last ≤ℤ j). let same : j ≡ last = omega (arith, ints) in absurd (false≢true (sym none ∙ ap row (sym same) ∙ row_of i j h))) in
        let c = is.least other held _ _ (far_corner_in b wide high) in
        let l = c.bottom in
        omega (arith, ints)

    test_holds : (t : Bool) → (t ≡ false → ⊥) → t ≡ true
    test_holds true none = refl
    test_holds false none = absurd (none refl)

    full_box : box_from column row from count ≡ b
    unfolding from count
    full_box =
        let l = near.left in
        let r = near.right in
        let t = near.top in
        let u = near.bottom in
        let first_column : column b.x ≡ true = test_holds (column b.x) without_left in
        let last_column : column ((b.x +ℤ pos b.w) -ℤ pos 1) ≡ true = test_holds (column ((b.x +ℤ pos b.w) -ℤ pos 1)) without_right in
        let first_row : row b.y ≡ true = test_holds (row b.y) without_top in
        let last_row : row ((b.y +ℤ pos b.h) -ℤ pos 1) ≡ true = test_holds (row ((b.y +ℤ pos b.h) -ℤ pos 1)) without_bottom in
        let some : some_from column from count ≡ true = some_from-made column from count b.x (omega (arith, ints)) (omega (arith, ints)) first_column in
        let left : first_from column from count ≡ b.x = first_is column from count b.x (omega (arith, ints)) (omega (arith, ints)) first_column (λ m p q. column_out m (inl q)) in
        let top : first_from row from count ≡ b.y = first_is row from count b.y (omega (arith, ints)) (omega (arith, ints)) first_row (λ m p q. row_out m (inl q)) in
        let right : last_end_from column from count ≡ b.x +ℤ pos b.w = last_is column from count (b.x +ℤ pos b.w) (omega (arith, ints)) (omega (arith, ints)) last_column (λ m p q. column_out m (inr p)) in
        let bottom : last_end_from row from count ≡ b.y +ℤ pos b.h = last_is row from count (b.y +ℤ pos b.h) (omega (arith, ints)) (omega (arith, ints)) last_row (λ m p q. row_out m (inr p)) in
        let across : (b.x +ℤ pos b.w) -ℤ b.x ≡ pos b.w = omega (arith, ints) in
        let down : (b.y +ℤ pos b.h) -ℤ b.y ≡ pos b.h = omega (arith, ints) in
        rw (some, left, top, right, bottom) (box_parts b.x b.x b.y b.y _ b.w _ b.h refl refl (ap unsigned_abs across) (ap unsigned_abs down))

  empty_box : b ≡ no_box → box_from column row from count ≡ b
  empty_box e = by_test (some_from column from count) refl
    where
      by_test : (t : Bool) → some_from column from count ≡ t → box_from column row from count ≡ b
      by_test false none = rw none (sym e)
      by_test true some =
          let r = some_from-found column from count some in
          let m = column_in r.0 r.3 in
          let l = m.0 in
          let g = m.1 in
          let x : b.x ≡ pos 0 = ap (λ (z : PixelBox). z.x) e in
          let w : b.w ≡ 0 = ap (λ (z : PixelBox). z.w) e in
          absurd (omega (arith, ints))

-- the least box of the pixels that pass is the one that the search finds, if it lies so near to 0
pub box_within-is : (limit : ℕ) (passes : ℤ → ℤ → Bool) (b : PixelBox) → IsLeastOf passes b → IsBoxNear limit b → IsProper b → b ≡ box_within limit passes
unfolding box_within column row from count
box_within-is limit passes b is near (inl e) = sym (empty_box limit passes b is near e)
box_within-is limit passes b is near (inr s) = sym (full_box limit passes b is near s.0 s.1)
