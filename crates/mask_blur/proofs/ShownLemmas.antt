-- Pictures that bytes show.
use Rattle.std.proofs.Common.{◌≡◌, ℕ, ◌+◌, ◌*◌, ◌<◌, ◌≤◌, ℤ, pos, ◌+ℤ◌, ◌-ℤ◌, ◌≤ℤ◌, List, length, get_or, ap, subst, ◌∙◌, ⊎_elim, arith}
use Rattle.std.proofs.lemmas.Bool.{cases_lt}
use Rattle.std.proofs.lemmas.Int.{ints}
use Rattle.std.proofs.lemmas.Nat.{mul-le}
use borrow.Rule.Slice.PartMut.{put_mid}
use Rattle.mask_blur.specs.Blur.{along_columns}
use Rattle.mask_blur.specs.Lines.{Lays}
use Rattle.mask_blur.specs.Shown.{HasMaskRows, IsBoxed, Shows}
use Rattle.mask_blur.specs.Softening.{neighbour_sum, softer}
use Rattle.mask_blur.proofs.LineLemmas.{smoothed_zero, smoothed_beside}
use Rattle.mask_blur.proofs.PutLemmas.{put_below, put_inside}

-- no rows
pub rows_none : (f : ℤ → ℤ → ℕ) (x y : ℤ) (w : ℕ) (bytes : List ℕ) → HasMaskRows f x y w 0 bytes
rows_none f x y w bytes = record { cells = λ i j a b. absurd (omega arith) }

-- one row more
pub rows_more : (f : ℤ → ℤ → ℕ) (x y v : ℤ) (w k start count : ℕ) (bytes row : List ℕ) → HasMaskRows f x y w k bytes → v ≡ y +ℤ pos k
    → start ≡ k * w → start + w ≤ length bytes → length row ≡ w → Lays (λ u. f u v) x row
    → HasMaskRows f x y w (k + 1) (put_mid start count bytes row)
rows_more f x y v w k start count bytes row has place at fits long lays = record {
  cells = λ i j a b. ⊎_elim
      (λ (above : j < k).
      let rows : (j + 1) * w ≤ k * w = mul-le (j + 1) w k w (omega arith) (omega arith) in
      put_below start count (j * w + i) bytes row (omega arith) (omega arith) ∙ has.cells i j a above)
      (λ (here : k ≤ j).
      let same : j ≡ k = omega arith in
      let column : i < length row = omega arith in
      let last : y +ℤ pos j ≡ v = omega (arith, ints) in
      let cell : j * w + i ≡ start + i = omega (arith, at, ap (λ n. n * w) same) in
      ap (λ n. get_or (put_mid start count bytes row) n 0) cell ∙ put_inside start count i bytes row (omega arith) column ∙ rw last (lays i column))
      (cases_lt j k);
}

-- ---- where a pass leaves 0

pub softer_boxed : (f : ℤ → ℤ → ℕ) (x y : ℤ) (w h : ℕ) → IsBoxed f x y w h → IsBoxed (softer f) (x -ℤ pos 1) (y -ℤ pos 1) (w + 2) (h + 2)
softer_boxed f x y w h none = record {
  rows = λ v. record {
    before = λ u out. softer_zero u v (λ i j a b. (none.rows j).before i (omega (arith, ints)));
    behind = λ u out. softer_zero u v (λ i j a b. (none.rows j).behind i (omega (arith, ints)));
  };
  columns = λ u. record {
    before = λ v out. softer_zero u v (λ i j a b. (none.columns i).before j (omega (arith, ints)));
    behind = λ v out. softer_zero u v (λ i j a b. (none.columns i).behind j (omega (arith, ints)));
  };
}
  where
    softer_zero : (u v : ℤ) → ((i j : ℤ) → ((u -ℤ pos 1) ≤ℤ i) × (i ≤ℤ (u +ℤ pos 1)) → ((v -ℤ pos 1) ≤ℤ j) × (j ≤ℤ (v +ℤ pos 1)) → f i j ≡ 0) → softer f u v ≡ 0
    softer_zero u v zeros =
        let row = λ (j : ℤ) (b : ((v -ℤ pos 1) ≤ℤ j) × (j ≤ℤ (v +ℤ pos 1))).
        let left = zeros (u -ℤ pos 1) j (omega (arith, ints), omega (arith, ints)) b in
        let here = zeros u j (omega (arith, ints), omega (arith, ints)) b in
        let right = zeros (u +ℤ pos 1) j (omega (arith, ints), omega (arith, ints)) b in
        let sum : neighbour_sum (λ i. f i j) u ≡ 0 = omega arith in sum in
        let above = row (v -ℤ pos 1) (omega (arith, ints), omega (arith, ints)) in
        let middle = row v (omega (arith, ints), omega (arith, ints)) in
        let below = row (v +ℤ pos 1) (omega (arith, ints), omega (arith, ints)) in
        omega (arith, above, middle, below)

pub along_columns_boxed : (r : ℕ) (f : ℤ → ℤ → ℕ) (x y : ℤ) (w h : ℕ) → IsBoxed f x y w h → IsBoxed (along_columns r f) x (y -ℤ pos r) w (h + 2 * r)
along_columns_boxed r f x y w h none = record {
  rows = λ v. record {
    before = λ u out. smoothed_zero r (f u) v (λ k l. (none.rows ((v -ℤ pos r) +ℤ pos k)).before u out);
    behind = λ u out. smoothed_zero r (f u) v (λ k l. (none.rows ((v -ℤ pos r) +ℤ pos k)).behind u out);
  };
  columns = λ u. smoothed_beside r (f u) y h (none.columns u);
}

-- ---- the same box, written otherwise

boxed_at : (f : ℤ → ℤ → ℕ) (x y s t : ℤ) (w h m n : ℕ) → IsBoxed f x y w h → x ≡ s → y ≡ t → w ≡ m → h ≡ n → IsBoxed f s t m n
boxed_at f x y s t w h m n boxed a b c d =
    let one = subst (λ (z : ℤ). IsBoxed f z y w h) a boxed in
    let two = subst (λ (z : ℤ). IsBoxed f s z w h) b one in
    let three = subst (λ (k : ℕ). IsBoxed f s t k h) c two in
    subst (λ (k : ℕ). IsBoxed f s t m k) d three

pub shows_at : (f : ℤ → ℤ → ℕ) (x y s t : ℤ) (w h m n : ℕ) (bytes : List ℕ) → Shows f x y w h bytes → x ≡ s → y ≡ t → w ≡ m → h ≡ n → Shows f s t m n bytes
shows_at f x y s t w h m n bytes shows a b c d =
    let one = subst (λ (z : ℤ). Shows f z y w h bytes) a shows in
    let two = subst (λ (z : ℤ). Shows f s z w h bytes) b one in
    let three = subst (λ (k : ℕ). Shows f s t k h bytes) c two in
    subst (λ (k : ℕ). Shows f s t m k bytes) d three
