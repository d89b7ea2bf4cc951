-- The least box of the pixels at which two pictures differ.
use Rattle.std.proofs.Common.{◌≡◌, ℕ, zero, suc, ◌+◌, ◌-◌, ◌*◌, ◌/◌, ◌%◌, ◌<◌, ◌≤◌, inl, inr, List, length, get_or, sym, ap, ◌∙◌, arith}
use Rattle.std.proofs.Math.Nat.{div-lt_iff_lt-mul, le-div_iff_mul-le, div-mul-le_self, mod-lt, mod-add-div', mul-le-mul_left}
use Rattle.std.proofs.lemmas.List.{ext_get_or}
use Rattle.ass_num.specs.declared.size.Size.{Size}
use Rattle.frame_change.specs.Changes.{DiffersAt, IsLeastChanged, IsPicture}
use Rattle.frame_change.specs.Rows.{AreSame, AreColumns}
use Rattle.frame_change.specs.declared.pixels.Changed.{Changed}
use Rattle.frame_change.proofs.ColumnLemmas.{Differs}
use Rattle.std.proofs.lemmas.Bool.{cases_lt}

-- all bytes are the same
pub all_same : (a b : List ℕ) → length a ≡ length b → AreSame a b 0 (length a) → a ≡ b
all_same a b sizes same = ext_get_or 0 a b sizes (λ i inside. same i (omega arith) inside)

-- a picture that has a byte has a column and a row
some_side : (m n k : ℕ) → k < 3 * (m * n) → 0 < m
some_side zero n k below = absurd (omega (arith, nothing n))
  where
    nothing : (n : ℕ) → zero * n ≡ 0
    nothing n = omega arith
some_side (suc m) n k below = omega arith

pub some_column : (size : Size) (a : List ℕ) (k : ℕ) → IsPicture size a → k < length a → 0 < size.w
some_column size a k picture inside = some_side size.w size.h k (omega (arith, picture))

-- the row of a byte
pub row_within : (w h k : ℕ) → 0 < w → k < 3 * (w * h) → k / (3 * w) < h
row_within w h k some below = (div-lt_iff_lt-mul (omega arith)).1 (omega arith)

-- rows end within the picture
pub rows_within : (w h n : ℕ) → n ≤ h → n * (3 * w) ≤ 3 * (w * h)
rows_within w h n below = omega (arith, mul-le-mul_left (3 * w) below)

-- the pixel of a byte
column_of : ℕ → ℕ → ℕ
column_of w k = k % (3 * w) / 3

pub pixel_of : (w : ℕ) (a b : List ℕ) (k : ℕ) → 0 < w → Differs a b k → (i : ℕ) × (i < w) × DiffersAt w a b i (k / (3 * w))
pixel_of w a b k some differs =
    let r : ℕ = k % (3 * w) in
    let i : ℕ = r / 3 in
    let c : ℕ = r % 3 in
    let small : r < 3 * w = mod-lt k (omega arith) in
    let whole : r + k / (3 * w) * (3 * w) ≡ k = mod-add-div' k (3 * w) in
    let rest : c + i * 3 ≡ r = mod-add-div' r 3 in
    let few : c < 3 = mod-lt r (omega arith) in
    let place : 3 * (k / (3 * w) * w + i) + c ≡ k = omega (arith, whole, rest) in
    (i, omega arith, (c, few, λ e. differs (ap (λ n. get_or a n 0) (sym place) ∙ e ∙ ap (λ n. get_or b n 0) place)))

module _ (size : Size) (a b : List ℕ) (picture : IsPicture size a) (first last : ℕ) (some : 0 < size.w)
    (inside : first < length a) (before : AreSame a b 0 first) (differs : Differs a b first)
    (within : last ≤ length a) (behind : AreSame a b last (length a)) (ends : 0 < last → Differs a b (last - 1)) where
  abbrev w : ℕ
  w = size.w

  pub reaches : first < last
  reaches = elim (cases_lt first last) [ inl less ↦ less | inr past ↦ absurd (differs (behind first past inside)) ]

  last_row : (last - 1) / (3 * w) < size.h
  last_row = row_within w size.h (last - 1) some (omega (arith, reaches, picture))

  pub last_rows : (last - 1) / (3 * w) + 1 ≤ size.h
  last_rows = omega (arith, last_row)

  pub order : first / (3 * w) ≤ (last - 1) / (3 * w)
  order = (le-div_iff_mul-le (omega arith)).1 (omega (arith, div-mul-le_self first (3 * w), reaches))

  -- a pixel that differs stands in the rows between
  row_between : (i j : ℕ) → i < w → j < size.h → DiffersAt w a b i j → (first / (3 * w) ≤ j) × (j < (last - 1) / (3 * w) + 1)
  row_between i j in_row in_picture at =
      let m : ℕ = 3 * (j * w + i) + at.0 in
      let low : first ≤ m = elim (cases_lt m first) [ inl less ↦ absurd (at.2 (before m (omega arith) less)) | inr past ↦ past ] in
      let rows : (j + 1) * (3 * w) ≤ 3 * (w * size.h) = rows_within w size.h (j + 1) (omega arith) in
      let whole : m < length a = omega (arith, at.1, rows, picture) in
      let high : m < last = elim (cases_lt m last) [ inl less ↦ less | inr past ↦ absurd (at.2 (behind m past whole)) ] in
      let above : first / (3 * w) < j + 1 = (div-lt_iff_lt-mul (omega arith)).1 (omega (arith, at.1, low)) in
      let below : j ≤ (last - 1) / (3 * w) = (le-div_iff_mul-le (omega arith)).1 (omega (arith, high)) in
      (omega arith, omega arith)

  module _ (left right : ℕ) (columns : AreColumns w a b (first / (3 * w)) ((last - 1) / (3 * w) + 1) left right) where
    top_pixel : (i : ℕ) × (i < w) × DiffersAt w a b i (first / (3 * w))
    top_pixel = pixel_of w a b first some differs

    bottom_pixel : (i : ℕ) × (i < w) × DiffersAt w a b i ((last - 1) / (3 * w))
    bottom_pixel = pixel_of w a b (last - 1) some (ends (omega (arith, reaches)))

    between : (left ≤ top_pixel.0) × (top_pixel.0 < right)
    between = columns.has top_pixel.0 (first / (3 * w)) top_pixel.1 (omega arith) (omega (arith, order)) top_pixel.2

    pub least_is : (box : Changed) → box.x1 ≡ left → box.x2 ≡ right → box.y1 ≡ first / (3 * w) → box.y2 ≡ (last - 1) / (3 * w) + 1 → IsLeastChanged size a b box
    least_is box x1 x2 y1 y2 = record {
      has = λ i j in_row in_picture at. (
          let rows = row_between i j in_row in_picture at in
          let found = columns.has i j in_row rows.0 rows.1 at in
          record { left = omega (arith, x1, found.0); right = omega (arith, x2, found.1); top = omega (arith, y1, rows.0); bottom = omega (arith, y2, rows.1) }
          );
      least = λ other held. (
          let l = columns.left_differs (omega (arith, between.0, top_pixel.1)) in
          let r = columns.right_differs (omega (arith, between.1)) in
          let at_left = held left l.0 (omega (arith, between.0, top_pixel.1)) (omega (arith, l.2, last_row)) l.3 in
          let at_right = held (right - 1) r.0 (omega (arith, columns.right_within, between.1)) (omega (arith, r.2, last_row)) r.3 in
          let at_top = held top_pixel.0 (first / (3 * w)) top_pixel.1 (omega (arith, order, last_row)) top_pixel.2 in
          let at_bottom = held bottom_pixel.0 ((last - 1) / (3 * w)) bottom_pixel.1 last_row bottom_pixel.2 in
          record {
            left = omega (arith, x1, at_left.left);
            right = omega (arith, x2, at_right.right, between.1);
            top = omega (arith, y1, at_top.top);
            bottom = omega (arith, y2, at_bottom.bottom);
          }
          );
    }
