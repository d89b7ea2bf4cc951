-- Public: the least box of the pixels that pass a test, and the mask of a formula in a box.
use Rattle.std.specs.Prelude.{ℕ, zero, suc, ◌+◌, ◌*◌, ◌/◌, ◌%◌, ℤ, pos, neg_ℤ, ◌+ℤ◌, ◌-ℤ◌, Bool, false, ◌||◌, map, unsigned_abs, if◌then◌else◌}
use Rattle.std.specs.List.{range_with_len}
use Rattle.ass_num.specs.Coverage.{PixelBox}
use Rattle.ass_num.specs.Masks.{MaskValue}

-- some of n whole numbers from i on passes
unfoldable pub some_from : (ℤ → Bool) → ℤ → ℕ → Bool
some_from passes i zero = false
some_from passes i (suc n) = passes i || some_from passes (i +ℤ pos 1) n

-- the first of them that passes; the one behind them where none does
unfoldable pub first_from : (ℤ → Bool) → ℤ → ℕ → ℤ
first_from passes i zero = i
first_from passes i (suc n) = if passes i then i else first_from passes (i +ℤ pos 1) n

-- the one behind the last of them that passes; the first where none does
unfoldable pub last_end_from : (ℤ → Bool) → ℤ → ℕ → ℤ
last_end_from passes i zero = i
last_end_from passes i (suc n) = if passes (i +ℤ pos n) then i +ℤ pos (suc n) else last_end_from passes i n

-- the box without pixels
abbrev pub no_box : PixelBox
no_box = record { x = pos 0; y = pos 0; w = 0; h = 0 }

-- the box from the first to the last of its columns and rows, given by the places behind these
abbrev pub box_between : ℤ → ℤ → ℤ → ℤ → PixelBox
box_between left top right bottom = record { x = left; y = top; w = unsigned_abs (right -ℤ left); h = unsigned_abs (bottom -ℤ top) }

-- the box of the columns and the rows that have a pixel, of n numbers from `from` on
abbrev pub box_from : (ℤ → Bool) → (ℤ → Bool) → ℤ → ℕ → PixelBox
box_from column row from n =
    if some_from column from n
    then box_between (first_from column from n) (first_from row from n) (last_end_from column from n) (last_end_from row from n)
    else no_box

-- The least box of the pixels within `limit` of 0 that pass.
unfoldable pub box_within : ℕ → (ℤ → ℤ → Bool) → PixelBox
box_within limit passes =
    let from = neg_ℤ (pos limit) in
    let n = 2 * limit + 1 in
    box_from (λ x. some_from (λ y. passes x y) from n) (λ y. some_from (λ x. passes x y) from n) from n

-- The mask that has the values of a formula in a box. Pixel number k, counted row by row, stands in column k % w and row k / w.
unfoldable pub mask_in : PixelBox → (ℤ → ℤ → ℕ) → MaskValue
mask_in b value = record {
  x = b.x;
  y = b.y;
  w = b.w;
  h = b.h;
  bytes = map (λ k. value (b.x +ℤ pos (k % b.w)) (b.y +ℤ pos (k / b.w))) (range_with_len 0 (b.w * b.h));
}
