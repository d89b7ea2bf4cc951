-- The part of a picture in a box.
use Rattle.std.proofs.Common.{◌≡◌, ℕ, zero, suc, ◌+◌, ◌-◌, ◌*◌, ◌<◌, ◌≤◌, List, [], ◌∷◌, ◌++◌, append-nil, drop, flat_map, get_or, length, length-append, sym, ap, ◌∙◌, arith}
use Rattle.std.specs.List.{range_with_len}
use Rattle.core.proofs.iter.Rest.{range_with_len_last}
use Rattle.std.proofs.lemmas.Grind.{flat_map-append}
use Rattle.std.proofs.Math.Nat.{mul-le-mul_left}
use Rattle.std.proofs.lemmas.List.{get_or-append-add, get_or_append_left, get_or-drop, get_or-take, length-drop, length-take-le}
use Rattle.ass_num.specs.declared.size.Size.{Size}
use Rattle.frame_change.specs.declared.pixels.Changed.{Changed}
use Rattle.still_images.specs.Boxes.{HasPixels, IsOnFrame, box_size, cropped, cropped_row}

-- one row more
pub rows_more : (f : ℕ → List ℕ) (a y : ℕ) (old row new : List ℕ) → a ≤ y → old ≡ flat_map f (range_with_len a (y - a)) → row ≡ f y → new ≡ old ++ row → new ≡ flat_map f (range_with_len a (y + 1 - a))
rows_more f a y old row new low was this is =
    let back : y + 1 - 1 ≡ y = omega arith in
    let rows = flat_map f (range_with_len a (y - a)) in
    let range : range_with_len a (y + 1 - a) ≡ range_with_len a (y - a) ++ y ∷ [] =
    range_with_len_last a (y + 1) (omega (arith, low)) ∙ ap (λ n. range_with_len a (n - a) ++ n ∷ []) back in
    is ∙ (ap (λ z. z ++ row) was ∙ (ap (λ z. rows ++ z) (this ∙ sym (append-nil (f y)))
    ∙ (sym (flat_map-append f (range_with_len a (y - a)) (y ∷ [])) ∙ ap (flat_map f) (sym range))))

module _ (depth : ℕ) (size : Size) (box : Changed) (bytes : List ℕ) (counted : HasPixels depth size bytes) (on : IsOnFrame size box) where
  rows_end : (y : ℕ) → y < size.h → y * size.w + size.w ≤ size.w * size.h
  rows_end y low =
      let below : y + 1 ≤ size.h = omega (arith, low) in
      let rows : size.w * (y + 1) ≤ size.w * size.h = mul-le-mul_left size.w below in
      omega (arith, rows)

  -- a row of the box ends within the picture
  pub row_within : (y : ℕ) → y < size.h → depth * (y * size.w + box.x1) + depth * (box.x2 - box.x1) ≤ length bytes
  row_within y low =
      let width : ℕ = box.x2 - box.x1 in
      let inside : y * size.w + box.x1 + width ≤ size.w * size.h = omega (arith, rows_end y low, on.across, on.right) in
      let all : depth * (y * size.w + box.x1 + width) ≤ depth * (size.w * size.h) = mul-le-mul_left depth inside in
      omega (arith, counted, all)

  pub row_length : (y : ℕ) → y < size.h → length (cropped_row depth size.w box bytes y) ≡ depth * (box.x2 - box.x1)
  row_length y low = length-take-le (depth * (box.x2 - box.x1)) (drop (depth * (y * size.w + box.x1)) bytes)
      (omega (arith, row_within y low, length-drop (depth * (y * size.w + box.x1)) bytes))

  rows_length : (n y : ℕ) → y + n ≤ size.h → length (flat_map (cropped_row depth size.w box bytes) (range_with_len y n)) ≡ n * (depth * (box.x2 - box.x1))
  rows_length zero y within = let e : 0 ≡ 0 * (depth * (box.x2 - box.x1)) = omega arith in e
  rows_length (suc n) y within =
      let rest = flat_map (cropped_row depth size.w box bytes) (range_with_len (y + 1) n) in
      length-append (cropped_row depth size.w box bytes y) rest ∙ omega (arith, row_length y (omega (arith, within)), rows_length n (y + 1) (omega (arith, within)))

  pub cropped_pixels : HasPixels depth (box_size box) (cropped depth size.w box bytes)
  cropped_pixels =
      let rows = rows_length (box.y2 - box.y1) box.y1 (omega (arith, on.down, on.bottom)) in
      omega (arith, rows)

  -- byte m of row j of the rows from y on
  rows_byte : (n y j m : ℕ) → y + n ≤ size.h → j < n → m < depth * (box.x2 - box.x1)
      → get_or (flat_map (cropped_row depth size.w box bytes) (range_with_len y n)) (j * (depth * (box.x2 - box.x1)) + m) 0 ≡ get_or (cropped_row depth size.w box bytes (y + j)) m 0
  rows_byte zero y j m within low inside = absurd (omega (arith, low))
  rows_byte (suc n) y zero m within low inside =
      let rest = flat_map (cropped_row depth size.w box bytes) (range_with_len (y + 1) n) in
      let first = cropped_row depth size.w box bytes y in
      let place : zero * (depth * (box.x2 - box.x1)) + m ≡ m = omega arith in
      let row : y ≡ y + zero = omega arith in
      ap (λ k. get_or (first ++ rest) k 0) place ∙ get_or_append_left first rest 0 m (omega (arith, inside, row_length y (omega (arith, within))))
      ∙ ap (λ k. get_or (cropped_row depth size.w box bytes k) m 0) row
  rows_byte (suc n) y (suc j) m within low inside =
      let first = cropped_row depth size.w box bytes y in
      let rest = flat_map (cropped_row depth size.w box bytes) (range_with_len (y + 1) n) in
      let place : suc j * (depth * (box.x2 - box.x1)) + m ≡ length first + (j * (depth * (box.x2 - box.x1)) + m) = omega (arith, row_length y (omega (arith, within))) in
      let row : y + 1 + j ≡ y + suc j = omega arith in
      ap (λ k. get_or (first ++ rest) k 0) place ∙ get_or-append-add first rest (j * (depth * (box.x2 - box.x1)) + m) 0
      ∙ rows_byte n (y + 1) j m (omega (arith, within)) (omega (arith, low)) inside ∙ ap (λ k. get_or (cropped_row depth size.w box bytes k) m 0) row

  -- the byte of a pixel in the box
  pub cropped_byte : (i j k : ℕ) → k < depth → box.x1 ≤ i → i < box.x2 → box.y1 ≤ j → j < box.y2
      → get_or bytes (depth * (j * size.w + i) + k) 0 ≡ get_or (cropped depth size.w box bytes) (depth * ((j - box.y1) * (box.x2 - box.x1) + (i - box.x1)) + k) 0
  cropped_byte i j k few left right top bottom =
      let m : ℕ = depth * (i - box.x1) + k in
      let column : i - box.x1 + 1 ≤ box.x2 - box.x1 = omega (arith, left, right) in
      let inside : m < depth * (box.x2 - box.x1) = omega (arith, few, mul-le-mul_left depth column) in
      let there : i ≡ box.x1 + (i - box.x1) = omega (arith, left) in
      let row : box.y1 + (j - box.y1) ≡ j = omega (arith, top) in
      let scaled : depth * i ≡ depth * (box.x1 + (i - box.x1)) = ap (λ x. depth * x) there in
      let place : depth * (j * size.w + box.x1) + m ≡ depth * (j * size.w + i) + k = omega (arith, scaled) in
      let in_part : (j - box.y1) * (depth * (box.x2 - box.x1)) + m ≡ depth * ((j - box.y1) * (box.x2 - box.x1) + (i - box.x1)) + k = omega arith in
      sym (ap (λ n. get_or (cropped depth size.w box bytes) n 0) (sym in_part)
      ∙ rows_byte (box.y2 - box.y1) box.y1 (j - box.y1) m (omega (arith, on.down, on.bottom)) (omega (arith, top, bottom)) inside
      ∙ ap (λ n. get_or (cropped_row depth size.w box bytes n) m 0) row
      ∙ get_or-take (depth * (box.x2 - box.x1)) (drop (depth * (j * size.w + box.x1)) bytes) m 0 inside
      ∙ get_or-drop (depth * (j * size.w + box.x1)) bytes m 0 ∙ ap (λ n. get_or bytes n 0) place)
