-- The bytes of a mask, added row by row.
use Rattle.std.proofs.Common.{◌≡◌, ℕ, zero, suc, min, ◌+◌, ◌-◌, ◌*◌, ◌<◌, ◌≤◌, ◌⊎◌, inl, inr, true, false, nat_lt, ℤ, pos, ◌+ℤ◌, ◌-ℤ◌, ◌<ℤ◌, ◌≤ℤ◌, List, [], ◌∷◌, ◌++◌, length, take, drop, get_or, refl, sym, ap, ◌∙◌, subst, arith, replicate, length-take, length-drop, sum_by}
use Rattle.std.proofs.Math.Nat.{mul-le-mul_left}
use Rattle.std.proofs.lemmas.Int.{ints, by_lt_z}
use Rattle.std.proofs.lemmas.Bool.Decides.{nat_tests}
use Rattle.std.proofs.lemmas.List.{get_or-take, get_or-drop}
use Rattle.std.proofs.lemmas.List.Sums.{sum_by_push}
use Rattle.ass_num.specs.Coverage.{box_of, moved_value, IsSum}
use Rattle.ass_num.specs.Masks.{MaskValue, is_mask, value_at, offset_value}
use Rattle.mask_cover.proofs.CoverLemmas.{distance}
use Rattle.ass_num.proofs.MaskLemmas.{cell_below, mask_length, offset_inside, offset_left, offset_above, value_inside, value_beside, value_over, value_most}
use Rattle.mask_cover.specs.Rows.{AddsRow, AddsCells, cell_added}
use Rattle.mask_cover.specs.Sums.{AddsMask, IsBoxOf, HasSum}

split : (a b : ℕ) → (a < b) ⊎ (b ≤ a)
split a zero = inr (omega arith)
split zero (suc b) = inl (omega arith)
split (suc a) (suc b) = elim (split a b) [ inl l ↦ inl (omega arith) | inr g ↦ inr (omega arith) ]

cell_on : (mask : MaskValue) (column row count r i : ℕ) → r < row + count → cell_added mask column row count r i ≡ offset_value mask (pos i -ℤ pos column) (pos r -ℤ pos row)
cell_on mask column row count r i on = let test : nat_lt r (row + count) ≡ true = grind (arith, nat_tests) in rw test

cell_off : (mask : MaskValue) (column row count r i : ℕ) → row + count ≤ r → cell_added mask column row count r i ≡ 0
cell_off mask column row count r i off = let test : nat_lt r (row + count) ≡ false = grind (arith, nat_tests) in rw test

-- ---- rows of bytes

pub cells_none : (mask : MaskValue) (width column row : ℕ) (old : List ℕ) → ((k : ℕ) → get_or old k 0 ≤ 255) → AddsCells mask width column row 0 old old
cells_none mask width column row old bytes = record {
  cells = λ r i lt fit. let none = nothing r i in let small = bytes (r * width + i) in omega (arith, none, small);
}
  where
    nothing : (r i : ℕ) → cell_added mask column row 0 r i ≡ 0
    nothing r i = elim (split r (row + 0)) [
      | inl on ↦ cell_on mask column row 0 r i on ∙ offset_above mask (pos i -ℤ pos column) (pos r -ℤ pos row) (inl (omega (arith, ints)))
      | inr off ↦ cell_off mask column row 0 r i off
    ]

pub cells_more : (mask : MaskValue) (width column row j : ℕ) (old mid new part : List ℕ) → column + mask.w ≤ width → j < mask.h → length part ≡ mask.w
    → ((i : ℕ) → i < mask.w → get_or part i 0 ≡ get_or mask.bytes (j * mask.w + i) 0) → AddsRow ((row + j) * width + column) part mid new → AddsCells mask width column row j old mid → AddsCells mask width column row (j + 1) old new
cells_more mask width column row j old mid new part fits below size bytes adds cells = record {
  cells = λ r i lt fit. elim (split r (row + j)) [
    | inl above ↦ let p : r * width + i < (row + j) * width = earlier r (row + j) i lt above in
        adds.before (r * width + i) (omega (arith, p)) ∙ cells.cells r i lt fit
        ∙ ap (λ z. min 255 (get_or old (r * width + i) 0 + z)) (cell_on mask column row j r i above ∙ sym (cell_on mask column row (j + 1) r i (omega arith)))
    | inr more ↦ elim (split (row + j) r) [
      | inl behind ↦ let p : (row + j) * width + width ≤ r * width = later (row + j) r behind in
          adds.behind (r * width + i) (omega (arith, p, size)) ∙ cells.cells r i lt fit
          ∙ ap (λ z. min 255 (get_or old (r * width + i) 0 + z)) (cell_off mask column row j r i (omega arith) ∙ sym (cell_off mask column row (j + 1) r i (omega arith)))
      | inr less ↦ let here : r ≡ row + j = omega arith in
          let old_cell : get_or mid (r * width + i) 0 ≡ min 255 (get_or old (r * width + i) 0 + 0) = cells.cells r i lt fit ∙ ap (λ z. min 255 (get_or old (r * width + i) 0 + z)) (cell_off mask column row j r i more) in
          let same_row : r * width ≡ (row + j) * width = ap (λ z. z * width) here in
          let on = cell_on mask column row (j + 1) r i (omega arith) in
          elim (split i column) [
            | inl left ↦ let outside = offset_left mask (pos i -ℤ pos column) (pos r -ℤ pos row) (inl (omega (arith, ints))) in
                let kept = adds.before (r * width + i) (omega (arith, same_row)) in omega (arith, kept, old_cell, on, outside)
            | inr from ↦ elim (split i (column + mask.w)) [
              | inl within ↦
                  let at : r * width + i ≡ ((row + j) * width + column) + (i - column) = omega (arith, same_row) in
                  let inside : get_or new (r * width + i) 0 ≡ min 255 (get_or mid (r * width + i) 0 + get_or part (i - column) 0) =
                  ap (λ z. get_or new z 0) at ∙ adds.inside (i - column) (omega (arith, size)) ∙ ap (λ z. min 255 (get_or mid z 0 + get_or part (i - column) 0)) (sym at) in
                  let byte : offset_value mask (pos i -ℤ pos column) (pos r -ℤ pos row) ≡ get_or mask.bytes (j * mask.w + (i - column)) 0 =
                  offset_inside mask (pos i -ℤ pos column) (pos r -ℤ pos row) (i - column) j (omega (arith, ints)) (omega (arith, ints)) (omega arith) below in
                  let read = bytes (i - column) (omega arith) in
                  omega (arith, inside, old_cell, on, byte, read)
              | inr right ↦ let outside = offset_left mask (pos i -ℤ pos column) (pos r -ℤ pos row) (inr (omega (arith, ints))) in
                  let kept = adds.behind (r * width + i) (omega (arith, same_row, size)) in omega (arith, kept, old_cell, on, outside)
            ]
          ]
    ]
  ];
}
  where
    earlier : (a b i : ℕ) → i < width → a < b → a * width + i < b * width
    earlier a b i lt less = omega (arith, cell_below i a width b lt less)

    later : (a b : ℕ) → a < b → a * width + width ≤ b * width
    later a b less = let more : a + 1 ≤ b = omega arith in omega (arith, mul-le-mul_left width more)

pub row_fits : (row j h width column w n : ℕ) → j < h → column + w ≤ width → (row + h) * width ≤ n → ((row + j) * width + column) + w ≤ n
row_fits row j h width column w n below fits all =
    let more : (row + j) + 1 ≤ row + h = omega arith in omega (arith, mul-le-mul_left width more)

pub part_fits : (j w h n : ℕ) → j < h → n ≡ w * h → j * w + w ≤ n
part_fits j w h n below all = let more : j + 1 ≤ h = omega arith in omega (arith, mul-le-mul_left w more)

-- ---- whole masks

pub add_is : (p : MaskValue × ℤ × ℤ) (old : MaskValue) (bytes : List ℕ) (column row : ℕ) → (p.0.x +ℤ p.1) ≡ (old.x +ℤ pos column) → (p.0.y +ℤ p.2) ≡ (old.y +ℤ pos row) → column + p.0.w ≤ old.w → row + p.0.h ≤ old.h
    → is_mask old ≡ true → AddsCells p.0 old.w column row p.0.h old.bytes bytes → AddsMask p old (record { x = old.x; y = old.y; w = old.w; h = old.h; bytes = bytes })
add_is p old bytes column row across down wide high is cells = record {
  box = refl;
  value = λ x y. by_lt_z x old.x
      (λ (l : x <ℤ old.x). nothing x y (value_beside new x y (inl l)) (value_beside old x y (inl l)) (value_beside p.0 (x -ℤ p.1) (y -ℤ p.2) (inl (omega (arith, ints)))))
      (λ (l : old.x ≤ℤ x). by_lt_z x (old.x +ℤ pos old.w)
      (λ (r : x <ℤ (old.x +ℤ pos old.w)). by_lt_z y old.y
      (λ (t : y <ℤ old.y). nothing x y (value_over new x y (inl t)) (value_over old x y (inl t)) (value_over p.0 (x -ℤ p.1) (y -ℤ p.2) (inl (omega (arith, ints)))))
      (λ (t : old.y ≤ℤ y). by_lt_z y (old.y +ℤ pos old.h)
      (λ (b : y <ℤ (old.y +ℤ pos old.h)). within x y l r t b)
      (λ (b : (old.y +ℤ pos old.h) ≤ℤ y). nothing x y (value_over new x y (inr b)) (value_over old x y (inr b)) (value_over p.0 (x -ℤ p.1) (y -ℤ p.2) (inr (omega (arith, ints)))))))
      (λ (r : (old.x +ℤ pos old.w) ≤ℤ x). nothing x y (value_beside new x y (inr r)) (value_beside old x y (inr r)) (value_beside p.0 (x -ℤ p.1) (y -ℤ p.2) (inr (omega (arith, ints))))));
}
  where
    new : MaskValue
    new = record { x = old.x; y = old.y; w = old.w; h = old.h; bytes = bytes }

    nothing : (x y : ℤ) → value_at new x y ≡ 0 → value_at old x y ≡ 0 → moved_value p x y ≡ 0 → value_at new x y ≡ min 255 (value_at old x y + moved_value p x y)
    nothing x y e f g = omega (arith, e, f, g)

    within : (x y : ℤ) → old.x ≤ℤ x → x <ℤ (old.x +ℤ pos old.w) → old.y ≤ℤ y → y <ℤ (old.y +ℤ pos old.h) → value_at new x y ≡ min 255 (value_at old x y + moved_value p x y)
    within x y l r t b =
        let i = distance old.x x l in
        let j = distance old.y y t in
        let a : i.0 < old.w = omega (arith, ints, i.1) in
        let c : j.0 < old.h = omega (arith, ints, j.1) in
        let u : (x -ℤ p.1) -ℤ p.0.x ≡ pos i.0 -ℤ pos column = omega (arith, ints, i.1) in
        let v : (y -ℤ p.2) -ℤ p.0.y ≡ pos j.0 -ℤ pos row = omega (arith, ints, j.1) in
        let moved : moved_value p x y ≡ offset_value p.0 (pos i.0 -ℤ pos column) (pos j.0 -ℤ pos row) = ap (λ z. offset_value p.0 z ((y -ℤ p.2) -ℤ p.0.y)) u ∙ ap (offset_value p.0 (pos i.0 -ℤ pos column)) v in
        let added : cell_added p.0 column row p.0.h j.0 i.0 ≡ offset_value p.0 (pos i.0 -ℤ pos column) (pos j.0 -ℤ pos row) = elim (split j.0 (row + p.0.h)) [
          | inl on ↦ cell_on p.0 column row p.0.h j.0 i.0 on
          | inr off ↦ cell_off p.0 column row p.0.h j.0 i.0 off ∙ sym (offset_above p.0 (pos i.0 -ℤ pos column) (pos j.0 -ℤ pos row) (inr (omega (arith, ints))))
        ] in
        let size : length old.bytes ≡ old.w * old.h = mask_length old is in
        let fit : (j.0 + 1) * old.w ≤ length old.bytes = omega (arith, size, part_fits j.0 old.w old.h (length old.bytes) c size) in
        let cell = cells.cells j.0 i.0 a fit in
        let before = value_inside old x y i.0 j.0 i.1 j.1 a c in
        let behind = value_inside new x y i.0 j.0 i.1 j.1 a c in
        omega (arith, cell, before, behind, moved, added)

-- a mask without pixels adds nothing
pub add_none : (p : MaskValue × ℤ × ℤ) (old : MaskValue) → p.0.w ≡ 0 → ((k : ℕ) → get_or old.bytes k 0 ≤ 255) → AddsMask p old old
add_none p old none bytes = record {
  box = refl;
  value = λ x y. let nothing = outside x y in let small = value_most old x y 255 bytes in omega (arith, nothing, small);
}
  where
    outside : (x y : ℤ) → moved_value p x y ≡ 0
    outside x y = by_lt_z (x -ℤ p.1) p.0.x
        (λ (l : (x -ℤ p.1) <ℤ p.0.x). value_beside p.0 (x -ℤ p.1) (y -ℤ p.2) (inl l))
        (λ (l : p.0.x ≤ℤ (x -ℤ p.1)). value_beside p.0 (x -ℤ p.1) (y -ℤ p.2) (inr (omega (arith, ints))))

-- a mask of zeros
pub value_zero : (m : MaskValue) → ((k : ℕ) → get_or m.bytes k 0 ≡ 0) → (x y : ℤ) → value_at m x y ≡ 0
value_zero m all x y = let none = value_most m x y 0 (λ k. let e = all k in omega (arith, e)) in omega (arith, none)

-- the bytes of a row of a mask
pub part_is : (m : MaskValue) (bytes : List ℕ) (w j : ℕ) → bytes ≡ m.bytes → w ≡ m.w → is_mask m ≡ true → j < m.h
    → (length (take ((j * w + w) - j * w) (drop (j * w) bytes)) ≡ m.w) × ((i : ℕ) → i < m.w → get_or (take ((j * w + w) - j * w) (drop (j * w) bytes)) i 0 ≡ get_or m.bytes (j * m.w + i) 0)
part_is m bytes w j same wide is below =
    let size : length bytes ≡ w * m.h = ap length same ∙ mask_length m is ∙ ap (λ z. z * m.h) (sym wide) in
    let fits : j * w + w ≤ length bytes = part_fits j w m.h (length bytes) below size in
    let n : (j * w + w) - j * w ≡ w = omega arith in (
      length-take ((j * w + w) - j * w) (drop (j * w) bytes) ∙ omega (arith, length-drop (j * w) bytes, fits, n, wide),
      λ i lt.
          let less : i < (j * w + w) - j * w = omega (arith, n, wide) in
          get_or-take ((j * w + w) - j * w) (drop (j * w) bytes) i 0 less ∙ get_or-drop (j * w) bytes i 0
          ∙ ap (λ z. get_or bytes (j * z + i) 0) wide ∙ ap (λ z. get_or z (j * m.w + i) 0) same,
    )

pub zeros : (n k : ℕ) → ◌≡◌ {A = ℕ} (get_or (replicate n 0) k 0) 0
zeros zero k = refl
zeros (suc n) zero = refl
zeros (suc n) (suc k) = zeros n k

-- ---- several masks

-- what one more adds
pub sum_more : (parts : List (MaskValue × ℤ × ℤ)) (p : MaskValue × ℤ × ℤ) (old new : MaskValue) → AddsMask p old new → HasSum parts old → HasSum (parts ++ p ∷ []) new
sum_more parts p old new adds before x y =
    let f : MaskValue × ℤ × ℤ → ℕ = λ q. moved_value q x y in
    let more : sum_by f (parts ++ p ∷ []) ≡ sum_by f parts + f p = sum_by_push f parts p in
    let value = adds.value x y in
    let old_value = before x y in
    omega (arith, value, old_value, more)

pub sum_whole : (parts : List (MaskValue × ℤ × ℤ)) (old new : MaskValue) → new ≡ old → IsBoxOf parts (box_of old) → HasSum parts old → IsSum parts new
sum_whole parts old new same box sum = let P : MaskValue → Type 0 = λ z. IsSum parts z in subst P (sym same) (record { value = sum; box = box })
