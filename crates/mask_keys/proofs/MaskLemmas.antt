-- The mask of a formula in a box, and which masks are of that form.
use Rattle.std.proofs.Common.{◌≡◌, ℕ, zero, suc, ◌+◌, ◌*◌, ◌/◌, ◌%◌, ◌<◌, true, inl, inr, ℤ, pos, ◌+ℤ◌, List, length, map, get_or, refl, sym, ap, ◌∙◌, arith}
use Rattle.std.specs.List.{range_with_len}
use Rattle.std.proofs.Math.Nat.{mod-lt, div-add-mod, div-lt_iff_lt-mul}
use Rattle.std.proofs.lemmas.List.{ext_get_or}
use Rattle.std.proofs.lemmas.List.FromFn.{length-map-range_with_len, get_or-map-range_with_len}
use Rattle.ass_num.specs.Coverage.{PixelBox, box_of}
use Rattle.ass_num.specs.Masks.{MaskValue, is_mask, value_at}
use Rattle.ass_num.proofs.MaskLemmas.{mask_length, value_inside, mask_cases}
use Rattle.mask_keys.specs.Boxes.{no_box, mask_in}
use Rattle.mask_keys.proofs.BoxLemmas.{IsProper}

-- a number below a product has a place in one of its rows
row_place : (k w h : ℕ) → k < w * h → (k % w < w) × (k / w < h)
row_place k zero h l = absurd (omega arith)
row_place k (suc w) h l =
    let some : 0 < suc w = omega arith in
    (mod-lt k some, (div-lt_iff_lt-mul some).1 (omega arith))

mask_parts : (x y : ℤ) (w h : ℕ) (xs ys : List ℕ) → xs ≡ ys → ◌≡◌ {A = MaskValue} (record { x = x; y = y; w = w; h = h; bytes = xs }) (record { x = x; y = y; w = w; h = h; bytes = ys })
mask_parts x y w h xs ys e = rw e refl

-- A mask with the values of a formula is the formula's mask in its box.
pub mask_in-is : (m : MaskValue) (value : ℤ → ℤ → ℕ) → is_mask m ≡ true → ((x y : ℤ) → value_at m x y ≡ value x y) → m ≡ mask_in (box_of m) value
unfolding mask_in
mask_in-is m value is same =
    let byte_of : ℕ → ℕ = λ k. value (m.x +ℤ pos (k % m.w)) (m.y +ℤ pos (k / m.w)) in
    let count : length m.bytes ≡ m.w * m.h = mask_length m is in
    let bytes : m.bytes ≡ map byte_of (range_with_len 0 (m.w * m.h)) =
    ext_get_or 0 m.bytes (map byte_of (range_with_len 0 (m.w * m.h))) (count ∙ sym (length-map-range_with_len byte_of 0 (m.w * m.h)))
    (λ k l.
    let less : k < m.w * m.h = omega (arith, l, count) in
    let place = row_place k m.w m.h less in
    let whole : k / m.w * m.w + k % m.w ≡ k = omega (arith, div-add-mod k m.w) in
    ap (λ z. get_or m.bytes z 0) (sym whole)
    ∙ sym (value_inside m (m.x +ℤ pos (k % m.w)) (m.y +ℤ pos (k / m.w)) (k % m.w) (k / m.w) refl refl place.0 place.1)
    ∙ same (m.x +ℤ pos (k % m.w)) (m.y +ℤ pos (k / m.w))
    ∙ sym (get_or-map-range_with_len byte_of 0 (m.w * m.h) k k 0 less (omega arith))) in
    mask_parts m.x m.y m.w m.h m.bytes (map byte_of (range_with_len 0 (m.w * m.h))) bytes

no_box_from : (x y : ℤ) (w h : ℕ) → x ≡ pos 0 → y ≡ pos 0 → w ≡ 0 → h ≡ 0 → ◌≡◌ {A = PixelBox} (record { x = x; y = y; w = w; h = h }) no_box
no_box_from x y w h a b c d = rw (a, b, c, d) refl

-- the box of a mask is empty or has both sides
pub mask_proper : (m : MaskValue) → is_mask m ≡ true → IsProper (box_of m)
mask_proper m is = elim (mask_cases m is) [
  | inl none ↦ inl (no_box_from m.x m.y m.w m.h none.x none.y none.w none.h)
  | inr some ↦ inr (some.w, some.h)
]
