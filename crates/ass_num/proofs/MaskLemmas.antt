-- The value of a mask at a pixel, by the place of its byte, and masks of one box and one value at each pixel.
use Rattle.std.proofs.Common.{◌≡◌, ℕ, zero, suc, ◌+◌, ◌*◌, ◌/◌, ◌%◌, ◌<◌, ◌≤◌, ◌==◌, Bool, ◌⊎◌, inl, inr, true, false, ℤ, pos, negsuc, ◌+ℤ◌, ◌-ℤ◌, ◌<ℤ◌, ◌≤ℤ◌, List, [], length, get_or, refl, sym, ap, ◌∙◌, arith, eqb-true}
use Rattle.std.proofs.Math.Nat.{mul-le-mul_left, mod-lt, div-add-mod, div-lt_iff_lt-mul}
use Rattle.std.proofs.lemmas.Int.{ints}
use Rattle.std.proofs.lemmas.List.{ext_get_or, nil_from_length}
use Rattle.std.proofs.lemmas.Bool.{and_parts, false≢true}
use Rattle.std.proofs.lemmas.Bool.Decides.{nat_tests}
use Rattle.std.specs.Ordering.{int_eq}
use Rattle.ass_num.specs.Coverage.{PixelBox, box_of, InBox}
use Rattle.ass_num.specs.Limits.{IsMaskWithin}
use Rattle.ass_num.specs.Masks.{MaskValue, is_mask, value_at, offset_value}

-- the byte of column i in row j is one of the bytes of h rows
pub cell_below : (i j w h : ℕ) → i < w → j < h → j * w + i < w * h
cell_below i j w h a b = let more : j + 1 ≤ h = omega arith in omega (arith, mul-le-mul_left w more)

pub mask_length : (m : MaskValue) → is_mask m ≡ true → length m.bytes ≡ m.w * m.h
mask_length m h = eqb-true (length m.bytes) (m.w * m.h) (and_parts _ _ h).0

pub offset_inside : (m : MaskValue) (u v : ℤ) (i j : ℕ) → u ≡ pos i → v ≡ pos j → i < m.w → j < m.h → offset_value m u v ≡ get_or m.bytes (j * m.w + i) 0
offset_inside m u v i j e f a b = rw (e, f) (grind (arith, nat_tests))

pub value_inside : (m : MaskValue) (x y : ℤ) (i j : ℕ) → x ≡ m.x +ℤ pos i → y ≡ m.y +ℤ pos j → i < m.w → j < m.h → value_at m x y ≡ get_or m.bytes (j * m.w + i) 0
value_inside m x y i j e f a b = offset_inside m (x -ℤ m.x) (y -ℤ m.y) i j (omega (arith, ints)) (omega (arith, ints)) a b

pub offset_left : (m : MaskValue) (u v : ℤ) → (u <ℤ pos 0) ⊎ (pos m.w ≤ℤ u) → offset_value m u v ≡ 0
offset_left m (pos i) (pos j) h = let out : m.w ≤ i = omega (arith, ints) in grind (arith, nat_tests)
offset_left m (pos i) (negsuc j) h = refl
offset_left m (negsuc i) v h = refl

pub offset_above : (m : MaskValue) (u v : ℤ) → (v <ℤ pos 0) ⊎ (pos m.h ≤ℤ v) → offset_value m u v ≡ 0
offset_above m (pos i) (pos j) h = let out : m.h ≤ j = omega (arith, ints) in grind (arith, nat_tests)
offset_above m (pos i) (negsuc j) h = refl
offset_above m (negsuc i) v h = refl

-- beside the box, and above or below it
pub value_beside : (m : MaskValue) (x y : ℤ) → (x <ℤ m.x) ⊎ ((m.x +ℤ pos m.w) ≤ℤ x) → value_at m x y ≡ 0
value_beside m x y (inl h) = offset_left m (x -ℤ m.x) (y -ℤ m.y) (inl (omega (arith, ints)))
value_beside m x y (inr h) = offset_left m (x -ℤ m.x) (y -ℤ m.y) (inr (omega (arith, ints)))

pub value_over : (m : MaskValue) (x y : ℤ) → (y <ℤ m.y) ⊎ ((m.y +ℤ pos m.h) ≤ℤ y) → value_at m x y ≡ 0
value_over m x y (inl h) = offset_above m (x -ℤ m.x) (y -ℤ m.y) (inl (omega (arith, ints)))
value_over m x y (inr h) = offset_above m (x -ℤ m.x) (y -ℤ m.y) (inr (omega (arith, ints)))

offset_most : (m : MaskValue) (u v : ℤ) (most : ℕ) → ((k : ℕ) → get_or m.bytes k 0 ≤ most) → offset_value m u v ≤ most
offset_most m (pos i) (pos j) most bytes = let here = bytes (j * m.w + i) in grind (arith, nat_tests)
offset_most m (pos i) (negsuc j) most bytes = omega arith
offset_most m (negsuc i) v most bytes = omega arith

pub value_most : (m : MaskValue) (x y : ℤ) (most : ℕ) → ((k : ℕ) → get_or m.bytes k 0 ≤ most) → value_at m x y ≤ most
value_most m x y most bytes = offset_most m (x -ℤ m.x) (y -ℤ m.y) most bytes

-- ---- masks with and without pixels

pub record HasNoPixels (m : MaskValue) : Type 0 where
  pub x : m.x ≡ pos 0
  pub y : m.y ≡ pos 0
  pub w : m.w ≡ 0
  pub h : m.h ≡ 0
  pub bytes : m.bytes ≡ []

pub record HasPixels (m : MaskValue) : Type 0 where
  pub w : 0 < m.w
  pub h : 0 < m.h

zero_test : (z : ℤ) → int_eq z (pos 0) ≡ true → z ≡ pos 0
zero_test z h = grind (arith, ints)

pub no_pixels : (m : MaskValue) → is_mask m ≡ true → (length m.bytes == 0) ≡ true → HasNoPixels m
no_pixels m is none =
    let rest = (and_parts (length m.bytes == m.w * m.h) _ is).1 in
    let corner = rw none at rest in
    let x = and_parts (int_eq m.x (pos 0)) _ corner in
    let y = and_parts (int_eq m.y (pos 0)) _ x.1 in
    let sides = and_parts (m.w == 0) _ y.1 in
    record {
      x = zero_test m.x x.0;
      y = zero_test m.y y.0;
      w = eqb-true m.w 0 sides.0;
      h = eqb-true m.h 0 sides.1;
      bytes = nil_from_length m.bytes (eqb-true (length m.bytes) 0 none);
    }

zero_or_more : (n : ℕ) → (n ≡ 0) ⊎ (0 < n)
zero_or_more zero = inl (omega arith)
zero_or_more (suc n) = inr (omega arith)

pub some_pixels : (m : MaskValue) → is_mask m ≡ true → (length m.bytes == 0) ≡ false → HasPixels m
some_pixels m is some =
    let count : length m.bytes ≡ m.w * m.h = mask_length m is in
    record {
      w = elim (zero_or_more m.w) [ inl none ↦ let e : length m.bytes ≡ 0 = count ∙ ap (λ z. z * m.h) none ∙ omega arith in absurd (not_zero (length m.bytes) e some) | inr more ↦ more ];
      h = elim (zero_or_more m.h) [ inl none ↦ let e : length m.bytes ≡ 0 = count ∙ ap (λ z. m.w * z) none ∙ omega arith in absurd (not_zero (length m.bytes) e some) | inr more ↦ more ];
    }
  where
    not_zero : (n : ℕ) → n ≡ 0 → (n == 0) ≡ false → ⊥
    not_zero n e no_zero = false≢true (sym no_zero ∙ ap (λ z. z == 0) e)

pub mask_cases : (m : MaskValue) → is_mask m ≡ true → HasNoPixels m ⊎ HasPixels m
mask_cases m is = by_test (length m.bytes == 0) refl
  where
    by_test : (b : Bool) → (length m.bytes == 0) ≡ b → HasNoPixels m ⊎ HasPixels m
    by_test true none = inl (no_pixels m is none)
    by_test false some = inr (some_pixels m is some)

-- the first and the last pixel of a box
pub corner_in : (b : PixelBox) → 0 < b.w → 0 < b.h → InBox b b.x b.y
corner_in b v g = record { left = omega (arith, ints); right = omega (arith, ints); top = omega (arith, ints); bottom = omega (arith, ints) }

pub far_corner_in : (b : PixelBox) → 0 < b.w → 0 < b.h → InBox b ((b.x +ℤ pos b.w) -ℤ pos 1) ((b.y +ℤ pos b.h) -ℤ pos 1)
far_corner_in b v g = record { left = omega (arith, ints); right = omega (arith, ints); top = omega (arith, ints); bottom = omega (arith, ints) }

-- ---- one mask

pub box_parts : (x u y v : ℤ) (w m h n : ℕ) → x ≡ u → y ≡ v → w ≡ m → h ≡ n → ◌≡◌ {A = PixelBox} (record { x = x; y = y; w = w; h = h }) (record { x = u; y = v; w = m; h = n })
box_parts x u y v w m h n a b c d = rw (a, b, c, d) refl

box_from : (a b : PixelBox) → a.x ≡ b.x → a.y ≡ b.y → a.w ≡ b.w → a.h ≡ b.h → a ≡ b
box_from a b x y w h = box_parts a.x b.x a.y b.y a.w b.w a.h b.h x y w h

mask_parts : (x u y v : ℤ) (w m h n : ℕ) (xs ys : List ℕ) → x ≡ u → y ≡ v → w ≡ m → h ≡ n → xs ≡ ys → ◌≡◌ {A = MaskValue} (record { x = x; y = y; w = w; h = h; bytes = xs }) (record { x = u; y = v; w = m; h = n; bytes = ys })
mask_parts x u y v w m h n xs ys a b c d e = rw (a, b, c, d, e) refl

mask_from : (a b : MaskValue) → a.x ≡ b.x → a.y ≡ b.y → a.w ≡ b.w → a.h ≡ b.h → a.bytes ≡ b.bytes → a ≡ b
mask_from a b x y w h bytes = mask_parts a.x b.x a.y b.y a.w b.w a.h b.h a.bytes b.bytes x y w h bytes

-- a mask whose box lies in that of a mask without pixels has none
none_in_none : (a b : MaskValue) → HasNoPixels a → HasPixels b → ((i j : ℤ) → InBox (box_of b) i j → InBox (box_of a) i j) → ⊥
none_in_none a b none some within =
    let here = within b.x b.y (corner_in (box_of b) some.w some.h) in
    let l = here.left in let r = here.right in omega (arith, ints, none.w)

-- the boxes of two masks that have the same pixels
pub one_box : (a b : MaskValue) → is_mask a ≡ true → is_mask b ≡ true → ((i j : ℤ) → InBox (box_of a) i j → InBox (box_of b) i j) → ((i j : ℤ) → InBox (box_of b) i j → InBox (box_of a) i j) → box_of a ≡ box_of b
one_box a b first second there back = elim (mask_cases a first) [
  | inl none ↦ elim (mask_cases b second) [
    | inl also ↦ box_from (box_of a) (box_of b) (none.x ∙ sym also.x) (none.y ∙ sym also.y) (none.w ∙ sym also.w) (none.h ∙ sym also.h)
    | inr some ↦ absurd (none_in_none a b none some back)
  ]
  | inr some ↦ elim (mask_cases b second) [
    | inl none ↦ absurd (none_in_none b a none some there)
    | inr also ↦
        let p = there a.x a.y (corner_in (box_of a) some.w some.h) in
        let q = there _ _ (far_corner_in (box_of a) some.w some.h) in
        let r = back b.x b.y (corner_in (box_of b) also.w also.h) in
        let s = back _ _ (far_corner_in (box_of b) also.w also.h) in
        let x : a.x ≡ b.x = omega (arith, ints, p.left, r.left) in
        let y : a.y ≡ b.y = omega (arith, ints, p.top, r.top) in
        box_from (box_of a) (box_of b) x y (omega (arith, ints, x, q.right, s.right)) (omega (arith, ints, y, q.bottom, s.bottom))
  ]
]

module _ (a b : MaskValue) (first : is_mask a ≡ true) (same : (x y : ℤ) → value_at a x y ≡ value_at b x y) (x : a.x ≡ b.x) (y : a.y ≡ b.y) (w : a.w ≡ b.w) (h : a.h ≡ b.h) where
  byte : (k : ℕ) → k < length a.bytes → get_or a.bytes k 0 ≡ get_or b.bytes k 0
  byte k less =
      let below : k < a.h * a.w = omega (arith, less, mask_length a first) in
      let wide : 0 < a.w = elim (zero_or_more a.w) [ inl none ↦ let e : a.h * a.w ≡ 0 = ap (λ z. a.h * z) none ∙ omega arith in absurd (omega (arith, below, e)) | inr more ↦ more ] in
      let i : k % a.w < a.w = mod-lt k wide in
      let j : k / a.w < a.h = (div-lt_iff_lt-mul wide).1 below in
      let place : k / a.w * a.w + k % a.w ≡ k = omega (arith, div-add-mod k a.w) in
      let one = value_inside a (a.x +ℤ pos (k % a.w)) (a.y +ℤ pos (k / a.w)) (k % a.w) (k / a.w) refl refl i j in
      let other = value_inside b (a.x +ℤ pos (k % a.w)) (a.y +ℤ pos (k / a.w)) (k % a.w) (k / a.w) (ap (λ z. z +ℤ pos (k % a.w)) x) (ap (λ z. z +ℤ pos (k / a.w)) y) (omega (arith, i, w)) (omega (arith, j, h)) in
      ap (λ z. get_or a.bytes z 0) (sym place) ∙ sym one ∙ same (a.x +ℤ pos (k % a.w)) (a.y +ℤ pos (k / a.w)) ∙ other
      ∙ ap (λ z. get_or b.bytes (k / a.w * z + k % a.w) 0) (sym w) ∙ ap (λ z. get_or b.bytes z 0) place

-- the masks of one box and one value at each pixel
pub one_mask : (a b : MaskValue) → is_mask a ≡ true → is_mask b ≡ true → box_of a ≡ box_of b → ((x y : ℤ) → value_at a x y ≡ value_at b x y) → a ≡ b
one_mask a b first second box same =
    let x : a.x ≡ b.x = ap (λ (z : PixelBox). z.x) box in
    let y : a.y ≡ b.y = ap (λ (z : PixelBox). z.y) box in
    let w : a.w ≡ b.w = ap (λ (z : PixelBox). z.w) box in
    let h : a.h ≡ b.h = ap (λ (z : PixelBox). z.h) box in
    let count : length a.bytes ≡ length b.bytes = mask_length a first ∙ ap (λ z. z * a.h) w ∙ ap (λ z. b.w * z) h ∙ sym (mask_length b second) in
    mask_from a b x y w h (ext_get_or 0 a.bytes b.bytes count (byte a b first same x y w h))

-- ---- how far masks reach

pub mask_wider : (corner side more longer : ℕ) (m : MaskValue) → corner ≤ more → side ≤ longer → IsMaskWithin corner side m → IsMaskWithin more longer m
mask_wider corner side more longer m p q within =
    let x = within.x in let y = within.y in let w = within.w in let h = within.h in
    record { x = (omega (arith, ints, x.0), omega (arith, ints, x.1)); y = (omega (arith, ints, y.0), omega (arith, ints, y.1)); w = omega (arith, w); h = omega (arith, h) }
