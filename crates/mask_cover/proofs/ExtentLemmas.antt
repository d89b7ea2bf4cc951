-- The least box of several moved masks.
use Rattle.std.proofs.Common.{◌≡◌, ℕ, ◌*◌, ◌^◌, ◌<◌, ◌==◌, Bool, true, false, ◌⊎◌, inl, inr, ℤ, pos, ◌+ℤ◌, ◌-ℤ◌, ◌<ℤ◌, ◌≤ℤ◌, List, [], ◌∷◌, ◌++◌, length, length-append, refl, sym, ap, subst, ◌∙◌, arith, w32, to_z, of_z}
use Rattle.std.proofs.lemmas.Bool.{cases_lt}
use Rattle.std.proofs.lemmas.Int.{ints, by_lt_z, clamps}
use Rattle.std.specs.Int.{int_min, int_max}
use Rattle.std.specs.List.{Any}
use Rattle.ass_num.specs.Coverage.{PixelBox, box_of, InBox, IsMovedPixel}
use Rattle.ass_num.specs.Masks.{MaskValue, is_mask}
use Rattle.mask_cover.proofs.CoverLemmas.{mask_ok}
use Rattle.ass_num.proofs.MaskLemmas.{corner_in, far_corner_in, some_pixels}
use Rattle.mask_cover.specs.Extents.{IsStretchNear, IsExtent, JoinsStretch}
use Rattle.mask_cover.specs.Sums.{IsBoxOf, IsJoin}
use Rattle.ass_num.specs.Limits.{IsWithin, max_mask_corner, max_mask_shift}
use Rattle.std.proofs.lemmas.List.{get_or_append_left, get_or_push}

-- a stretch alone
pub joined_alone : (a : ℤ) (a_len : ℕ) (b : ℤ) (b_len : ℕ) → IsStretchNear b b_len → 0 < b_len → a_len ≡ 0 → JoinsStretch a a_len b b_len b b_len
joined_alone a a_len b b_len near some none = record {
  near = near;
  some = some;
  first_from = λ one. absurd (omega arith);
  first_to = λ one. absurd (omega arith);
  second_from = omega (arith, ints);
  second_to = omega (arith, ints);
  begins = inl (omega (arith, ints));
  ends = inl (omega (arith, ints));
}

-- two stretches
pub joined_both : (a : ℤ) (a_len : ℕ) (b : ℤ) (b_len : ℕ) (from : ℤ) (len : ℕ) → IsStretchNear a a_len → IsStretchNear b b_len → 0 < a_len → 0 < b_len → from ≡ int_min a b → from +ℤ pos len ≡ int_max (a +ℤ pos a_len) (b +ℤ pos b_len) → JoinsStretch a a_len b b_len from len
joined_both a a_len b b_len from len first second one other least most =
    let fl = first.low in let fh = first.high in let sl = second.low in let sh = second.high in
    record {
      near = record { low = omega (arith, ints, clamps); high = omega (arith, ints, clamps) };
      some = omega (arith, ints, clamps);
      first_from = λ _. omega (arith, ints, clamps);
      first_to = λ _. omega (arith, ints, clamps);
      second_from = omega (arith, ints, clamps);
      second_to = omega (arith, ints, clamps);
      begins = by_lt_z a b (λ (l : a <ℤ b). inr (one, omega (arith, ints, clamps))) (λ (l : b ≤ℤ a). inl (omega (arith, ints, clamps)));
      ends = by_lt_z (b +ℤ pos b_len) (a +ℤ pos a_len)
          (λ (l : (b +ℤ pos b_len) <ℤ (a +ℤ pos a_len)). inr (one, omega (arith, ints, clamps)))
          (λ (l : (a +ℤ pos a_len) ≤ℤ (b +ℤ pos b_len)). inl (omega (arith, ints, clamps)));
    }

pub extent_joined : (a b c d x y : ℤ) (al bl cl dl w h : ℕ) → JoinsStretch a al b bl x w → JoinsStretch c cl d dl y h → IsExtent (record { x = x; y = y; w = w; h = h })
extent_joined a b c d x y al bl cl dl w h across down =
    let some = across.some in
    record { across = across.near; down = down.near; full = λ _. down.some; x = λ none. absurd (omega arith); y = λ none. absurd (omega arith); h = λ none. absurd (omega arith) }

-- the corner of a moved mask, as it is computed
pub moved_corner : (x from by : ℤ) → x ≡ from → IsWithin max_mask_corner from → IsWithin max_mask_shift by → to_z w32 (of_z w32 (to_z w32 (of_z w32 x) +ℤ to_z w32 (of_z w32 by))) ≡ from +ℤ by
moved_corner x from by is first second =
    let fl = first.0 in let fh = first.1 in let sl = second.0 in let sh = second.1 in omega (arith, ints)

-- the first and the last pixel of a moved mask
pub corner : (m : MaskValue) (dx dy : ℤ) → 0 < m.w → 0 < m.h → InBox (box_of m) ((m.x +ℤ dx) -ℤ dx) ((m.y +ℤ dy) -ℤ dy)
corner m dx dy v g = record { left = omega (arith, ints); right = omega (arith, ints); top = omega (arith, ints); bottom = omega (arith, ints) }

far_corner : (m : MaskValue) (dx dy : ℤ) → 0 < m.w → 0 < m.h → InBox (box_of m) ((((m.x +ℤ dx) +ℤ pos m.w) -ℤ pos 1) -ℤ dx) ((((m.y +ℤ dy) +ℤ pos m.h) -ℤ pos 1) -ℤ dy)
far_corner m dx dy v g = record { left = omega (arith, ints); right = omega (arith, ints); top = omega (arith, ints); bottom = omega (arith, ints) }

-- the two stretches of a box and a moved mask
pub join_is : (old : PixelBox) (p : MaskValue × ℤ × ℤ) (new : PixelBox) → IsExtent old → 0 < p.0.w → 0 < p.0.h → JoinsStretch old.x old.w (p.0.x +ℤ p.1) p.0.w new.x new.w → JoinsStretch old.y old.h (p.0.y +ℤ p.2) p.0.h new.y new.h → IsJoin old p new
join_is old p new extent wide high across down =
    let af = across.second_from in let at = across.second_to in let df = down.second_from in let dt = down.second_to in
    record {
      keeps = λ i j b.
          let l = b.left in let r = b.right in let t = b.top in let u = b.bottom in
          let w : 0 < old.w = omega (arith, ints) in
          let h : 0 < old.h = omega (arith, ints) in
          let x = across.first_from w in let xx = across.first_to w in let y = down.first_from h in let yy = down.first_to h in
          record { left = omega (arith, ints); right = omega (arith, ints); top = omega (arith, ints); bottom = omega (arith, ints) };
      has = λ i j b.
          let l = b.left in let r = b.right in let t = b.top in let u = b.bottom in
          record { left = omega (arith, ints); right = omega (arith, ints); top = omega (arith, ints); bottom = omega (arith, ints) };
      least = λ other keeps has i j b.
          let l = b.left in let r = b.right in let t = b.top in let u = b.bottom in
          let first : InBox other (p.0.x +ℤ p.1) (p.0.y +ℤ p.2) = has (p.0.x +ℤ p.1) (p.0.y +ℤ p.2) (corner p.0 p.1 p.2 wide high) in
          let last : InBox other (((p.0.x +ℤ p.1) +ℤ pos p.0.w) -ℤ pos 1) (((p.0.y +ℤ p.2) +ℤ pos p.0.h) -ℤ pos 1) = has _ _ (far_corner p.0 p.1 p.2 wide high) in
          let fl = first.left in let ft = first.top in let lr = last.right in let lb = last.bottom in
          record {
            left = elim across.begins [
              | inl same ↦ omega (arith, ints)
              | inr old_one ↦ let o = (keeps old.x old.y (corner_in old old_one.0 (extent.full old_one.0))).left in let e = old_one.1 in omega (arith, ints)
            ];
            right = elim across.ends [
              | inl same ↦ omega (arith, ints)
              | inr old_one ↦ let o = (keeps _ _ (far_corner_in old old_one.0 (extent.full old_one.0))).right in let e = old_one.1 in omega (arith, ints)
            ];
            top = elim down.begins [
              | inl same ↦ omega (arith, ints)
              | inr old_one ↦ let o = (keeps old.x old.y (corner_in old (some_width old extent old_one.0) old_one.0)).top in let e = old_one.1 in omega (arith, ints)
            ];
            bottom = elim down.ends [
              | inl same ↦ omega (arith, ints)
              | inr old_one ↦ let o = (keeps _ _ (far_corner_in old (some_width old extent old_one.0) old_one.0)).bottom in let e = old_one.1 in omega (arith, ints)
            ];
          };
    }
  where
    some_width : (b : PixelBox) → IsExtent b → 0 < b.h → 0 < b.w
    some_width b e g = elim (cases_lt 0 b.w) [ inl some ↦ some | inr few ↦ let n = e.h (omega arith) in absurd (omega arith) ]

-- The box has the moved mask's, side by side.
pub record HasMoved (b : PixelBox) (p : MaskValue × ℤ × ℤ) : Type 0 where
  pub left : b.x ≤ℤ (p.0.x +ℤ p.1)
  pub right : ((p.0.x +ℤ p.1) +ℤ pos p.0.w) ≤ℤ (b.x +ℤ pos b.w)
  pub top : b.y ≤ℤ (p.0.y +ℤ p.2)
  pub bottom : ((p.0.y +ℤ p.2) +ℤ pos p.0.h) ≤ℤ (b.y +ℤ pos b.h)

pub has_moved : (b : PixelBox) (p : MaskValue × ℤ × ℤ) → 0 < p.0.w → 0 < p.0.h → ((i j : ℤ) → IsMovedPixel p i j → InBox b i j) → HasMoved b p
has_moved b p wide high has =
    let first : InBox b (p.0.x +ℤ p.1) (p.0.y +ℤ p.2) = has (p.0.x +ℤ p.1) (p.0.y +ℤ p.2) (corner p.0 p.1 p.2 wide high) in
    let last : InBox b (((p.0.x +ℤ p.1) +ℤ pos p.0.w) -ℤ pos 1) (((p.0.y +ℤ p.2) +ℤ pos p.0.h) -ℤ pos 1) = has _ _ (far_corner p.0 p.1 p.2 wide high) in
    let fl = first.left in let ft = first.top in let lr = last.right in let lb = last.bottom in
    record { left = omega (arith, ints); right = omega (arith, ints); top = omega (arith, ints); bottom = omega (arith, ints) }

-- the same of a sum as its struct has it, whose value is seen, and of a mask whose bytes were looked at
pub placed : (m : MaskValue) (dx dy : ℤ) (old seen : MaskValue) (bytes : List ℕ) (test : Bool) → old ≡ seen → is_mask m ≡ true → bytes ≡ m.bytes → test ≡ (length bytes == 0) → test ≡ false
    → ((i j : ℤ) → IsMovedPixel (m, dx, dy) i j → InBox (box_of seen) i j) → HasMoved (box_of old) (m, dx, dy)
placed m dx dy old seen bytes test view is same tested some has =
    let P : MaskValue → Type 0 = λ z. (i j : ℤ) → IsMovedPixel (m, dx, dy) i j → InBox (box_of z) i j in
    let sides = some_pixels m is (ap (λ z. length z == 0) (sym same) ∙ sym tested ∙ some) in
    has_moved (box_of old) (m, dx, dy) sides.w sides.h (subst P (sym view) has)

-- a mask without pixels
pub join_none : (old : PixelBox) (p : MaskValue × ℤ × ℤ) → p.0.w ≡ 0 → IsJoin old p old
join_none old p none = record {
  keeps = λ i j b. b;
  has = λ i j b. let l = b.left in let r = b.right in absurd (omega (arith, ints));
  least = λ other keeps has i j b. keeps i j b;
}

-- ---- the boxes of masks that are added one by one

any_left : (P : MaskValue × ℤ × ℤ → Type 0) (xs : List (MaskValue × ℤ × ℤ)) (y : MaskValue × ℤ × ℤ) → Any P xs → Any P (xs ++ y ∷ [])
any_left P xs y some = let less = some.2 in (some.0, some.1, omega (arith, length-append xs (y ∷ [])), get_or_append_left xs (y ∷ []) some.1 some.0 less ∙ some.3, some.4)

any_last : (P : MaskValue × ℤ × ℤ → Type 0) (xs : List (MaskValue × ℤ × ℤ)) (y : MaskValue × ℤ × ℤ) → P y → Any P (xs ++ y ∷ [])
any_last P xs y passes = (length xs, y, omega (arith, length-append xs (y ∷ [])), get_or_push xs y y (length xs) refl, passes)

any_cases : (P : MaskValue × ℤ × ℤ → Type 0) (xs : List (MaskValue × ℤ × ℤ)) (y : MaskValue × ℤ × ℤ) → Any P (xs ++ y ∷ []) → Any P xs ⊎ P y
any_cases P xs y some = by_lt_z (pos some.0) (pos (length xs))
    (λ (l : pos some.0 <ℤ pos (length xs)). let less : some.0 < length xs = omega (arith, ints) in inl (some.0, some.1, less, sym (get_or_append_left xs (y ∷ []) some.1 some.0 less) ∙ some.3, some.4))
    (λ (l : pos (length xs) ≤ℤ pos some.0).
    let bound = some.2 in
    let last : length xs ≡ some.0 = omega (arith, ints, length-append xs (y ∷ [])) in
    inr (subst P (sym some.3 ∙ get_or_push xs y some.1 some.0 last) some.4))

pub box_none : IsBoxOf [] (record { x = pos 0; y = pos 0; w = 0; h = 0 })
box_none = record {
  has = λ x y some. let less = some.2 in absurd (omega arith);
  least = λ other covers x y b. let l = b.left in let r = b.right in absurd (omega (arith, ints));
}

pub box_more : (parts : List (MaskValue × ℤ × ℤ)) (p : MaskValue × ℤ × ℤ) (old new : PixelBox) → IsJoin old p new → IsBoxOf parts old → IsBoxOf (parts ++ p ∷ []) new
box_more parts p old new join is = record {
  has = λ x y some. elim (any_cases (λ q. IsMovedPixel q x y) parts p some) [
    | inl earlier ↦ join.keeps x y (is.has x y earlier)
    | inr now ↦ join.has x y now
  ];
  least = λ other covers. join.least other (is.least other (λ x y some. covers x y (any_left (λ q. IsMovedPixel q x y) parts p some))) (λ x y now. covers x y (any_last (λ q. IsMovedPixel q x y) parts p now));
}

pub joined_short : (a b : ℤ) (a_len b_len : ℕ) → IsStretchNear a a_len → IsStretchNear b b_len → int_max (a +ℤ pos a_len) (b +ℤ pos b_len) ≤ℤ (int_min a b +ℤ pos (2 ^ 31))
joined_short a b a_len b_len first second =
    let fl = first.low in let fh = first.high in let sl = second.low in let sh = second.high in omega (arith, ints, clamps)

-- the bytes of a sum that begins
pub sum_mask : (b : PixelBox) (bytes : List ℕ) → IsExtent b → length bytes ≡ b.w * b.h → is_mask (record { x = b.x; y = b.y; w = b.w; h = b.h; bytes = bytes }) ≡ true
sum_mask b bytes is count = elim (cases_lt 0 b.w) [
  | inl some ↦ mask_ok b.x b.y b.w b.h bytes count some (is.full some)
  | inr few ↦ let none : b.w ≡ 0 = omega arith in no_pixels b.x b.y b.w b.h bytes (is.x none) (is.y none) none (is.h none) count
]
  where
    no_pixels : (x y : ℤ) (w h : ℕ) (bytes : List ℕ) → x ≡ pos 0 → y ≡ pos 0 → w ≡ 0 → h ≡ 0 → length bytes ≡ w * h → is_mask (record { x = x; y = y; w = w; h = h; bytes = bytes }) ≡ true
    no_pixels x y w h bytes e f g i count = let none : length bytes ≡ 0 = count ∙ ap (λ z. z * h) g ∙ omega arith in rw (e, f, g, i, none) refl
