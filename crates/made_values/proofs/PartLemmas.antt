-- Parts with their masks, and the sum of a single one.
use Rattle.std.proofs.Common.{◌≡◌, ℕ, zero, suc, ◌+◌, ◌<◌, ◌≤◌, true, ℤ, pos, ◌-ℤ◌, List, [], ◌∷◌, ◌++◌, All, Any, length, map, take, min, get_or, refl, sym, ap, ◌∙◌, subst, arith}
use Rattle.std.proofs.lemmas.Int.{ints}
use Rattle.std.proofs.lemmas.List.{take_more, take_all}
use Rattle.std.proofs.lemmas.List.Sums.{sum_by-cons}
use Rattle.ass_num.specs.Coverage.{box_of, InBox, IsSum, IsMovedPixel, moved_value}
use Rattle.ass_num.specs.Limits.{IsMaskWithin, max_mask_corner, max_mask_side}
use Rattle.ass_num.specs.Masks.{MaskValue, is_mask, value_at}
use Rattle.mask_keys.specs.declared.composite_key.Part.{Part}
use Rattle.mask_keys.specs.Masks.{summed_mask}
use Rattle.mask_keys.proofs.ValueLemmas.{summed_is}
use Rattle.ass_num.proofs.MaskLemmas.{value_most}
use Rattle.made_values.specs.Parts.{placed_masks}

-- ---- a single mask that isn't moved

abbrev pub local : MaskValue → List (MaskValue × ℤ × ℤ)
local m = (m, pos 0, pos 0) ∷ []

unmoved : (z : ℤ) → z -ℤ pos 0 ≡ z
unmoved z = omega (arith, ints)

alone_pixel : (m : MaskValue) (i j : ℤ) → Any (λ p. IsMovedPixel p i j) (local m) → InBox (box_of m) i j
alone_pixel m i j (zero, p, l, e, h) =
    let P : MaskValue × ℤ × ℤ → Type 0 = λ q. IsMovedPixel q i j in
    let here : InBox (box_of m) (i -ℤ pos 0) (j -ℤ pos 0) = subst P (sym e) h in
    let X : ℤ → Type 0 = λ z. InBox (box_of m) z (j -ℤ pos 0) in
    let Y : ℤ → Type 0 = λ z. InBox (box_of m) i z in
    subst Y (unmoved j) (subst X (unmoved i) here)
alone_pixel m i j (suc k, p, l, e, h) = absurd (omega arith)

pixel_alone : (m : MaskValue) (i j : ℤ) → InBox (box_of m) i j → Any (λ p. IsMovedPixel p i j) (local m)
pixel_alone m i j h =
    let X : ℤ → Type 0 = λ z. InBox (box_of m) z (j -ℤ pos 0) in
    let Y : ℤ → Type 0 = λ z. InBox (box_of m) i z in
    (0, (m, pos 0, pos 0), omega arith, refl, subst X (sym (unmoved i)) (subst Y (sym (unmoved j)) h))

local_value : (v : ℕ) → v ≤ 255 → v ≡ min 255 v
local_value v l = grind arith

local_sum : (m : MaskValue) → ((k : ℕ) → get_or m.bytes k 0 ≤ 255) → IsSum (local m) m
local_sum m bytes = record {
  value = λ x y.
      local_value (value_at m x y) (value_most m x y 255 bytes)
      ∙ ap (λ z. min 255 (value_at m z y)) (sym (unmoved x)) ∙ ap (λ z. min 255 (value_at m (x -ℤ pos 0) z)) (sym (unmoved y))
      ∙ ap (min 255) (sym (sum_by-cons (λ (p : MaskValue × ℤ × ℤ). moved_value p x y) (m, pos 0, pos 0) [] ∙ omega arith));
  box = record {
    has = λ i j h. alone_pixel m i j h;
    least = λ other held i j h. held i j (pixel_alone m i j h);
  };
}

pub alone_is : (m : MaskValue) → is_mask m ≡ true → IsMaskWithin max_mask_corner max_mask_side m → ((k : ℕ) → get_or m.bytes k 0 ≤ 255) → m ≡ summed_mask (local m)
alone_is m is within bytes = summed_is (local m) max_mask_corner max_mask_side m is (local_sum m bytes) within (omega arith)

-- ---- the item of a part and its mask

item_same : (m n : MaskValue) (p q : Part) → m ≡ n → p ≡ q → ◌≡◌ {A = MaskValue × ℤ × ℤ} (n, q.dx, q.dy) (m, p.dx, p.dy)
item_same m n p q e f = rw (e, f) refl

pub placed_at : {A : Type 0} (value : A → MaskValue) (parts : List Part) (masks : List A) (k : ℕ) (p : Part) (a : A) (m : MaskValue) (d : MaskValue × ℤ × ℤ) → length masks ≡ length parts → k < length parts
    → p ≡ get_or parts k p → a ≡ get_or masks k a → m ≡ value a → get_or (placed_masks parts (map value masks)) k d ≡ (m, p.dx, p.dy)
placed_at value [] masks k p a m d e l f g h = absurd (omega arith)
placed_at value (q ∷ parts) [] k p a m d e l f g h = absurd (omega arith)
placed_at value (q ∷ parts) (b ∷ masks) zero p a m d e l f g h = item_same m (value b) p q (h ∙ ap value g) f
placed_at value (q ∷ parts) (b ∷ masks) (suc k) p a m d e l f g h = placed_at value parts masks k p a m d (omega arith) (omega arith) f g h

pub placed_count : {A : Type 0} (value : A → MaskValue) (parts : List Part) (masks : List A) → length masks ≡ length parts → length (placed_masks parts (map value masks)) ≡ length parts
placed_count value [] [] e = refl
placed_count value [] (b ∷ masks) e = refl
placed_count value (q ∷ parts) [] e = absurd (omega arith)
placed_count value (q ∷ parts) (b ∷ masks) e = let r = placed_count value parts masks (omega arith) in omega arith

pub placed_more : {A : Type 0} (value : A → MaskValue) (parts : List Part) (masks : List A) (k : ℕ) (p : Part) (a : A) (m : MaskValue) → length masks ≡ length parts → k < length parts
    → p ≡ get_or parts k p → a ≡ get_or masks k a → m ≡ value a
    → take (k + 1) (placed_masks parts (map value masks)) ≡ take k (placed_masks parts (map value masks)) ++ (m, p.dx, p.dy) ∷ []
placed_more value parts masks k p a m e l f g h =
    let all : List (MaskValue × ℤ × ℤ) = placed_masks parts (map value masks) in
    let item : MaskValue × ℤ × ℤ = (m, p.dx, p.dy) in
    let count = placed_count value parts masks e in
    take_more all k item (omega arith) ∙ ap (λ z. take k all ++ z ∷ []) (placed_at value parts masks k p a m item e l f g h)

pub placed_holds : {A : Type 0} (P : MaskValue × ℤ × ℤ → Type 0) (value : A → MaskValue) (parts : List Part) (masks : List A) (k : ℕ) (p : Part) (a : A) (m : MaskValue) → length masks ≡ length parts → k < length parts
    → p ≡ get_or parts k p → a ≡ get_or masks k a → m ≡ value a → All P (placed_masks parts (map value masks)) → P (m, p.dx, p.dy)
placed_holds P value parts masks k p a m e l f g h all =
    let item : MaskValue × ℤ × ℤ = (m, p.dx, p.dy) in
    let count = placed_count value parts masks e in
    subst P (placed_at value parts masks k p a m item e l f g h) (all k item (omega arith))

pub placed_whole : {A : Type 0} (value : A → MaskValue) (parts : List Part) (masks : List A) (k : ℕ) → length masks ≡ length parts → length parts ≤ k → take k (placed_masks parts (map value masks)) ≡ placed_masks parts (map value masks)
placed_whole value parts masks k e l = let count = placed_count value parts masks e in take_all k (placed_masks parts (map value masks)) (omega arith)

-- ---- a single part that isn't moved

local_same : (m n : MaskValue) (x y : ℤ) → m ≡ n → x ≡ pos 0 → y ≡ pos 0 → ◌≡◌ {A = List (MaskValue × ℤ × ℤ)} ((m, x, y) ∷ []) (local n)
local_same m n x y e f g = rw (e, f, g) refl

pub placed_alone : {A : Type 0} (value : A → MaskValue) (parts : List Part) (masks : List A) (p : Part) (a : A) → length parts ≡ 1 → length masks ≡ length parts
    → p ≡ get_or parts 0 p → a ≡ get_or masks 0 a → p.dx ≡ pos 0 → p.dy ≡ pos 0 → placed_masks parts (map value masks) ≡ local (value a)
placed_alone value [] masks p a one e f g x y = absurd (omega arith)
placed_alone value (q ∷ r ∷ parts) masks p a one e f g x y = absurd (omega arith)
placed_alone value (q ∷ []) [] p a one e f g x y = absurd (omega arith)
placed_alone value (q ∷ []) (b ∷ masks) p a one e f g x y =
    let X : Part → ℤ = λ z. z.dx in
    let Y : Part → ℤ = λ z. z.dy in
    local_same (value b) (value a) q.dx q.dy (ap value (sym g)) (sym (ap X f) ∙ x) (sym (ap Y f) ∙ y)
