-- The sum of moved masks, as a function, is their sum.
use Rattle.std.proofs.Common.{◌≡◌, ℕ, suc, ◌<◌, ◌≤◌, Bool, true, inl, inr, ⊎_elim, ℤ, pos, ◌+ℤ◌, ◌-ℤ◌, ◌≤ℤ◌, ◌<ℤ◌, List, [], ◌∷◌, All, Any, min, sum_by, refl, sym, subst, arith}
use Rattle.std.specs.List.{list_any}
use Rattle.std.proofs.lemmas.Int.{ints, by_lt_z}
use Rattle.std.proofs.lemmas.Bool.{cases_lt}
use Rattle.std.proofs.lemmas.List.Sums.{sum_by-cons}
use Rattle.std.proofs.lemmas.List.Folds.{Any-from_list_any, list_any-from_Any}
use Rattle.ass_num.specs.Coverage.{PixelBox, InBox, IsLeastBox, IsSum, IsMovedPixel, box_of, moved_value}
use Rattle.ass_num.specs.Limits.{IsWithin}
use Rattle.ass_num.specs.Masks.{MaskValue, value_at}
use Rattle.ass_num.proofs.MaskLemmas.{value_beside, value_over}
use Rattle.mask_cover.specs.Sums.{IsPlaceableMask}
use Rattle.mask_keys.specs.Boxes.{box_within}
use Rattle.mask_keys.specs.Masks.{is_in_moved, max_summed, summed_mask}
use Rattle.mask_keys.proofs.CoverLemmas.{box_in, mask_in-value}
use Rattle.mask_keys.proofs.LeastLemmas.{box_within-least}
use Rattle.mask_keys.proofs.ValueLemmas.{Any_weaker, in_box_is, in_box_true}

abbrev Moved : Type 0
Moved = MaskValue × ℤ × ℤ

-- a pixel with a value lies in the mask's box
value_in_box : (m : MaskValue) (u v : ℤ) → 0 < value_at m u v → InBox (box_of m) u v
value_in_box m u v some =
    by_lt_z u m.x
    (λ (l : u <ℤ m.x). let e = value_beside m u v (inl l) in absurd (omega (arith, e)))
    (λ (l : m.x ≤ℤ u). by_lt_z u (m.x +ℤ pos m.w)
    (λ (r : u <ℤ (m.x +ℤ pos m.w)). by_lt_z v m.y
    (λ (t : v <ℤ m.y). let e = value_over m u v (inl t) in absurd (omega (arith, e)))
    (λ (t : m.y ≤ℤ v). by_lt_z v (m.y +ℤ pos m.h)
    (λ (b : v <ℤ (m.y +ℤ pos m.h)). record { left = l; right = r; top = t; bottom = b })
    (λ (b : (m.y +ℤ pos m.h) ≤ℤ v). let e = value_over m u v (inr b) in absurd (omega (arith, e)))))
    (λ (r : (m.x +ℤ pos m.w) ≤ℤ u). let e = value_beside m u v (inr r) in absurd (omega (arith, e))))

-- a sum that isn't 0 has a part that isn't
some_part : (f : Moved → ℕ) (parts : List Moved) → 0 < sum_by f parts → Any (λ p. 0 < f p) parts
some_part f [] some = absurd (omega arith)
some_part f (p ∷ parts) some =
    let e = sum_by-cons f p parts in
    ⊎_elim
    (λ (l : 0 < f p). (0, p, omega arith, refl, l))
    (λ (l : f p ≤ 0). let r = some_part f parts (omega (arith, e)) in let k = r.2 in (suc r.0, r.1, omega arith, r.3, r.4))
    (cases_lt 0 (f p))

moved_near : (p : Moved) (x y : ℤ) → IsPlaceableMask p → IsMovedPixel p x y → IsWithin max_summed x × IsWithin max_summed y
moved_near p x y near h =
    let a = near.mask.x.0 in
    let b = near.mask.x.1 in
    let c = near.mask.y.0 in
    let d = near.mask.y.1 in
    let w = near.mask.w in
    let v = near.mask.h in
    let e = near.dx.0 in
    let f = near.dx.1 in
    let g = near.dy.0 in
    let i = near.dy.1 in
    let l = h.left in
    let r = h.right in
    let t = h.top in
    let u = h.bottom in
    ((omega (arith, ints), omega (arith, ints)), (omega (arith, ints), omega (arith, ints)))

any_near : (parts : List Moved) (x y : ℤ) → All IsPlaceableMask parts → Any (λ p. IsMovedPixel p x y) parts → IsWithin max_summed x × IsWithin max_summed y
any_near parts x y near (k, p, l, e, h) = moved_near p x y (let P : Moved → Type 0 = IsPlaceableMask in subst P e (near k p l)) h

min_some : (n : ℕ) → 0 < min 255 n → 0 < n
min_some n l = omega arith

pub summed_mask-sums : (parts : List Moved) → All IsPlaceableMask parts → IsSum parts (summed_mask parts)
summed_mask-sums parts near =
    let passes : ℤ → ℤ → Bool = λ x y. list_any (is_in_moved x y) parts in
    let value : ℤ → ℤ → ℕ = λ x y. min 255 (sum_by (λ p. moved_value p x y) parts) in
    let b : PixelBox = box_within max_summed passes in
    let there : (i j : ℤ) → passes i j ≡ true → Any (λ p. IsMovedPixel p i j) parts = λ i j h.
    Any_weaker (λ p. is_in_moved i j p ≡ true) (λ p. IsMovedPixel p i j) parts (λ p e. in_box_is (box_of p.0) (i -ℤ p.1) (j -ℤ p.2) e) (Any-from_list_any (is_in_moved i j) parts h) in
    let back : (i j : ℤ) → Any (λ p. IsMovedPixel p i j) parts → passes i j ≡ true = λ i j h.
    list_any-from_Any (is_in_moved i j) parts (Any_weaker (λ p. IsMovedPixel p i j) (λ p. is_in_moved i j p ≡ true) parts (λ p e. in_box_true (box_of p.0) (i -ℤ p.1) (j -ℤ p.2) e) h) in
    let least = box_within-least max_summed passes (λ x y h. any_near parts x y near (there x y h)) in
    let P : PixelBox → Type 0 = λ z. IsLeastBox (λ x y. Any (λ p. IsMovedPixel p x y) parts) z in
    record {
      value = mask_in-value b value (λ x y l.
          let s = some_part (λ p. moved_value p x y) parts (min_some (sum_by (λ p. moved_value p x y) parts) l) in
          least.has x y (back x y (Any_weaker (λ p. 0 < moved_value p x y) (λ p. IsMovedPixel p x y) parts (λ p e. value_in_box p.0 (x -ℤ p.1) (y -ℤ p.2) e) s)));
      box = subst P (sym (box_in b value)) (record {
        has = λ i j h. least.has i j (back i j h);
        least = λ other held. least.least other (λ i j h. held i j (there i j h));
      });
    }
