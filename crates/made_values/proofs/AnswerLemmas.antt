-- What calls answer is the value of a function, or out of memory.
use Rattle.std.proofs.Common.{◌≡◌, ℕ, ◌+◌, ◌*◌, ◌/◌, ◌≤◌, true, not, ℤ, pos, List, ap, ◌∙◌, subst, arith, Result, Ok, Err, IfOk}
use Rattle.std.specs.Ordering.{int_eq}
use Rattle.ass_num.specs.Coverage.{IsCover}
use Rattle.ass_num.specs.Limits.{IsMaskWithin, IsRegionWithin, max_sample, max_mask_corner, max_mask_side}
use Rattle.ass_num.specs.Masks.{MaskValue, is_mask}
use Rattle.ass_num.specs.Regions.{RegionValue, is_canonical, member}
use Rattle.ass_num.specs.Winding.{inside, winding}
use Rattle.ass_num.specs.declared.geometry.Outline.{Outline}
use Rattle.ass_num.specs.declared.geometry.Point.{Point}
use Rattle.ass_num.proofs.MaskLemmas.{mask_wider}
use Rattle.mask_blur.specs.Blur.{IsBlurred}
use Rattle.mask_blur.specs.Softening.{IsSoftened}
use Rattle.mask_keys.specs.declared.mask_key.MaskKey.{MaskKey}
use Rattle.mask_keys.specs.Keys.{max_blur_radius, max_passes}
use Rattle.sample_region.specs.Limits.{max_inside}
use Rattle.made_values.specs.Reach.{max_covered_corner, max_covered_side}
use Rattle.mask_keys.specs.Masks.{covered_mask, softened_mask, blurred_mask}
use Rattle.mask_keys.specs.Regions.{outline_region}
use Rattle.mask_keys.specs.Values.{mask_of_region}
use Rattle.mask_keys.proofs.RegionLemmas.{region_is}
use Rattle.mask_keys.proofs.ValueLemmas.{covered_is, softened_is, blurred_is}

-- ---- regions

-- an outline with the winding numbers of rings that are the wanted ones
pub same_winding : {E : Type 0} (answer : Result Outline E) (rings wanted : List (List Point)) → rings ≡ wanted
    → IfOk answer (λ o. (i j : ℤ) → winding o.rings i j ≡ winding rings i j) → IfOk answer (λ o. (i j : ℤ) → winding o.rings i j ≡ winding wanted i j)
same_winding (Ok o) rings wanted e same = λ i j. same i j ∙ ap (λ z. winding z i j) e
same_winding (Err f) rings wanted e same = same

-- rings with the winding numbers of the wanted ones have their region
pub outline_answer : {E : Type 0} (answer : Result RegionValue E) (rings wanted : List (List Point)) → ((i j : ℤ) → winding rings i j ≡ winding wanted i j)
    → IfOk answer (λ r. (i j : ℤ) → member r.top r.rows i j ≡ inside rings i j) → IfOk answer (λ r. is_canonical r.top r.rows ≡ true)
    → IfOk answer (λ r. (limit : ℕ) → max_inside ≤ limit → IsRegionWithin limit r.top r.rows)
    → IfOk answer (λ r. r ≡ outline_region wanted)
outline_answer (Ok r) rings wanted windings samples canonical within =
    region_is max_inside (inside wanted) r canonical (within max_inside (omega arith)) (λ i j. samples i j ∙ ap (λ z. not (int_eq z (pos 0))) (windings i j))
outline_answer (Err e) rings wanted windings samples canonical within = samples

pub region_near : {E : Type 0} (answer : Result RegionValue E) → IfOk answer (λ r. (limit : ℕ) → max_inside ≤ limit → IsRegionWithin limit r.top r.rows) → IfOk answer (λ r. IsRegionWithin max_inside r.top r.rows)
region_near (Ok r) within = within max_inside (omega arith)
region_near (Err e) within = within

pub border_near : {E : Type 0} (answer : Result RegionValue E) (r : RegionValue) (rx ry : ℕ) → rx ≤ 1600 → ry ≤ 1600 → IsRegionWithin max_inside r.top r.rows
    → IfOk answer (λ border. (limit further : ℕ) → rx ≤ further → ry ≤ further → IsRegionWithin limit r.top r.rows → IsRegionWithin (limit + further) border.top border.rows)
    → IfOk answer (λ border. IsRegionWithin max_sample border.top border.rows)
border_near (Ok border) r rx ry across down near within = within max_inside 65536 (omega arith) (omega arith) near
border_near (Err e) r rx ry across down near within = within

-- ---- masks

pub covered_answer : {E : Type 0} (answer : Result MaskValue E) (r : RegionValue) (px py : ℕ) → IsRegionWithin max_sample r.top r.rows
    → IfOk answer (IsCover (member r.top r.rows) px py) → IfOk answer (λ m. is_mask m ≡ true)
    → IfOk answer (λ m. (limit : ℕ) → IsRegionWithin limit r.top r.rows → IsMaskWithin (limit / 16 + 1) (2 * (limit / 16) + 3) m)
    → IfOk answer (λ m. m ≡ covered_mask px py r)
covered_answer (Ok m) r px py near cover is within = covered_is r px py max_covered_corner max_covered_side m is cover (within max_sample near) (omega arith)
covered_answer (Err e) r px py near cover is within = cover

pub covered_near : {E : Type 0} (answer : Result MaskValue E) (r : RegionValue) → IsRegionWithin max_sample r.top r.rows
    → IfOk answer (λ m. (limit : ℕ) → IsRegionWithin limit r.top r.rows → IsMaskWithin (limit / 16 + 1) (2 * (limit / 16) + 3) m)
    → IfOk answer (IsMaskWithin max_covered_corner max_covered_side)
covered_near (Ok m) r near within = within max_sample near
covered_near (Err e) r near within = within

pub softened_answer : {E : Type 0} (answer : Result MaskValue E) (k n : ℕ) (m : MaskValue) → k ≡ n → IfOk answer (IsSoftened k m) → IfOk answer (λ result. is_mask result ≡ true) → IfOk answer (λ result. result ≡ softened_mask n m)
softened_answer (Ok result) k n m e soft is = let P : ℕ → Type 0 = λ z. IsSoftened z m result in softened_is n m result is (subst P e soft)
softened_answer (Err e) k n m f soft is = soft

pub softened_near : {E : Type 0} (answer : Result MaskValue E) (k n : ℕ) (m : MaskValue) → k ≡ n
    → IfOk answer (λ result. (corner side : ℕ) → IsMaskWithin corner side m → IsMaskWithin (corner + k) (side + 2 * k) result)
    → IfOk answer (λ result. (corner side : ℕ) → IsMaskWithin corner side m → IsMaskWithin (corner + n) (side + 2 * n) result)
softened_near (Ok result) k n m e within = λ corner side w. mask_wider (corner + k) (side + 2 * k) (corner + n) (side + 2 * n) result (omega (arith, e)) (omega (arith, e)) (within corner side w)
softened_near (Err e) k n m f within = within

pub blurred_answer : {E : Type 0} (answer : Result MaskValue E) (k r : ℕ) (m : MaskValue) → k ≡ r → IfOk answer (IsBlurred k m) → IfOk answer (λ result. is_mask result ≡ true) → IfOk answer (λ result. result ≡ blurred_mask r m)
blurred_answer (Ok result) k r m e blur is = let P : ℕ → Type 0 = λ z. IsBlurred z m result in blurred_is r m result is (subst P e blur)
blurred_answer (Err e) k r m f blur is = blur

pub blurred_near : {E : Type 0} (answer : Result MaskValue E) (k r : ℕ) (m : MaskValue) → k ≡ r
    → IfOk answer (λ result. (corner side : ℕ) → IsMaskWithin corner side m → IsMaskWithin (corner + 3 * k) (side + 2 * (3 * k)) result)
    → IfOk answer (λ result. (corner side : ℕ) → IsMaskWithin corner side m → IsMaskWithin (corner + 3 * r) (side + 6 * r) result)
blurred_near (Ok result) k r m e within = λ corner side w. mask_wider (corner + 3 * k) (side + 2 * (3 * k)) (corner + 3 * r) (side + 6 * r) result (omega (arith, e)) (omega (arith, e)) (within corner side w)
blurred_near (Err e) k r m f within = within

-- how far masks of keys reach
pub soft_near : (m : MaskValue) (passes : ℕ) → passes ≤ max_passes → IsMaskWithin (max_covered_corner + passes) (max_covered_side + 2 * passes) m → IsMaskWithin max_mask_corner max_mask_side m
soft_near m passes few within = mask_wider (max_covered_corner + passes) (max_covered_side + 2 * passes) max_mask_corner max_mask_side m (omega arith) (omega arith) within

pub mask_near : {E : Type 0} (answer : Result MaskValue E) (soft : MaskValue) (passes radius : ℕ) → passes ≤ max_passes → radius ≤ max_blur_radius → IsMaskWithin (max_covered_corner + passes) (max_covered_side + 2 * passes) soft
    → IfOk answer (λ m. (corner side : ℕ) → IsMaskWithin corner side soft → IsMaskWithin (corner + 3 * radius) (side + 6 * radius) m)
    → IfOk answer (IsMaskWithin max_mask_corner max_mask_side)
mask_near (Ok m) soft passes radius few small near within =
    mask_wider (max_covered_corner + passes + 3 * radius) (max_covered_side + 2 * passes + 6 * radius) max_mask_corner max_mask_side m (omega arith) (omega arith) (within (max_covered_corner + passes) (max_covered_side + 2 * passes) near)
mask_near (Err e) soft passes radius few small near within = within

pub same_region : {E : Type 0} (answer : Result MaskValue E) (key : MaskKey) (r s : RegionValue) → r ≡ s → IfOk answer (λ m. m ≡ mask_of_region key r) → IfOk answer (λ m. m ≡ mask_of_region key s)
same_region (Ok m) key r s e value = value ∙ ap (mask_of_region key) e
same_region (Err e) key r s f value = value
