-- The value of a region that isn't widened is that of its outline; and what is made of a region.
use Rattle.std.proofs.Common.{◌≡◌, ℕ, ◌==◌, ◌&&◌, not, Bool, true, false, List, Result, refl, sym, ap, ◌∙◌, subst}
use Rattle.std.proofs.lemmas.Bool.{eqb-true}
use Rattle.std.specs.Result.{IfOk}
use Rattle.std.specs.Arc.{arc_value}
use Rattle.std.specs.declared.sync.Arc.{Arc}
use Rattle.ass_num.specs.Limits.{IsRegionWithin, max_sample}
use Rattle.ass_num.specs.Masks.{MaskValue}
use Rattle.ass_num.specs.Regions.{RegionValue}
use Rattle.bdf_font.specs.Fonts.{FontValue}
use Rattle.mask_keys.specs.Keys.{region_key, unwidened}
use Rattle.mask_keys.specs.declared.mask_key.MaskKey.{MaskKey}
use Rattle.mask_keys.specs.declared.region_key.RegionKey.{RegionKey}
use Rattle.mask_keys.specs.Regions.{widened_region}
use Rattle.mask_keys.specs.Values.{mask_of_region, mask_value, outline_value, region_value}
use Rattle.sample_region.specs.Limits.{max_inside}
use Rattle.cache_kinds.specs.Kinds.{is_widened}
use Rattle.mask_keys.proofs.UnwidenedLemmas.{outline-near, outline-unwidened, region-near as key_region-near}

true-false : true ≡ false → ⊥
true-false e = cc

zero-radii : (rx ry : ℕ) → not ((rx == 0) && (ry == 0)) ≡ false → (rx ≡ 0) × (ry ≡ 0)
zero-radii rx ry plain = by (rx == 0) (ry == 0) refl refl plain
  where
    by : (a b : Bool) → (rx == 0) ≡ a → (ry == 0) ≡ b → not (a && b) ≡ false → (rx ≡ 0) × (ry ≡ 0)
    by true true is same plain = (eqb-true rx 0 is, eqb-true ry 0 same)
    by true false is same plain = absurd (true-false plain)
    by false b is same plain = absurd (true-false plain)

pub plain-value : (fonts : List FontValue) (key : RegionKey) → is_widened key ≡ false → outline_value fonts key.outline ≡ region_value fonts key
plain-value fonts key plain =
    let radii = zero-radii key.rx key.ry plain in
    outline-unwidened fonts key.outline ∙ (ap (λ (n : ℕ). widened_region n 0 (outline_value fonts key.outline)) (sym radii.0) ∙ ap (λ (n : ℕ). widened_region key.rx n (outline_value fonts key.outline)) (sym radii.1))

-- the region of a key's outline, as the cache has it
pub outline-had : (fonts : List FontValue) (key : RegionKey) (value : RegionValue) → value ≡ region_value fonts (unwidened key) → value ≡ outline_value fonts key.outline
outline-had fonts key value is = is ∙ sym (outline-unwidened fonts key.outline)

pub outline-had-near : (fonts : List FontValue) (key : RegionKey) (value : RegionValue) → value ≡ region_value fonts (unwidened key) → IsRegionWithin max_inside value.top value.rows
outline-had-near fonts key value is = subst (λ (r : RegionValue). IsRegionWithin max_inside r.top r.rows) (sym (outline-had fonts key value is)) (outline-near fonts key.outline)

-- what is made of a region that the cache had
pub region-near : (fonts : List FontValue) (key : RegionKey) (value : RegionValue) → value ≡ region_value fonts key → IsRegionWithin max_sample value.top value.rows
region-near fonts key value is = subst (λ (r : RegionValue). IsRegionWithin max_sample r.top r.rows) (sym is) (key_region-near fonts key)

module _ {E Z : Type 0} (fonts : List FontValue) where
  pub widened-made : (key : RegionKey) (region : RegionValue) (made : Result (Arc RegionValue Z) E) → region ≡ region_value fonts (unwidened key)
      → IfOk made (λ a. arc_value a ≡ widened_region key.rx key.ry region) → IfOk made (λ a. arc_value a ≡ region_value fonts key)
  widened-made key region made is value = subst (λ (r : RegionValue). IfOk made (λ a. arc_value a ≡ widened_region key.rx key.ry r)) (outline-had fonts key region is) value

  pub mask-made : (key : MaskKey) (region : RegionValue) (made : Result (Arc MaskValue Z) E) → region ≡ region_value fonts (region_key key)
      → IfOk made (λ a. arc_value a ≡ mask_of_region key region) → IfOk made (λ a. arc_value a ≡ mask_value fonts key)
  mask-made key region made is value = subst (λ (r : RegionValue). IfOk made (λ a. arc_value a ≡ mask_of_region key r)) is value
