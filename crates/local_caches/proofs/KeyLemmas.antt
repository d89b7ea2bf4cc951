-- The regions and masks of keys, widened or not.
use Rattle.std.proofs.Common.{◌≡◌, List, refl, sym, ap, ◌∙◌, subst}
use Rattle.ass_num.specs.Limits.{IsRegionWithin, max_sample}
use Rattle.ass_num.specs.Masks.{MaskValue}
use Rattle.ass_num.specs.Regions.{RegionValue}
use Rattle.bdf_font.specs.Fonts.{FontValue}
use Rattle.mask_keys.specs.Keys.{region_key, unwidened}
use Rattle.mask_keys.specs.declared.mask_key.MaskKey.{MaskKey}
use Rattle.mask_keys.specs.declared.region_key.RegionKey.{RegionKey}
use Rattle.mask_keys.specs.Regions.{widened_region}
use Rattle.mask_keys.specs.Values.{mask_of_region, mask_value, outline_value, region_value}
use Rattle.sample_region.specs.Limits.{max_inside}
use Rattle.local_caches.specs.Unwidened.{IsUnwidened}
use Rattle.mask_keys.proofs.UnwidenedLemmas.{outline-near, outline-unwidened, region-near}

pub unwidened-value : (fonts : List FontValue) (key : RegionKey) → IsUnwidened key → outline_value fonts key.outline ≡ region_value fonts key
unwidened-value fonts key is = rw (is.0, is.1) (outline-unwidened fonts key.outline)

pub widened-value : (fonts : List FontValue) (key : RegionKey) → widened_region key.rx key.ry (region_value fonts (unwidened key)) ≡ region_value fonts key
widened-value fonts key = ap (widened_region key.rx key.ry) (sym (unwidened-value fonts (unwidened key) (refl, refl)))

pub unwidened-near : (fonts : List FontValue) (key : RegionKey) → IsRegionWithin max_inside (region_value fonts (unwidened key)).top (region_value fonts (unwidened key)).rows
unwidened-near fonts key = subst (λ (r : RegionValue). IsRegionWithin max_inside r.top r.rows) (unwidened-value fonts (unwidened key) (refl, refl)) (outline-near fonts key.outline)

-- ---- values made one after the other

module _ (fonts : List FontValue) where
  pub outline-read : (key narrow : RegionKey) (made read : RegionValue) → narrow ≡ unwidened key → made ≡ region_value fonts narrow → read ≡ made → read ≡ region_value fonts (unwidened key)
  outline-read key narrow made read is own same = same ∙ (own ∙ ap (λ (k : RegionKey). region_value fonts k) is)

  pub outline-read_near : (key : RegionKey) (read : RegionValue) → read ≡ region_value fonts (unwidened key) → IsRegionWithin max_inside read.top read.rows
  outline-read_near key read own = subst (λ (r : RegionValue). IsRegionWithin max_inside r.top r.rows) (sym own) (unwidened-near fonts key)

  pub border-made : (key : RegionKey) (read border : RegionValue) → read ≡ region_value fonts (unwidened key) → border ≡ widened_region key.rx key.ry read → border ≡ region_value fonts key
  border-made key read border own is = is ∙ (ap (λ (r : RegionValue). widened_region key.rx key.ry r) own ∙ widened-value fonts key)

  pub region-read_near : (key : RegionKey) (made read : RegionValue) → made ≡ region_value fonts key → read ≡ made → IsRegionWithin max_sample read.top read.rows
  region-read_near key made read own same = subst (λ (r : RegionValue). IsRegionWithin max_sample r.top r.rows) (sym (same ∙ own)) (region-near fonts key)

  pub mask-made : (key : MaskKey) (of : RegionKey) (made read : RegionValue) (mask : MaskValue) → of ≡ region_key key → made ≡ region_value fonts of → read ≡ made → mask ≡ mask_of_region key read → mask ≡ mask_value fonts key
  mask-made key of made read mask is own same masked =
      masked ∙ ap (λ (r : RegionValue). mask_of_region key r) (same ∙ (own ∙ ap (λ (k : RegionKey). region_value fonts k) is))
