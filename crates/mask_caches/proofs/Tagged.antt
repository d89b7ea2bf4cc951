-- What the three caches keep is made from the fonts that they were opened with, and costs little enough.
use Rattle.std.proofs.Common.{◌≡◌, ◌≤◌, Result, Ok, Err, sym, ap, ◌∙◌, subst, arith}
use Rattle.std.specs.Result.{IfOk}
use Rattle.std.specs.Arc.{arc_value}
use Rattle.std.specs.declared.sync.Arc.{Arc}
use Rattle.ass_num.specs.Masks.{MaskValue}
use Rattle.ass_num.specs.Regions.{RegionValue}
use Rattle.bdf_font.specs.declared.sets.FontSet.{FontSet}
use Rattle.evict_core.specs.Machine.{max_cost}
use Rattle.cache_kinds.specs.Kinds.{composite_meaning, region_meaning}
use Rattle.mask_keys.specs.declared.composite_key.CompositeKey.{CompositeKey}
use Rattle.mask_keys.specs.declared.mask_key.MaskKey.{MaskKey}
use Rattle.mask_keys.specs.declared.region_key.RegionKey.{RegionKey}
use Rattle.mask_keys.specs.Costs.{mask_cost, region_cost}
use Rattle.mask_keys.specs.Values.{composite_value, mask_value, region_value}
use Rattle.mask_caches.specs.Courses.{Course, IsHadBy, IsLeaseOf}
use Rattle.mask_caches.specs.Leases.{lease_value}
use Rattle.mask_caches.specs.declared.lease.Lease.{Lease}
use Rattle.mask_caches.specs.declared.lease.Lease.TheVariants.{Pinned, Own}

module _ {E Z : Type 0} where
  pub region-cost : (made : Result (Arc RegionValue Z) E) → IfOk made (λ a. region_cost (arc_value a) ≤ max_cost)
  region-cost (Ok a) = omega arith
  region-cost (Err e) = tt

  pub mask-cost : (made : Result (Arc MaskValue Z) E) → IfOk made (λ a. mask_cost (arc_value a) ≤ max_cost)
  mask-cost (Ok a) = omega arith
  mask-cost (Err e) = tt

  -- from the fonts to the tag
  pub region-tagged : (fonts tag : Arc FontSet Z) (key : RegionKey) (made : Result (Arc RegionValue Z) E) → arc_value tag ≡ arc_value fonts
      → IfOk made (λ a. arc_value a ≡ region_value (arc_value fonts).fonts key) → IfOk made (λ a. arc_value a ≡ region_value (arc_value tag).fonts key)
  region-tagged fonts tag key made is value = subst (λ (s : FontSet). IfOk made (λ a. arc_value a ≡ region_value s.fonts key)) (sym is) value

  pub mask-tagged : (fonts tag : Arc FontSet Z) (key : MaskKey) (made : Result (Arc MaskValue Z) E) → arc_value tag ≡ arc_value fonts
      → IfOk made (λ a. arc_value a ≡ mask_value (arc_value fonts).fonts key) → IfOk made (λ a. arc_value a ≡ mask_value (arc_value tag).fonts key)
  mask-tagged fonts tag key made is value = subst (λ (s : FontSet). IfOk made (λ a. arc_value a ≡ mask_value s.fonts key)) (sym is) value

  pub composite-tagged : (fonts tag : Arc FontSet Z) (key : CompositeKey) (made : Result (Arc MaskValue Z) E) → arc_value tag ≡ arc_value fonts
      → IfOk made (λ a. arc_value a ≡ composite_value (arc_value fonts).fonts key) → IfOk made (λ a. arc_value a ≡ composite_value (arc_value tag).fonts key)
  composite-tagged fonts tag key made is value = subst (λ (s : FontSet). IfOk made (λ a. arc_value a ≡ composite_value s.fonts key)) (sym is) value

-- a lease's value, made from the fonts
module _ {M Z : Type 0} (fonts tag : Arc FontSet Z) (is : arc_value tag ≡ arc_value fonts) (course : Course) where
  pub region-of-fonts : (key : RegionKey) (lease : Lease M RegionKey RegionValue (Arc FontSet Z)) → IsLeaseOf region_meaning tag key course lease → lease_value lease ≡ region_value (arc_value fonts).fonts key
  region-of-fonts key (Pinned pin) had = had.2 ∙ ap (λ (s : FontSet). region_value s.fonts key) is
  region-of-fonts key (Own value) had = had.1 ∙ ap (λ (s : FontSet). region_value s.fonts key) is

  pub composite-of-fonts : {E : Type 0} (key : CompositeKey) (had : Result (Lease M CompositeKey MaskValue (Arc FontSet Z)) E) → IsHadBy composite_meaning tag key course had → IfOk had (λ lease. lease_value lease ≡ composite_value (arc_value fonts).fonts key)
  composite-of-fonts key (Ok (Pinned pin)) had = had.2 ∙ ap (λ (s : FontSet). composite_value s.fonts key) is
  composite-of-fonts key (Ok (Own value)) had = had.1 ∙ ap (λ (s : FontSet). composite_value s.fonts key) is
  composite-of-fonts key (Err refused) had = tt
