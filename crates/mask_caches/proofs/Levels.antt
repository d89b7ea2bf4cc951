-- Visits of regions, masks and composed masks, from what their parts come to.
use Rattle.std.proofs.Common.{◌≡◌, if◌then◌else◌, ◌&&◌, Bool, true, false, List, [], ◌∷◌, Option, Result, Ok, Err, refl, sym, ap, ◌∙◌, subst}
use Rattle.std.specs.Result.{IfOk, OnOk}
use Rattle.std.specs.Arc.{arc_value}
use Rattle.std.specs.declared.alloc.Global.{Global}
use Rattle.std.specs.declared.sync.Arc.{Arc}
use Rattle.ass_num.specs.Masks.{MaskValue}
use Rattle.ass_num.specs.Regions.{RegionValue}
use Rattle.bdf_font.specs.declared.sets.FontSet.{FontSet}
use Rattle.evict_core.specs.Machine.{Ask, Hit}
use Rattle.flight_cache.specs.Calls.{TicketView, PinView}
use Rattle.flight_cache.specs.Shards.{CacheView, CachePassView}
use Rattle.cache_kinds.specs.Kinds.{region_meaning, mask_meaning, composite_meaning, is_widened}
use Rattle.mask_keys.specs.Equality.{equal_regions, equal_masks, equal_composites}
use Rattle.mask_keys.specs.Keys.{region_key, unwidened}
use Rattle.mask_keys.proofs.Equal.{region_same, mask_same, composite_same}
use Rattle.mask_keys.specs.contracts.region_key.RegionKeyEq.TheImpl.Laws as region_laws
use Rattle.mask_keys.specs.contracts.mask_key.MaskKeyEq.TheImpl.Laws as mask_laws
use Rattle.mask_keys.specs.contracts.composite_key.CompositeKeyEq.TheImpl.Laws as composite_laws
use Rattle.mask_keys.specs.declared.composite_key.CompositeKey.{CompositeKey}
use Rattle.mask_keys.specs.declared.mask_key.MaskKey.{MaskKey}
use Rattle.mask_keys.specs.declared.region_key.RegionKey.{RegionKey}
use Rattle.mask_caches.specs.Adding.{Adds}
use Rattle.mask_caches.specs.Courses.{Course, Found, Unasked, has_value, has_pin, is_made, course_steps, use_steps, IsHadBy, IsUnasked, IsLeaseOf, duty_steps, IsDutyOf, settled_steps, IsSettled}
use Rattle.mask_caches.specs.Composing.{ThreePasses, IsComposed}
use Rattle.mask_caches.specs.Holding.{AreAllHad}
use Rattle.mask_caches.specs.Leases.{given_steps}
use Rattle.mask_caches.specs.Visits.{RegionVisit, MaskVisit, IsRegionVisit, IsMaskVisit, AreMaskVisits, widening_steps, region_steps, region_use_steps, steps_of_its_region, mask_steps, region_steps_of, mask_steps_of}
use Rattle.mask_caches.specs.declared.caches.Caches.{Caches}
use Rattle.mask_caches.specs.declared.lease.Lease.{Lease}
use Rattle.mask_caches.specs.declared.lease.Lease.TheVariants.{Pinned}
use Rattle.mask_caches.proofs.Adding.{adds-none}
use Rattle.mask_caches.proofs.Visiting.{false-true, had-use, had-value, refused-use, settled-course}

both-true : (a b : Bool) → b ≡ false → a && b ≡ true → ⊥
both-true true b none both = cc
both-true false b none both = cc

no-visit : RegionVisit
no-visit = record { course = Unasked; outline = Unasked }

pub no-region-visit : (key : RegionKey) → IsRegionVisit key (record { course = Unasked; outline = Unasked })
no-region-visit key = record { outline = λ both value. absurd (both-true (is_widened key) false refl both) }

first-true : (a b : Bool) → a ≡ false → a && b ≡ true → ⊥
first-true true b none both = cc
first-true false b none both = cc

module _ {Z : Type 0} (cache : CacheView (Arc FontSet Z)) (key : RegionKey) (p q : CachePassView RegionKey (Arc FontSet Z)) where
  pub found-region : (pin : PinView RegionKey RegionValue) → Adds equal_regions region_meaning cache p q (Ask key Hit ∷ []) → (pin.key ≡ key) × (pin.value ≡ region_meaning.made cache.tag key)
      → (visit : RegionVisit) × IsRegionVisit key visit × Adds equal_regions region_meaning cache p q (region_steps cache.tag key visit) × ((has_pin visit.course ≡ true) × (pin.key ≡ key) × (pin.value ≡ region_meaning.made cache.tag key))
  found-region pin asks need = (
    record { course = Found; outline = Unasked },
    record { outline = λ both value. absurd (both-true (is_widened key) false refl both) },
    asks,
    (refl, need.0, need.1),
  )

  pub unasked-region : Adds equal_regions region_meaning cache p q [] → (visit : RegionVisit) × IsRegionVisit key visit × Adds equal_regions region_meaning cache p q (region_steps cache.tag key visit) × (has_value visit.course ≡ false)
  unasked-region asks = (
    record { course = Unasked; outline = Unasked },
    record { outline = λ both value. absurd (both-true (is_widened key) false refl both) },
    asks,
    refl,
  )

module _ {M E Z : Type 0} (cache : CacheView (Arc FontSet Z)) (key : RegionKey) (p q : CachePassView RegionKey (Arc FontSet Z)) where
  abbrev pub RegionVisited : CachePassView RegionKey (Arc FontSet Z) → Result (Lease M RegionKey RegionValue (Arc FontSet Z)) E → Type 0
  RegionVisited s had = (visit : RegionVisit) × IsRegionVisit key visit × Adds equal_regions region_meaning cache p s (region_steps cache.tag key visit) × IsHadBy region_meaning cache.tag key visit.course had

  pub plain-region : (had : Result (Lease M RegionKey RegionValue (Arc FontSet Z)) E) → is_widened key ≡ false
      → (course : Course) × Adds equal_regions region_meaning cache p q (course_steps region_meaning cache.tag key course []) × IsHadBy region_meaning cache.tag key course had
      → RegionVisited q had
  plain-region had plain v = (
    record { course = v.0; outline = Unasked },
    record { outline = λ both value. absurd (first-true (is_widened key) (is_made v.0) plain both) },
    subst (λ (b : Bool). Adds equal_regions region_meaning cache p q (course_steps region_meaning cache.tag key v.0 (if b then use_steps region_meaning cache.tag (unwidened key) Unasked [] else []))) (sym plain) v.1,
    v.2,
  )

  pub widened-visit : (r s : CachePassView RegionKey (Arc FontSet Z)) (duty : Option (TicketView RegionKey)) (made : Result (Arc RegionValue Z) E) (had : Result (Lease M RegionKey RegionValue (Arc FontSet Z)) E) → is_widened key ≡ true
      → Adds equal_regions region_meaning cache p q (duty_steps (region_meaning {Z = Z}) key duty) → IsDutyOf (region_meaning {Z = Z}) key duty
      → (course : Course) × Adds equal_regions region_meaning cache q r (use_steps region_meaning cache.tag (unwidened key) course []) × OnOk made (has_value course ≡ true)
      → Adds equal_regions region_meaning cache r s (settled_steps region_meaning cache.tag duty had) → IsSettled region_meaning cache.tag duty made had
      → IfOk made (λ a. arc_value a ≡ region_meaning.made cache.tag key)
      → RegionVisited s had
  widened-visit r s duty made had wide asks need inner settles settled value =
      let v = settled-course equal_regions region_laws.laws-law region_same region_meaning cache key (use_steps region_meaning cache.tag (unwidened key) inner.0 []) p q r s duty made had asks need inner.1 settles settled value inner.2 in (
        record { course = v.0; outline = inner.0 },
        record { outline = λ both has. v.4 has },
        subst (λ (b : Bool). Adds equal_regions region_meaning cache p s (course_steps region_meaning cache.tag key v.0 (if b then use_steps region_meaning cache.tag (unwidened key) inner.0 [] else []))) (sym wide) v.1,
        v.2,
      )

-- a region that is used for what stands above it, and given back
module _ {M Z : Type 0} (cache : CacheView (Arc FontSet Z)) (p q r : CachePassView RegionKey (Arc FontSet Z)) (k : RegionKey) (lease : Lease M RegionKey RegionValue (Arc FontSet Z)) where
  pub outline-used : (key : RegionKey) → k ≡ unwidened key
      → (course : Course) × Adds equal_regions region_meaning cache p q (course_steps region_meaning cache.tag k course []) × IsLeaseOf region_meaning cache.tag k course lease
      → Adds equal_regions region_meaning cache q r (given_steps lease)
      → (course : Course) × Adds equal_regions region_meaning cache p r (use_steps region_meaning cache.tag (unwidened key) course []) × (has_value course ≡ true)
  outline-used key is v gives =
      let visits = subst (λ (x : RegionKey). Adds equal_regions region_meaning cache p q (course_steps region_meaning cache.tag x v.0 [])) is v.1 in
      let had = subst (λ (x : RegionKey). IsLeaseOf region_meaning cache.tag x v.0 lease) is v.2 in (
        v.0,
        had-use equal_regions region_laws.laws-law region_same region_meaning cache (unwidened key) v.0 [] p q r lease had visits gives,
        had-value equal_regions region_laws.laws-law region_same region_meaning cache (unwidened key) v.0 lease had,
      )

  pub region-used : (key : MaskKey) → k ≡ region_key key
      → (visit : RegionVisit) × IsRegionVisit k visit × Adds equal_regions region_meaning cache p q (region_steps cache.tag k visit) × IsLeaseOf region_meaning cache.tag k visit.course lease
      → Adds equal_regions region_meaning cache q r (given_steps lease)
      → (visit : RegionVisit) × IsRegionVisit (region_key key) visit × Adds equal_regions region_meaning cache p r (region_use_steps cache.tag (region_key key) visit) × (has_value visit.course ≡ true)
  region-used key is v gives =
      let visits = subst (λ (x : RegionKey). Adds equal_regions region_meaning cache p q (region_steps cache.tag x v.0)) is v.2 in
      let had = subst (λ (x : RegionKey). IsLeaseOf region_meaning cache.tag x v.0.course lease) is v.3 in (
        v.0,
        subst (λ (x : RegionKey). IsRegionVisit x v.0) is v.1,
        had-use equal_regions region_laws.laws-law region_same region_meaning cache (region_key key) v.0.course (widening_steps cache.tag (region_key key) v.0) p q r lease had visits gives,
        had-value equal_regions region_laws.laws-law region_same region_meaning cache (region_key key) v.0.course lease had,
      )

module _ {Z : Type 0} (cache : CacheView (Arc FontSet Z)) (p q : CachePassView RegionKey (Arc FontSet Z)) (k : RegionKey) where
  pub outline-refused : (key : RegionKey) → k ≡ unwidened key
      → (course : Course) × Adds equal_regions region_meaning cache p q (course_steps region_meaning cache.tag k course []) × (has_value course ≡ false)
      → (course : Course) × Adds equal_regions region_meaning cache p q (use_steps region_meaning cache.tag (unwidened key) course []) × Unit {0}
  outline-refused key is v = (
    v.0,
    refused-use equal_regions region_laws.laws-law region_same region_meaning cache (unwidened key) v.0 [] p q v.2
        (subst (λ (x : RegionKey). Adds equal_regions region_meaning cache p q (course_steps region_meaning cache.tag x v.0 [])) is v.1),
    tt,
  )

  pub region-refused : (key : MaskKey) → k ≡ region_key key
      → (visit : RegionVisit) × IsRegionVisit k visit × Adds equal_regions region_meaning cache p q (region_steps cache.tag k visit) × (has_value visit.course ≡ false)
      → (visit : RegionVisit) × IsRegionVisit (region_key key) visit × Adds equal_regions region_meaning cache p q (region_use_steps cache.tag (region_key key) visit) × Unit {0}
  region-refused key is v = (
    v.0,
    subst (λ (x : RegionKey). IsRegionVisit x v.0) is v.1,
    refused-use equal_regions region_laws.laws-law region_same region_meaning cache (region_key key) v.0.course (widening_steps cache.tag (region_key key) v.0) p q v.3
        (subst (λ (x : RegionKey). Adds equal_regions region_meaning cache p q (region_steps cache.tag x v.0)) is v.2),
    tt,
  )

module _ {Z : Type 0} (store : CacheView (Arc FontSet Z)) (cache : CacheView (Arc FontSet Z)) (key : MaskKey) (o t : CachePassView RegionKey (Arc FontSet Z)) (p q : CachePassView MaskKey (Arc FontSet Z)) where
  pub found-mask : (pin : PinView MaskKey MaskValue) → Adds equal_regions region_meaning store o t [] → Adds equal_masks mask_meaning cache p q (Ask key Hit ∷ []) → (pin.key ≡ key) × (pin.value ≡ mask_meaning.made cache.tag key)
      → (visit : MaskVisit) × IsMaskVisit visit × (visit.key ≡ key) × Adds equal_regions region_meaning store o t (steps_of_its_region store.tag visit) × Adds equal_masks mask_meaning cache p q (mask_steps cache.tag visit) × ((has_pin visit.course ≡ true) × (pin.key ≡ key) × (pin.value ≡ mask_meaning.made cache.tag key))
  found-mask pin none asks need = (
    record { key = key; course = Found; region = no-visit },
    record { region = λ no. absurd (both-true true false refl no); had = λ no has. absurd (both-true true false refl no) },
    refl,
    none,
    asks,
    (refl, need.0, need.1),
  )

  pub unasked-mask : Adds equal_regions region_meaning store o t [] → Adds equal_masks mask_meaning cache p q []
      → (visit : MaskVisit) × IsMaskVisit visit × (visit.key ≡ key) × Adds equal_regions region_meaning store o t (steps_of_its_region store.tag visit) × Adds equal_masks mask_meaning cache p q (mask_steps cache.tag visit) × (has_value visit.course ≡ false)
  unasked-mask none asks = (
    record { key = key; course = Unasked; region = no-visit },
    record { region = λ no. absurd (both-true true false refl no); had = λ no has. absurd (both-true true false refl no) },
    refl,
    none,
    asks,
    refl,
  )

module _ {M E Z : Type 0} (store : CacheView (Arc FontSet Z)) (cache : CacheView (Arc FontSet Z)) (key : MaskKey) (o t : CachePassView RegionKey (Arc FontSet Z)) (p q : CachePassView MaskKey (Arc FontSet Z)) where
  abbrev pub MaskVisited : CachePassView MaskKey (Arc FontSet Z) → Result (Lease M MaskKey MaskValue (Arc FontSet Z)) E → Type 0
  MaskVisited s had = (visit : MaskVisit) × IsMaskVisit visit × (visit.key ≡ key)
      × Adds equal_regions region_meaning store o t (steps_of_its_region store.tag visit)
      × Adds equal_masks mask_meaning cache p s (mask_steps cache.tag visit)
      × IsHadBy mask_meaning cache.tag key visit.course had

  pub made-mask : (s : CachePassView MaskKey (Arc FontSet Z)) (duty : Option (TicketView MaskKey)) (made : Result (Arc MaskValue Z) E) (had : Result (Lease M MaskKey MaskValue (Arc FontSet Z)) E)
      → Adds equal_masks mask_meaning cache p q (duty_steps (mask_meaning {Z = Z}) key duty) → IsDutyOf (mask_meaning {Z = Z}) key duty
      → (visit : RegionVisit) × IsRegionVisit (region_key key) visit × Adds equal_regions region_meaning store o t (region_use_steps store.tag (region_key key) visit) × OnOk made (has_value visit.course ≡ true)
      → Adds equal_masks mask_meaning cache q s (settled_steps mask_meaning cache.tag duty had) → IsSettled mask_meaning cache.tag duty made had
      → IfOk made (λ a. arc_value a ≡ mask_meaning.made cache.tag key)
      → MaskVisited s had
  made-mask s duty made had asks need inner settles settled value =
      let v = settled-course equal_masks mask_laws.laws-law mask_same mask_meaning cache key [] p q q s duty made had asks need (adds-none equal_masks mask_meaning cache q) settles settled value inner.3 in (
        record { key = key; course = v.0; region = inner.0 },
        record { region = λ is. inner.1; had = λ is has. v.4 has },
        refl,
        subst (λ (b : Bool). Adds equal_regions region_meaning store o t (if b then region_use_steps store.tag (region_key key) inner.0 else [])) (sym v.3) inner.2,
        v.1,
        v.2,
      )

-- A composed mask
module _ {M E : Type 0} (caches : Caches) (key : CompositeKey) (passes after : ThreePasses (Arc FontSet Global)) where
  pub found-composite : (pin : PinView CompositeKey MaskValue) → Adds equal_composites composite_meaning caches.composites passes.composites after.composites (Ask key Hit ∷ [])
      → (pin.key ≡ key) × (pin.value ≡ composite_meaning.made caches.composites.tag key) → after.masks ≡ passes.masks → after.regions ≡ passes.regions → IsComposed {M = M} {E = E} caches passes key after (Ok (Pinned pin))
  found-composite pin asks need masks regions = record {
    visit = record { course = Found; masks = [] };
    is_visit = record { masks = λ no. absurd (both-true true false refl no); all = λ no. absurd (both-true true false refl no); had = λ no. absurd (both-true true false refl no) };
    composites = asks;
    masks = subst (λ (p : CachePassView MaskKey (Arc FontSet Global)). Adds equal_masks mask_meaning caches.masks passes.masks p []) (sym masks) (adds-none equal_masks mask_meaning caches.masks passes.masks);
    regions = subst (λ (p : CachePassView RegionKey (Arc FontSet Global)). Adds equal_regions region_meaning caches.regions passes.regions p []) (sym regions) (adds-none equal_regions region_meaning caches.regions passes.regions);
    had_by = (refl, need.0, need.1);
    short = λ is. absurd (false-true (sym (ap has_pin is)));
  }

  pub unasked-composite : (refused : E) → Adds equal_composites composite_meaning caches.composites passes.composites after.composites [] → IsUnasked equal_composites composite_meaning caches.composites passes.composites key after.composites → after.masks ≡ passes.masks → after.regions ≡ passes.regions → IsComposed {M = M} {E = E} caches passes key after (Err refused)
  unasked-composite refused asks none masks regions = record {
    visit = record { course = Unasked; masks = [] };
    is_visit = record { masks = λ no. absurd (both-true true false refl no); all = λ no. absurd (both-true true false refl no); had = λ no. absurd (both-true true false refl no) };
    composites = asks;
    masks = subst (λ (p : CachePassView MaskKey (Arc FontSet Global)). Adds equal_masks mask_meaning caches.masks passes.masks p []) (sym masks) (adds-none equal_masks mask_meaning caches.masks passes.masks);
    regions = subst (λ (p : CachePassView RegionKey (Arc FontSet Global)). Adds equal_regions region_meaning caches.regions passes.regions p []) (sym regions) (adds-none equal_regions region_meaning caches.regions passes.regions);
    had_by = refl;
    short = λ is. none;
  }

  pub made-composite : (q : CachePassView CompositeKey (Arc FontSet Global)) (duty : Option (TicketView CompositeKey)) (made : Result (Arc MaskValue Global) E) (had : Result (Lease M CompositeKey MaskValue (Arc FontSet Global)) E)
      → Adds equal_composites composite_meaning caches.composites passes.composites q (duty_steps (composite_meaning {Z = Global}) key duty) → IsDutyOf (composite_meaning {Z = Global}) key duty
      → (visits : List MaskVisit) × AreMaskVisits key.parts visits
      × Adds equal_regions region_meaning caches.regions passes.regions after.regions (region_steps_of caches.regions.tag visits)
      × Adds equal_masks mask_meaning caches.masks passes.masks after.masks (mask_steps_of caches.masks.tag visits)
      × OnOk made (AreAllHad key.parts visits)
      → Adds equal_composites composite_meaning caches.composites q after.composites (settled_steps composite_meaning caches.composites.tag duty had) → IsSettled composite_meaning caches.composites.tag duty made had
      → IfOk made (λ a. arc_value a ≡ composite_meaning.made caches.composites.tag key)
      → IsComposed caches passes key after had
  made-composite q duty made had asks need inner settles settled value =
      let v = settled-course equal_composites composite_laws.laws-law composite_same composite_meaning caches.composites key [] passes.composites q q after.composites duty made had asks need (adds-none equal_composites composite_meaning caches.composites q) settles settled value inner.4 in
      record {
        visit = record { course = v.0; masks = inner.0 };
        is_visit = record { masks = λ is. inner.1; all = λ is has. (v.4 has).as_many; had = λ is has. (v.4 has).had };
        composites = v.1;
        masks = subst (λ (b : Bool). Adds equal_masks mask_meaning caches.masks passes.masks after.masks (if b then mask_steps_of caches.masks.tag inner.0 else [])) (sym v.3) inner.3;
        regions = subst (λ (b : Bool). Adds equal_regions region_meaning caches.regions passes.regions after.regions (if b then region_steps_of caches.regions.tag inner.0 else [])) (sym v.3) inner.2;
        had_by = v.2;
        short = λ is. absurd (false-true (sym (ap is_made is) ∙ v.3));
      }
