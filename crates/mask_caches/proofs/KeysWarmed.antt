-- What warming one key adds, and keys one after another.
use Rattle.std.proofs.Common.{◌≡◌, ℕ, ◌+◌, ◌<◌, true, false, List, [], ◌∷◌, ◌++◌, length, map, take, get_or, Some, None, Ok, Err, All, refl, sym, ap, ◌∙◌, subst, append-nil, arith}
use Rattle.std.specs.Option.{option_to_list}
use Rattle.std.specs.declared.alloc.Global.{Global}
use Rattle.std.specs.declared.sync.Arc.{Arc}
use Rattle.std.proofs.lemmas.Grind.{flat_map-append}
use Rattle.std.proofs.lemmas.List.{length-append, length-map, length-take-le, map-append, take_all, take_more}
use Rattle.std.proofs.lemmas.List.Elements.{All-nil, All-push}
use Rattle.ass_num.specs.Masks.{MaskValue}
use Rattle.bdf_font.specs.declared.sets.FontSet.{FontSet}
use Rattle.flight_cache.specs.Shards.{CachePassView}
use Rattle.cache_kinds.specs.Kinds.{region_meaning, mask_meaning, composite_meaning}
use Rattle.mask_keys.specs.Equality.{equal_regions, equal_masks, equal_composites}
use Rattle.mask_keys.proofs.Equal.{composite_same}
use Rattle.mask_keys.specs.contracts.composite_key.CompositeKeyEq.TheImpl.Laws as composite_laws
use Rattle.mask_keys.specs.declared.composite_key.CompositeKey.{CompositeKey}
use Rattle.mask_keys.specs.declared.mask_key.MaskKey.{MaskKey}
use Rattle.mask_keys.specs.declared.region_key.RegionKey.{RegionKey}
use Rattle.mask_caches.specs.Adding.{Adds, HoldsAsMuch}
use Rattle.mask_caches.specs.Caches.{HoldsAsBefore}
use Rattle.mask_caches.specs.Composing.{IsComposed, HoldsJustTheLease}
use Rattle.mask_caches.specs.Courses.{has_value}
use Rattle.mask_caches.specs.Leases.{given_steps}
use Rattle.mask_caches.specs.Threes.{three_of}
use Rattle.mask_caches.specs.Visits.{CompositeVisit, IsCompositeVisit, steps_of_its_masks, steps_of_its_regions}
use Rattle.mask_caches.specs.declared.caches.Caches.{Caches}
use Rattle.mask_caches.specs.declared.lease.Lease.{Lease}
use Rattle.mask_caches.specs.declared.passes.CachesPass.{CachesPass}
use Rattle.mask_caches.proofs.Adding.{adds-none, adds-then}
use Rattle.mask_caches.proofs.Holding.{much-itself, much-then}
use Rattle.mask_caches.proofs.Visiting.{given-again, had-use, had-value, refused-much, refused-use}
use Rattle.mask_caches.specs.Warming.{KeyVisit, AddsWarming, AreWarmed, key_steps}

module _ (caches : Caches) where
  pub before-itself : (p : CachesPass) → HoldsAsBefore caches p p
  before-itself p = record {
    regions = much-itself equal_regions region_meaning caches.regions p.regions;
    masks = much-itself equal_masks mask_meaning caches.masks p.masks;
    composites = much-itself equal_composites composite_meaning caches.composites p.composites;
  }

  pub before-then : (p q r : CachesPass) → HoldsAsBefore caches p q → HoldsAsBefore caches q r → HoldsAsBefore caches p r
  before-then p q r f g = record {
    regions = much-then equal_regions region_meaning caches.regions p.regions q.regions r.regions f.regions g.regions;
    masks = much-then equal_masks mask_meaning caches.masks p.masks q.masks r.masks f.masks g.masks;
    composites = much-then equal_composites composite_meaning caches.composites p.composites q.composites r.composites f.composites g.composites;
  }

module _ (caches : Caches) (pass mid after : CachesPass) where
  pub warming-then : (xs ys : List KeyVisit) → AddsWarming caches pass mid xs → AddsWarming caches mid after ys → AddsWarming caches pass after (xs ++ ys)
  warming-then xs ys f g = record {
    composites = subst (λ l. Adds equal_composites composite_meaning caches.composites pass.composites after.composites l) (sym (flat_map-append (key_steps caches.composites.tag) xs ys)) (adds-then equal_composites composite_meaning caches.composites pass.composites mid.composites after.composites _ _ f.composites g.composites);
    masks = subst (λ l. Adds equal_masks mask_meaning caches.masks pass.masks after.masks l) (sym (flat_map-append (λ (v : KeyVisit). steps_of_its_masks caches.masks.tag v.visit) xs ys)) (adds-then equal_masks mask_meaning caches.masks pass.masks mid.masks after.masks _ _ f.masks g.masks);
    regions = subst (λ l. Adds equal_regions region_meaning caches.regions pass.regions after.regions l) (sym (flat_map-append (λ (v : KeyVisit). steps_of_its_regions caches.regions.tag v.visit) xs ys)) (adds-then equal_regions region_meaning caches.regions pass.regions mid.regions after.regions _ _ f.regions g.regions);
  }

-- one key
module _ {M E : Type 0} (caches : Caches) (pass mid after : CachesPass) (key : CompositeKey) where
  -- the lease was given back
  pub one-warmed : (lease : Lease M CompositeKey MaskValue (Arc FontSet Global)) (t : IsComposed {E = E} caches (three_of pass) key (three_of mid) (Ok lease))
      → Adds equal_composites composite_meaning caches.composites mid.composites after.composites (given_steps lease) → after.masks ≡ mid.masks → after.regions ≡ mid.regions
      → AddsWarming caches pass after (record { key = key; visit = t.visit } ∷ []) × (has_value t.visit.course ≡ true)
  one-warmed lease t gives masks regions =
      let used = had-use equal_composites composite_laws.laws-law composite_same composite_meaning caches.composites key t.visit.course [] pass.composites mid.composites after.composites lease t.had_by t.composites gives in (
        record {
          composites = subst (λ l. Adds equal_composites composite_meaning caches.composites pass.composites after.composites l) (sym (append-nil (key_steps caches.composites.tag (record { key = key; visit = t.visit })))) used;
          masks = subst (λ (p : CachePassView MaskKey (Arc FontSet Global)). Adds equal_masks mask_meaning caches.masks pass.masks p (steps_of_its_masks caches.masks.tag t.visit ++ [])) (sym masks)
              (subst (λ l. Adds equal_masks mask_meaning caches.masks pass.masks mid.masks l) (sym (append-nil (steps_of_its_masks caches.masks.tag t.visit))) t.masks);
          regions = subst (λ (p : CachePassView RegionKey (Arc FontSet Global)). Adds equal_regions region_meaning caches.regions pass.regions p (steps_of_its_regions caches.regions.tag t.visit ++ [])) (sym regions)
              (subst (λ l. Adds equal_regions region_meaning caches.regions pass.regions mid.regions l) (sym (append-nil (steps_of_its_regions caches.regions.tag t.visit))) t.regions);
        },
        had-value equal_composites composite_laws.laws-law composite_same composite_meaning caches.composites key t.visit.course lease t.had_by,
      )

  pub one-much : (lease : Lease M CompositeKey MaskValue (Arc FontSet Global)) → HoldsJustTheLease {E = E} caches (three_of pass) key (three_of mid) (Ok lease)
      → Adds equal_composites composite_meaning caches.composites mid.composites after.composites (given_steps lease) → after.masks ≡ mid.masks → after.regions ≡ mid.regions
      → HoldsAsBefore caches pass after
  one-much lease t gives masks regions = record {
    composites = given-again equal_composites composite_laws.laws-law composite_same composite_meaning caches.composites pass.composites mid.composites after.composites lease t.composites gives;
    masks = subst (λ (p : CachePassView MaskKey (Arc FontSet Global)). HoldsAsMuch equal_masks mask_meaning caches.masks pass.masks p) (sym masks) t.masks;
    regions = subst (λ (p : CachePassView RegionKey (Arc FontSet Global)). HoldsAsMuch equal_regions region_meaning caches.regions pass.regions p) (sym regions) t.regions;
  }

module _ {M E : Type 0} (caches : Caches) (pass mid : CachesPass) (key : CompositeKey) where
  -- memory ran out
  pub one-refused : (refused : E) (t : IsComposed {M = M} caches (three_of pass) key (three_of mid) (Err refused)) → AddsWarming caches pass mid (record { key = key; visit = t.visit } ∷ []) × (has_value t.visit.course ≡ false)
  one-refused refused t =
      let used = refused-use equal_composites composite_laws.laws-law composite_same composite_meaning caches.composites key t.visit.course [] pass.composites mid.composites t.had_by t.composites in (
        record {
          composites = subst (λ l. Adds equal_composites composite_meaning caches.composites pass.composites mid.composites l) (sym (append-nil (key_steps caches.composites.tag (record { key = key; visit = t.visit })))) used;
          masks = subst (λ l. Adds equal_masks mask_meaning caches.masks pass.masks mid.masks l) (sym (append-nil (steps_of_its_masks caches.masks.tag t.visit))) t.masks;
          regions = subst (λ l. Adds equal_regions region_meaning caches.regions pass.regions mid.regions l) (sym (append-nil (steps_of_its_regions caches.regions.tag t.visit))) t.regions;
        },
        t.had_by,
      )

  pub refused-holds : (refused : E) → HoldsJustTheLease {M = M} caches (three_of pass) key (three_of mid) (Err refused) → HoldsAsBefore caches pass mid
  refused-holds refused t = record {
    composites = refused-much {M = M} equal_composites composite_laws.laws-law composite_same composite_meaning caches.composites pass.composites mid.composites refused t.composites;
    masks = t.masks;
    regions = t.regions;
  }

module _ (caches : Caches) (pass : CachesPass) where
  -- these keys were warmed
  pub record WereWarmed (done : List CompositeKey) (after : CachesPass) : Type 0 where
    pub visits : List KeyVisit
    pub keys : map (λ v. v.key) visits ≡ done
    pub each : All (λ v. IsCompositeVisit v.key v.visit) visits
    pub had : All (λ v. has_value v.visit.course ≡ true) visits
    pub adds : AddsWarming caches pass after visits
    pub holds : HoldsAsBefore caches pass after

  pub none-warmed : WereWarmed [] pass
  none-warmed = record {
    visits = [];
    keys = refl;
    each = All-nil (λ v. IsCompositeVisit v.key v.visit);
    had = All-nil (λ v. has_value v.visit.course ≡ true);
    adds = record {
      composites = adds-none equal_composites composite_meaning caches.composites pass.composites;
      masks = adds-none equal_masks mask_meaning caches.masks pass.masks;
      regions = adds-none equal_regions region_meaning caches.regions pass.regions;
    };
    holds = before-itself caches pass;
  }

  -- and the next one
  pub one-more : (keys : List CompositeKey) (n : ℕ) (key : CompositeKey) (mid after : CachesPass) (visit : CompositeVisit) → n < length keys → key ≡ get_or keys n key → WereWarmed (take n keys) mid
      → IsCompositeVisit key visit → AddsWarming caches mid after (record { key = key; visit = visit } ∷ []) → has_value visit.course ≡ true → HoldsAsBefore caches mid after → WereWarmed (take (n + 1) keys) after
  one-more keys n key mid after visit there is w of adds had holds =
      let more : take (n + 1) keys ≡ take n keys ++ key ∷ [] = take_more keys n key there ∙ ap (λ (k : CompositeKey). take n keys ++ k ∷ []) (sym is) in
      let v : KeyVisit = record { key = key; visit = visit } in
      record {
        visits = w.visits ++ v ∷ [];
        keys = map-append (λ (x : KeyVisit). x.key) w.visits (v ∷ []) ∙ (ap (λ (l : List CompositeKey). l ++ key ∷ []) w.keys ∙ sym more);
        each = All-push (λ (x : KeyVisit). IsCompositeVisit x.key x.visit) w.visits v w.each of;
        had = All-push (λ (x : KeyVisit). has_value x.visit.course ≡ true) w.visits v w.had had;
        adds = warming-then caches pass mid after w.visits (v ∷ []) w.adds adds;
        holds = before-then caches pass mid after w.holds holds;
      }

  -- all were
  pub all-warmed : (keys : List CompositeKey) (n m : ℕ) (after : CachesPass) → n ≡ length keys → m ≡ n → WereWarmed (take n keys) after → AreWarmed caches pass keys after m
  all-warmed keys n m after all count w =
      let same : w.visits ++ option_to_list None ≡ w.visits = append-nil w.visits in
      let keys_are : map (λ (v : KeyVisit). v.key) w.visits ≡ keys = w.keys ∙ take_all n keys (omega (arith, all)) in
      let long : length w.visits ≡ length keys = sym (length-map w.visits (λ (v : KeyVisit). v.key)) ∙ ap length keys_are in
      record {
        warmed = w.visits;
        refused = None;
        count = omega (arith, long, all, count);
        keys_are = subst (λ (l : List KeyVisit). map (λ v. v.key) l ≡ take (length l) keys) (sym same) (keys_are ∙ sym (take_all (length w.visits) keys (omega (arith, long))));
        each = subst (λ (l : List KeyVisit). All (λ v. IsCompositeVisit v.key v.visit) l) (sym same) w.each;
        had = w.had;
        whole = omega (arith, all, count);
        failed = tt;
        adds = subst (λ (l : List KeyVisit). AddsWarming caches pass after l) (sym same) w.adds;
      }

  -- or the next one wasn't
  pub one-failed : (keys : List CompositeKey) (n m : ℕ) (key : CompositeKey) (mid after : CachesPass) (visit : CompositeVisit) → n < length keys → key ≡ get_or keys n key → m ≡ n → WereWarmed (take n keys) mid
      → IsCompositeVisit key visit → AddsWarming caches mid after (record { key = key; visit = visit } ∷ []) → has_value visit.course ≡ false → AreWarmed caches pass keys after m
  one-failed keys n m key mid after visit there is count w of adds failed =
      let more : take (n + 1) keys ≡ take n keys ++ key ∷ [] = take_more keys n key there ∙ ap (λ (k : CompositeKey). take n keys ++ k ∷ []) (sym is) in
      let v : KeyVisit = record { key = key; visit = visit } in
      let long : length w.visits ≡ n = sym (length-map w.visits (λ (x : KeyVisit). x.key)) ∙ (ap length w.keys ∙ length-take-le n keys (omega arith)) in
      let longer : length (w.visits ++ v ∷ []) ≡ n + 1 = length-append w.visits (v ∷ []) ∙ ap (λ (k : ℕ). k + 1) long in
      record {
        warmed = w.visits;
        refused = Some v;
        count = long ∙ sym count;
        keys_are = map-append (λ (x : KeyVisit). x.key) w.visits (v ∷ []) ∙ (ap (λ (l : List CompositeKey). l ++ key ∷ []) w.keys ∙ (sym more ∙ ap (λ (k : ℕ). take k keys) (sym longer)));
        each = All-push (λ (x : KeyVisit). IsCompositeVisit x.key x.visit) w.visits v w.each of;
        had = w.had;
        whole = tt;
        failed = failed;
        adds = warming-then caches pass mid after w.visits (v ∷ []) w.adds adds;
      }
