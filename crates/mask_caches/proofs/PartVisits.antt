-- Visits of the masks of parts, one after another.
use Rattle.std.proofs.Common.{◌≡◌, ℕ, ◌+◌, ◌-◌, ◌<◌, ◌≤◌, true, false, List, [], ◌∷◌, ◌++◌, length, map, take, get_or, reverse, flat_map, Ok, All, refl, sym, ap, ◌∙◌, subst, append-nil, arith}
use Rattle.std.specs.Arc.{arc_value}
use Rattle.std.specs.declared.sync.Arc.{Arc}
use Rattle.std.proofs.lemmas.Grind.{flat_map-append}
use Rattle.std.proofs.Math.Seq.{take-append_seam}
use Rattle.std.proofs.lemmas.List.{length-append, length-map, length-take-le, map-append, reverse-append, take-map, take_all, take_more}
use Rattle.std.proofs.lemmas.List.Elements.{All-push, All-nil, All-take}
use Rattle.ass_num.specs.Masks.{MaskValue}
use Rattle.ass_num.specs.Regions.{RegionValue}
use Rattle.bdf_font.specs.Fonts.{FontValue}
use Rattle.bdf_font.specs.declared.sets.FontSet.{FontSet}
use Rattle.evict_core.specs.Machine.{Step}
use Rattle.evict_core.specs.History.{times_named}
use Rattle.flight_cache.specs.Shards.{CacheView, CachePassView}
use Rattle.flight_cache.proofs.Places.{named-append}
use Rattle.cache_kinds.specs.Kinds.{region_meaning, mask_meaning}
use Rattle.made_values.specs.Parts.{masks_of}
use Rattle.mask_keys.specs.Equality.{equal_regions, equal_masks}
use Rattle.mask_keys.proofs.Equal.{mask_same}
use Rattle.mask_keys.specs.contracts.mask_key.MaskKeyEq.TheImpl.Laws as mask_laws
use Rattle.mask_keys.specs.declared.composite_key.Part.{Part}
use Rattle.mask_keys.specs.declared.mask_key.MaskKey.{MaskKey}
use Rattle.mask_keys.specs.declared.region_key.RegionKey.{RegionKey}
use Rattle.mask_keys.specs.Values.{mask_value}
use Rattle.mask_caches.specs.Adding.{Adds, HoldsAsMuch, HoldsMore}
use Rattle.mask_caches.specs.Courses.{has_value, IsLeaseOf, HoldsTheLease}
use Rattle.mask_caches.specs.Leases.{given_steps, lease_value}
use Rattle.mask_caches.specs.Holding.{AreAllHad, all_given_steps, pinned_key, pinned_keys}
use Rattle.mask_caches.specs.Visits.{MaskVisit, IsMaskVisit, AreMaskVisits, mask_steps, mask_unpins, steps_of_its_region, region_steps_of}
use Rattle.mask_caches.specs.declared.lease.Lease.{Lease}
use Rattle.mask_caches.specs.declared.lease.Lease.TheVariants.{Pinned, Own}
use Rattle.mask_caches.proofs.Adding.{adds-none, adds-then}
use Rattle.mask_caches.proofs.Visiting.{given-course, had-value, lease-value, no-unpins}

-- what one more visit adds
flat-more : {X Y : Type 0} (f : X → List Y) (xs : List X) (x : X) → flat_map f (xs ++ x ∷ []) ≡ flat_map f xs ++ f x
flat-more f xs x = flat_map-append f xs (x ∷ []) ∙ ap (λ l. flat_map f xs ++ l) (append-nil (f x))

-- visits of the masks of the first n parts
keys-front : (parts : List Part) (n : ℕ) (visits : List MaskVisit) → n ≤ length parts → map (λ v. v.key) visits ≡ map (λ part. part.mask) (take n parts)
    → (length visits ≡ n) × (map (λ v. v.key) visits ≡ take (length visits) (map (λ part. part.mask) parts))
keys-front parts n visits few keys =
    let long : length visits ≡ n = sym (length-map visits (λ (v : MaskVisit). v.key)) ∙ (ap length keys ∙ (length-map (take n parts) (λ (x : Part). x.mask) ∙ length-take-le n parts few)) in (
      long,
      keys ∙ (sym (take-map (λ (x : Part). x.mask) n parts) ∙ ap (λ (m : ℕ). take m (map (λ (x : Part). x.mask) parts)) (sym long)),
    )

front-of : (visits : List MaskVisit) (v : MaskVisit) → take (length (visits ++ v ∷ []) - 1) (visits ++ v ∷ []) ≡ visits
front-of visits v = ap (λ (n : ℕ). take n (visits ++ v ∷ [])) (let long = length-append visits (v ∷ []) in omega arith) ∙ take-append_seam visits (v ∷ [])

module _ {Z : Type 0} (cache : CacheView (Arc FontSet Z)) where
  -- of what wasn't had nothing is given back
  pub failed-given : (v : MaskVisit) (visits : List MaskVisit) → has_value v.course ≡ false → flat_map (mask_unpins cache.tag) (reverse (visits ++ v ∷ [])) ≡ flat_map (mask_unpins cache.tag) (reverse visits)
  failed-given v visits none =
      ap (flat_map (mask_unpins cache.tag)) (reverse-append visits (v ∷ []))
      ∙ ap (λ (l : List (Step MaskKey MaskValue)). l ++ flat_map (mask_unpins cache.tag) (reverse visits)) (no-unpins equal_masks mask_laws.laws-law mask_same mask_meaning cache v.key v.course none)

module _ {M Z : Type 0} (fonts : List FontValue) (store cache : CacheView (Arc FontSet Z))
    (o : CachePassView RegionKey (Arc FontSet Z)) (p : CachePassView MaskKey (Arc FontSet Z)) where
  -- the masks of these parts were had
  pub record AreHad (done : List Part) (t : CachePassView RegionKey (Arc FontSet Z)) (s : CachePassView MaskKey (Arc FontSet Z)) (leases : List (Lease M MaskKey MaskValue (Arc FontSet Z))) : Type 0 where
    pub visits : List MaskVisit
    pub keys : map (λ v. v.key) visits ≡ map (λ part. part.mask) done
    pub each : All IsMaskVisit visits
    pub had : All (λ v. has_value v.course ≡ true) visits
    pub regions : Adds equal_regions region_meaning store o t (region_steps_of store.tag visits)
    pub masks : Adds equal_masks mask_meaning cache p s (flat_map (mask_steps cache.tag) visits)
    pub regions_hold : HoldsAsMuch equal_regions region_meaning store o t
    pub masks_hold : HoldsMore equal_masks mask_meaning cache p s (pinned_keys leases)
    pub given : all_given_steps leases ≡ flat_map (mask_unpins cache.tag) (reverse visits)
    pub values : map lease_value leases ≡ masks_of fonts done

  pub none-had : AreHad [] o p []
  none-had = record {
    visits = [];
    keys = refl;
    each = All-nil IsMaskVisit;
    had = All-nil (λ v. has_value v.course ≡ true);
    regions = adds-none equal_regions region_meaning store o;
    masks = adds-none equal_masks mask_meaning cache p;
    regions_hold = record { pins = λ k. refl; claims = λ k. refl };
    masks_hold = record { pins = λ k. omega arith; claims = λ k. refl };
    given = refl;
    values = refl;
  }

  pins-more : {E : Type 0} (q s : CachePassView MaskKey (Arc FontSet Z)) (leases : List (Lease M MaskKey MaskValue (Arc FontSet Z))) (lease : Lease M MaskKey MaskValue (Arc FontSet Z))
      → HoldsMore equal_masks mask_meaning cache p q (pinned_keys leases) → HoldsTheLease {E = E} equal_masks mask_meaning cache q s (Ok lease) → HoldsMore equal_masks mask_meaning cache p s (pinned_keys (leases ++ lease ∷ []))
  pins-more {E} q s leases (Pinned pin) more holds = record {
    pins = λ k. let one = holds.pins k in let before = more.pins k in let places = ap (times_named equal_masks k) (flat-more pinned_key leases (Pinned pin)) ∙ named-append equal_masks k (pinned_keys leases) (pin.key ∷ []) in omega arith;
    claims = λ k. holds.claims k ∙ more.claims k;
  }
  pins-more {E} q s leases (Own value) more holds = record {
    pins = λ k. let one = holds.pins k in let before = more.pins k in let places = ap (times_named equal_masks k) (flat-more pinned_key leases (Own value)) ∙ named-append equal_masks k (pinned_keys leases) [] in omega arith;
    claims = λ k. holds.claims k ∙ more.claims k;
  }

  one-then : {E : Type 0} (done : List Part) (part : Part) (t u : CachePassView RegionKey (Arc FontSet Z)) (q s : CachePassView MaskKey (Arc FontSet Z)) (leases : List (Lease M MaskKey MaskValue (Arc FontSet Z))) (lease : Lease M MaskKey MaskValue (Arc FontSet Z))
      → (arc_value cache.tag).fonts ≡ fonts
      → AreHad done t q leases
      → (visit : MaskVisit) × IsMaskVisit visit × (visit.key ≡ part.mask)
      × Adds equal_regions region_meaning store t u (steps_of_its_region store.tag visit)
      × Adds equal_masks mask_meaning cache q s (mask_steps cache.tag visit)
      × IsLeaseOf mask_meaning cache.tag part.mask visit.course lease
      → HoldsAsMuch equal_regions region_meaning store t u → HoldsTheLease {E = E} equal_masks mask_meaning cache q s (Ok lease)
      → AreHad (done ++ part ∷ []) u s (leases ++ lease ∷ [])
  one-then {E} done part t u q s leases lease tagged h v much holds =
      let unpins : given_steps lease ≡ mask_unpins cache.tag v.0 = given-course equal_masks mask_laws.laws-law mask_same mask_meaning cache part.mask v.0.course lease v.5 ∙ ap (λ k. mask_unpins cache.tag (record { key = k; course = v.0.course; region = v.0.region })) (sym v.2) in
      record {
        visits = h.visits ++ v.0 ∷ [];
        keys = map-append (λ (x : MaskVisit). x.key) h.visits (v.0 ∷ []) ∙ (ap (λ l. l ++ v.0.key ∷ []) h.keys ∙ (ap (λ (k : MaskKey). map (λ (x : Part). x.mask) done ++ k ∷ []) v.2 ∙ sym (map-append (λ (x : Part). x.mask) done (part ∷ []))));
        each = All-push IsMaskVisit h.visits v.0 h.each v.1;
        had = All-push (λ x. has_value x.course ≡ true) h.visits v.0 h.had (had-value equal_masks mask_laws.laws-law mask_same mask_meaning cache part.mask v.0.course lease v.5);
        regions = subst (λ l. Adds equal_regions region_meaning store o u l) (sym (flat-more (steps_of_its_region store.tag) h.visits v.0)) (adds-then equal_regions region_meaning store o t u _ _ h.regions v.3);
        masks = subst (λ l. Adds equal_masks mask_meaning cache p s l) (sym (flat-more (mask_steps cache.tag) h.visits v.0)) (adds-then equal_masks mask_meaning cache p q s _ _ h.masks v.4);
        regions_hold = record { pins = λ k. much.pins k ∙ h.regions_hold.pins k; claims = λ k. much.claims k ∙ h.regions_hold.claims k };
        masks_hold = pins-more {E = E} q s leases lease h.masks_hold holds;
        given = ap (flat_map given_steps) (reverse-append leases (lease ∷ [])) ∙ (ap (λ l. given_steps lease ++ l) h.given ∙ (ap (λ l. l ++ flat_map (mask_unpins cache.tag) (reverse h.visits)) unpins ∙ sym (ap (flat_map (mask_unpins cache.tag)) (reverse-append h.visits (v.0 ∷ [])))));
        values = map-append lease_value leases (lease ∷ []) ∙ (ap (λ l. l ++ lease_value lease ∷ []) h.values
            ∙ (ap (λ x. masks_of fonts done ++ x ∷ []) (lease-value equal_masks mask_laws.laws-law mask_same mask_meaning cache part.mask v.0.course lease v.5 ∙ ap (λ fs. mask_value fs part.mask) tagged)
            ∙ sym (map-append (λ (x : Part). mask_value fonts x.mask) done (part ∷ []))));
      }

  -- the mask of the next part was had
  pub one-more : {E : Type 0} (parts : List Part) (n : ℕ) (part : Part) (t u : CachePassView RegionKey (Arc FontSet Z)) (q s : CachePassView MaskKey (Arc FontSet Z)) (leases after : List (Lease M MaskKey MaskValue (Arc FontSet Z))) (lease : Lease M MaskKey MaskValue (Arc FontSet Z))
      → n < length parts → part ≡ get_or parts n part → after ≡ leases ++ lease ∷ [] → (arc_value cache.tag).fonts ≡ fonts
      → AreHad (take n parts) t q leases
      → (visit : MaskVisit) × IsMaskVisit visit × (visit.key ≡ part.mask)
      × Adds equal_regions region_meaning store t u (steps_of_its_region store.tag visit)
      × Adds equal_masks mask_meaning cache q s (mask_steps cache.tag visit)
      × IsLeaseOf mask_meaning cache.tag part.mask visit.course lease
      → HoldsAsMuch equal_regions region_meaning store t u → HoldsTheLease {E = E} equal_masks mask_meaning cache q s (Ok lease)
      → AreHad (take (n + 1) parts) u s after
  one-more {E} parts n part t u q s leases after lease there is pushed tagged h v much holds =
      subst (λ (l : List Part). AreHad l u s after) (sym (take_more parts n part there ∙ ap (λ (x : Part). take n parts ++ x ∷ []) (sym is)))
      (subst (λ (l : List (Lease M MaskKey MaskValue (Arc FontSet Z))). AreHad (take n parts ++ part ∷ []) u s l) (sym pushed) (one-then {E = E} (take n parts) part t u q s leases lease tagged h v much holds))

  -- all parts' masks were had
  pub all-had : (parts : List Part) (n : ℕ) (t : CachePassView RegionKey (Arc FontSet Z)) (s : CachePassView MaskKey (Arc FontSet Z)) (leases : List (Lease M MaskKey MaskValue (Arc FontSet Z))) → n ≡ length parts
      → (h : AreHad (take n parts) t s leases) → AreMaskVisits parts h.visits × AreAllHad parts h.visits × (map lease_value leases ≡ masks_of fonts parts)
  all-had parts n t s leases whole h =
      let front = keys-front parts n h.visits (omega (arith, whole)) h.keys in (
        record {
          keys = front.1;
          each = h.each;
          had = All-take (λ (v : MaskVisit). has_value v.course ≡ true) (length h.visits - 1) h.visits h.had;
        },
        record { as_many = front.0 ∙ whole; had = h.had },
        h.values ∙ ap (masks_of fonts) (take_all n parts (omega (arith, whole))),
      )

  -- what visits of the first parts came to, the last of which failed
  pub record AreRefused (parts : List Part) (t : CachePassView RegionKey (Arc FontSet Z)) (s : CachePassView MaskKey (Arc FontSet Z)) (leases : List (Lease M MaskKey MaskValue (Arc FontSet Z))) : Type 0 where
    pub visits : List MaskVisit
    pub are : AreMaskVisits parts visits
    pub regions : Adds equal_regions region_meaning store o t (region_steps_of store.tag visits)
    pub masks : Adds equal_masks mask_meaning cache p s (flat_map (mask_steps cache.tag) visits)
    pub regions_hold : HoldsAsMuch equal_regions region_meaning store o t
    pub masks_hold : HoldsMore equal_masks mask_meaning cache p s (pinned_keys leases)
    pub given : all_given_steps leases ≡ flat_map (mask_unpins cache.tag) (reverse visits)

  pub one-refused : (parts : List Part) (n : ℕ) (part : Part) (t u : CachePassView RegionKey (Arc FontSet Z)) (q s : CachePassView MaskKey (Arc FontSet Z)) (leases : List (Lease M MaskKey MaskValue (Arc FontSet Z)))
      → n < length parts → part ≡ get_or parts n part
      → AreHad (take n parts) t q leases
      → (visit : MaskVisit) × IsMaskVisit visit × (visit.key ≡ part.mask)
      × Adds equal_regions region_meaning store t u (steps_of_its_region store.tag visit)
      × Adds equal_masks mask_meaning cache q s (mask_steps cache.tag visit)
      × (has_value visit.course ≡ false)
      → HoldsAsMuch equal_regions region_meaning store t u → HoldsAsMuch equal_masks mask_meaning cache q s
      → AreRefused parts u s leases
  one-refused parts n part t u q s leases there is h v much same =
      let more : take (n + 1) parts ≡ take n parts ++ part ∷ [] = take_more parts n part there ∙ ap (λ (x : Part). take n parts ++ x ∷ []) (sym is) in
      let keys : map (λ x. x.key) (h.visits ++ v.0 ∷ []) ≡ map (λ x. x.mask) (take (n + 1) parts) =
      map-append (λ (x : MaskVisit). x.key) h.visits (v.0 ∷ []) ∙ (ap (λ (l : List MaskKey). l ++ v.0.key ∷ []) h.keys
      ∙ (ap (λ (k : MaskKey). map (λ (x : Part). x.mask) (take n parts) ++ k ∷ []) v.2 ∙ (sym (map-append (λ (x : Part). x.mask) (take n parts) (part ∷ [])) ∙ ap (map (λ (x : Part). x.mask)) (sym more)))) in
      record {
        visits = h.visits ++ v.0 ∷ [];
        are = record {
          keys = (keys-front parts (n + 1) (h.visits ++ v.0 ∷ []) (omega arith) keys).1;
          each = All-push IsMaskVisit h.visits v.0 h.each v.1;
          had = subst (λ (l : List MaskVisit). All (λ x. has_value x.course ≡ true) l) (sym (front-of h.visits v.0)) h.had;
        };
        regions = subst (λ (l : List (Step RegionKey RegionValue)). Adds equal_regions region_meaning store o u l) (sym (flat-more (steps_of_its_region store.tag) h.visits v.0)) (adds-then equal_regions region_meaning store o t u _ _ h.regions v.3);
        masks = subst (λ (l : List (Step MaskKey MaskValue)). Adds equal_masks mask_meaning cache p s l) (sym (flat-more (mask_steps cache.tag) h.visits v.0)) (adds-then equal_masks mask_meaning cache p q s _ _ h.masks v.4);
        regions_hold = record { pins = λ k. much.pins k ∙ h.regions_hold.pins k; claims = λ k. much.claims k ∙ h.regions_hold.claims k };
        masks_hold = record { pins = λ k. same.pins k ∙ h.masks_hold.pins k; claims = λ k. same.claims k ∙ h.masks_hold.claims k };
        given = h.given ∙ sym (failed-given cache v.0 h.visits v.5);
      }
