-- Leases of several keys: calls in a row, and what was had that is given back.
use Rattle.std.proofs.Common.{◌≡◌, ℕ, ◌+◌, ◌-◌, ◌≤◌, true, false, List, [], ◌∷◌, ◌++◌, length, map, take, reverse, flat_map, Result, Ok, Err, refl, sym, ap, ◌∙◌, subst, append_assoc, append-nil, arith}
use Rattle.std.specs.List.{All}
use Rattle.std.specs.Result.{IfOk, OnErr}
use Rattle.std.specs.declared.alloc.Global.{Global}
use Rattle.std.specs.declared.sync.Arc.{Arc}
use Rattle.std.proofs.Math.Seq.{take-append-add}
use Rattle.std.proofs.lemmas.Grind.{flat_map-append}
use Rattle.std.proofs.lemmas.List.{length-append, length-map, length-take, map-append, reverse-append, take-append-le, take_all}
use Rattle.std.proofs.lemmas.List.Elements.{All-append, All-cons, All-nil, All-take}
use Rattle.ass_num.specs.Masks.{MaskValue}
use Rattle.ass_num.specs.Regions.{RegionValue}
use Rattle.bdf_font.specs.declared.sets.FontSet.{FontSet}
use Rattle.cache_kinds.specs.Kinds.{composite_meaning, mask_meaning, region_meaning}
use Rattle.cache_kinds.specs.declared.kinds.CompositeMade.{CompositeMade}
use Rattle.evict_core.specs.Machine.{Step, Unpin}
use Rattle.mask_keys.specs.Equality.{equal_composites, equal_masks, equal_regions}
use Rattle.mask_keys.specs.declared.composite_key.CompositeKey.{CompositeKey}
use Rattle.mask_keys.specs.declared.mask_key.MaskKey.{MaskKey}
use Rattle.mask_keys.specs.declared.region_key.RegionKey.{RegionKey}
use Rattle.mask_caches.specs.Adding.{Adds, HoldsAsMuch, HoldsMore}
use Rattle.mask_caches.specs.Caches.{HoldsAsBefore, IsPassOf}
use Rattle.mask_caches.specs.Composing.{HoldsJustTheLease, IsComposed}
use Rattle.mask_caches.specs.Courses.{Course, Found, Filled, Failed, MadeApart, FailedApart, Spilled, Unasked, HoldsTheLease, IsLeaseOf, has_pin, has_value, unpin_steps}
use Rattle.mask_caches.specs.Holding.{all_given_steps, pinned_keys}
use Rattle.mask_caches.specs.Leases.{given_steps, IsHomeLease}
use Rattle.mask_caches.specs.Threes.{three_of}
use Rattle.mask_caches.specs.Visits.{CompositeVisit, IsCompositeVisit, composite_steps, steps_of_its_masks, steps_of_its_regions}
use Rattle.mask_caches.specs.declared.caches.Caches.{Caches}
use Rattle.mask_caches.specs.declared.lease.Lease.TheVariants.{Pinned, Own}
use Rattle.mask_caches.specs.declared.passes.CachesPass.{CachesPass}
use Rattle.mask_caches.proofs.Adding.{adds-none, adds-then}
use Rattle.mask_caches.proofs.Holding.{given-append, more-much, more-none, more-then, much-itself, much-then, pinned-append}
use Rattle.renderer.specs.ShownFrames.{MaskLease}
use Rattle.renderer.specs.Holding.{HoldsLeases, HoldsLeasesMore}
use Rattle.mask_caches.specs.Warming.{KeyVisit, visit_mask_steps, visit_region_steps}
use Rattle.renderer.specs.Leasing.{AddsVisits, AreAllLeased, AreKeyVisits, AreLeased, AreLeasesBy, AreUnleased, IsLent, IsUnlent, visit_steps, visit_unpins}
use Rattle.renderer.proofs.Held.{leases-given, leases-held}
use Rattle.renderer.proofs.GivenLeases.{GivesLeases, gives-fewer}
use Rattle.mask_caches.proofs.KeysWarmed.{before-itself}
use Rattle.mask_caches.proofs.Visiting.{own-unpins, own-value}

abbrev key_of : KeyVisit → CompositeKey
key_of v = v.key

abbrev IsVisited : KeyVisit → Type 0
IsVisited v = IsCompositeVisit v.key v.visit

abbrev IsHad : KeyVisit → Type 0
IsHad v = has_value v.visit.course ≡ true

-- ---- keys

keys-all : (keys : List CompositeKey) (visits : List KeyVisit) → AreAllLeased keys visits → map key_of visits ≡ keys
keys-all keys visits h = h.are.keys_are ∙ (ap (λ (n : ℕ). take n keys) h.as_many ∙ take_all (length keys) keys (omega arith))

keys-within : (keys : List CompositeKey) (visits : List KeyVisit) → AreKeyVisits keys visits → length visits ≤ length keys
keys-within keys visits h =
    let same = ap (λ (l : List CompositeKey). length l) h.keys_are in
    omega (arith, length-map visits key_of, length-take (length visits) keys)

all-none : AreAllLeased [] []
all-none = record {
  are = record { keys_are = refl; each = All-nil IsVisited; had = All-nil IsHad };
  as_many = refl;
  had = All-nil IsHad;
}

all-then : (keys more : List CompositeKey) (visits later : List KeyVisit) → AreAllLeased keys visits → AreAllLeased more later → AreAllLeased (keys ++ more) (visits ++ later)
all-then keys more visits later f g =
    let many : length (visits ++ later) ≡ length (keys ++ more) = let a = f.as_many in let b = g.as_many in omega (arith, length-append visits later, length-append keys more) in
    let had : All IsHad (visits ++ later) = All-append IsHad visits later f.had g.had in
    record {
      are = record {
        keys_are =
            map-append key_of visits later
            ∙ (ap (λ (l : List CompositeKey). l ++ map key_of later) (keys-all keys visits f)
            ∙ (ap (λ (l : List CompositeKey). keys ++ l) (keys-all more later g)
            ∙ (sym (take_all (length (keys ++ more)) (keys ++ more) (omega arith)) ∙ ap (λ (n : ℕ). take n (keys ++ more)) (sym many))));
        each = All-append IsVisited visits later f.are.each g.are.each;
        had = All-take IsHad (length (visits ++ later) - 1) (visits ++ later) had;
      };
      as_many = many;
      had = had;
    }

had-then : (visits later : List KeyVisit) → All IsHad visits → All IsHad (take (length later - 1) later) → All IsHad (take (length (visits ++ later) - 1) (visits ++ later))
had-then visits [] f g = All-take IsHad (length (visits ++ []) - 1) (visits ++ []) (All-append IsHad visits [] f (All-nil IsHad))
had-then visits (v ∷ later) f g =
    let n = length (v ∷ later) - 1 in
    let cut : length (visits ++ v ∷ later) - 1 ≡ length visits + n = omega (arith, length-append visits (v ∷ later)) in
    subst (λ (l : List KeyVisit). All IsHad l) (sym (ap (λ (k : ℕ). take k (visits ++ v ∷ later)) cut ∙ take-append-add visits (v ∷ later) n))
    (All-append IsHad visits (take n (v ∷ later)) f g)

visits-then : (keys more : List CompositeKey) (visits later : List KeyVisit) → AreAllLeased keys visits → AreKeyVisits more later → AreKeyVisits (keys ++ more) (visits ++ later)
visits-then keys more visits later f g =
    let many : length (visits ++ later) ≡ length keys + length later = let a = f.as_many in omega (arith, length-append visits later) in
    record {
      keys_are =
          map-append key_of visits later
          ∙ (ap (λ (l : List CompositeKey). l ++ map key_of later) (keys-all keys visits f)
          ∙ (ap (λ (l : List CompositeKey). keys ++ l) g.keys_are
          ∙ (sym (take-append-add keys more (length later)) ∙ ap (λ (n : ℕ). take n (keys ++ more)) (sym many))));
      each = All-append IsVisited visits later f.are.each g.each;
      had = had-then visits later f.had g.had;
    }

-- keys behind them weren't asked for
visits-front : (keys more : List CompositeKey) (visits : List KeyVisit) → AreKeyVisits keys visits → AreKeyVisits (keys ++ more) visits
visits-front keys more visits f = record {
  keys_are = f.keys_are ∙ sym (take-append-le (length visits) keys more (keys-within keys visits f));
  each = f.each;
  had = f.had;
}

-- ---- leases

by-then : (fonts : Arc FontSet Global) (visits later : List KeyVisit) (leases more : List MaskLease) → AreLeasesBy fonts visits leases → AreLeasesBy fonts later more → AreLeasesBy fonts (visits ++ later) (leases ++ more)
by-then fonts [] later [] more f g = g
by-then fonts [] later (lease ∷ leases) more f g = absurd f
by-then fonts (v ∷ visits) later [] more f g = absurd f
by-then fonts (v ∷ visits) later (lease ∷ leases) more f g = (f.0, by-then fonts visits later leases more f.1 g)

value-of-pin : (course : Course) → has_pin course ≡ true → has_value course ≡ true
value-of-pin Found h = refl
value-of-pin Filled h = refl
value-of-pin Failed h = h
value-of-pin MadeApart h = refl
value-of-pin FailedApart h = h
value-of-pin Spilled h = refl
value-of-pin Unasked h = h

lease-has-value : (fonts : Arc FontSet Global) (key : CompositeKey) (course : Course) (lease : MaskLease) → IsLeaseOf composite_meaning fonts key course lease → has_value course ≡ true
lease-has-value fonts key course (Pinned pin) h = value-of-pin course h.0
lease-has-value fonts key course (Own value) h = own-value course h.0

-- a pin of it gives one unpin back, and else nothing is given back
unpin-of-pin : (fonts : Arc FontSet Global) (key : CompositeKey) (course : Course) → has_pin course ≡ true → unpin_steps composite_meaning fonts key course ≡ Unpin key ∷ []
unpin-of-pin fonts key Found h = refl
unpin-of-pin fonts key Filled h = refl
unpin-of-pin fonts key Failed h = cc
unpin-of-pin fonts key MadeApart h = cc
unpin-of-pin fonts key FailedApart h = cc
unpin-of-pin fonts key Spilled h = cc
unpin-of-pin fonts key Unasked h = cc

given-of-lease : (fonts : Arc FontSet Global) (key : CompositeKey) (course : Course) (lease : MaskLease) → IsLeaseOf composite_meaning fonts key course lease → given_steps lease ≡ unpin_steps composite_meaning fonts key course
given-of-lease fonts key course (Pinned pin) h = ap (λ (k : CompositeKey). Unpin k ∷ []) h.1 ∙ sym (unpin-of-pin fonts key course h.0)
given-of-lease fonts key course (Own value) h = own-unpins composite_meaning fonts key course h.0

abbrev unpins_of : Arc FontSet Global → KeyVisit → List (Step CompositeKey MaskValue)
unpins_of fonts v = unpin_steps composite_meaning fonts v.key v.visit.course

unpins-then : (fonts : Arc FontSet Global) (visits later : List KeyVisit) → visit_unpins fonts (visits ++ later) ≡ visit_unpins fonts later ++ visit_unpins fonts visits
unpins-then fonts visits later = ap (flat_map (unpins_of fonts)) (reverse-append visits later) ∙ flat_map-append (unpins_of fonts) (reverse later) (reverse visits)

-- what the leases give back is what the visits had
given-of-leases : (fonts : Arc FontSet Global) (visits : List KeyVisit) (leases : List MaskLease) → AreLeasesBy fonts visits leases → all_given_steps leases ≡ visit_unpins fonts visits
given-of-leases fonts [] [] h = refl
given-of-leases fonts [] (lease ∷ leases) h = absurd h
given-of-leases fonts (v ∷ visits) [] h = absurd h
given-of-leases fonts (v ∷ visits) (lease ∷ leases) h =
    given-append (lease ∷ []) leases
    ∙ (ap (λ (l : List (Step CompositeKey MaskValue)). l ++ all_given_steps (lease ∷ [])) (given-of-leases fonts visits leases h.1)
    ∙ (ap (λ (l : List (Step CompositeKey MaskValue)). visit_unpins fonts visits ++ (l ++ [])) (given-of-lease fonts v.key v.visit.course lease h.0) ∙ sym (unpins-then fonts (v ∷ []) visits)))

-- ---- what is added

module _ (caches : Caches) where
  adds-no-visit : (p : CachesPass) → AddsVisits caches p p [] []
  adds-no-visit p = record {
    composites = adds-none equal_composites composite_meaning caches.composites p.composites;
    masks = adds-none equal_masks mask_meaning caches.masks p.masks;
    regions = adds-none equal_regions region_meaning caches.regions p.regions;
  }

  adds-visits : (p q r : CachesPass) (visits later : List KeyVisit) (given : List (Step CompositeKey MaskValue)) → AddsVisits caches p q visits [] → AddsVisits caches q r later given → AddsVisits caches p r (visits ++ later) given
  adds-visits p q r visits later given f g =
      let tag = caches.composites.tag in
      let whole : (visit_steps tag visits ++ []) ++ (visit_steps tag later ++ given) ≡ visit_steps tag (visits ++ later) ++ given =
      ap (λ (l : List (Step CompositeKey MaskValue)). l ++ (visit_steps tag later ++ given)) (append-nil (visit_steps tag visits))
      ∙ (sym (append_assoc (visit_steps tag visits) (visit_steps tag later) given) ∙ ap (λ (l : List (Step CompositeKey MaskValue)). l ++ given) (sym (flat_map-append (λ (v : KeyVisit). composite_steps tag v.key v.visit) visits later))) in
      record {
        composites = subst (λ (l : List (Step CompositeKey MaskValue)). Adds equal_composites composite_meaning caches.composites p.composites r.composites l) whole
            (adds-then equal_composites composite_meaning caches.composites p.composites q.composites r.composites (visit_steps tag visits ++ []) (visit_steps tag later ++ given) f.composites g.composites);
        masks = subst (λ (l : List (Step MaskKey MaskValue)). Adds equal_masks mask_meaning caches.masks p.masks r.masks l) (sym (flat_map-append (λ (v : KeyVisit). steps_of_its_masks caches.masks.tag v.visit) visits later))
            (adds-then equal_masks mask_meaning caches.masks p.masks q.masks r.masks (visit_mask_steps caches.masks.tag visits) (visit_mask_steps caches.masks.tag later) f.masks g.masks);
        regions = subst (λ (l : List (Step RegionKey RegionValue)). Adds equal_regions region_meaning caches.regions p.regions r.regions l) (sym (flat_map-append (λ (v : KeyVisit). steps_of_its_regions caches.regions.tag v.visit) visits later))
            (adds-then equal_regions region_meaning caches.regions p.regions q.regions r.regions (visit_region_steps caches.regions.tag visits) (visit_region_steps caches.regions.tag later) f.regions g.regions);
      }

  -- some composed masks are given back after them
  adds-given : (p q r : CachesPass) (visits : List KeyVisit) (given more : List (Step CompositeKey MaskValue)) → AddsVisits caches p q visits given → Adds equal_composites composite_meaning caches.composites q.composites r.composites more → r.masks ≡ q.masks → r.regions ≡ q.regions
      → AddsVisits caches p r visits (given ++ more)
  adds-given p q r visits given more f g masks regions = record {
    composites = subst (λ (l : List (Step CompositeKey MaskValue)). Adds equal_composites composite_meaning caches.composites p.composites r.composites l) (append_assoc (visit_steps caches.composites.tag visits) given more)
        (adds-then equal_composites composite_meaning caches.composites p.composites q.composites r.composites (visit_steps caches.composites.tag visits ++ given) more f.composites g);
    masks = rw masks f.masks;
    regions = rw regions f.regions;
  }

  -- ---- one key

  abbrev one_visit : CompositeKey → CompositeVisit → List KeyVisit
  one_visit key visit = (record { key = key; visit = visit }) ∷ []

  adds-one : (p q : CachesPass) (key : CompositeKey) (visit : CompositeVisit)
      → Adds equal_composites composite_meaning caches.composites p.composites q.composites (composite_steps caches.composites.tag key visit)
      → Adds equal_masks mask_meaning caches.masks p.masks q.masks (steps_of_its_masks caches.masks.tag visit)
      → Adds equal_regions region_meaning caches.regions p.regions q.regions (steps_of_its_regions caches.regions.tag visit)
      → AddsVisits caches p q (one_visit key visit) []
  adds-one p q key visit composites masks regions = record {
    composites = subst (λ (l : List (Step CompositeKey MaskValue)). Adds equal_composites composite_meaning caches.composites p.composites q.composites l)
        (sym (append-nil (composite_steps caches.composites.tag key visit ++ []) ∙ append-nil (composite_steps caches.composites.tag key visit))) composites;
    masks = subst (λ (l : List (Step MaskKey MaskValue)). Adds equal_masks mask_meaning caches.masks p.masks q.masks l) (sym (append-nil (steps_of_its_masks caches.masks.tag visit))) masks;
    regions = subst (λ (l : List (Step RegionKey RegionValue)). Adds equal_regions region_meaning caches.regions p.regions q.regions l) (sym (append-nil (steps_of_its_regions caches.regions.tag visit))) regions;
  }

  visit-one : (key : CompositeKey) (visit : CompositeVisit) → IsCompositeVisit key visit → AreKeyVisits (key ∷ []) (one_visit key visit)
  visit-one key visit is = record {
    keys_are = refl;
    each = All-cons IsVisited (record { key = key; visit = visit }) [] is (All-nil IsVisited);
    had = All-nil IsHad;
  }

  leased-one : {E : Type 0} (p q : CachesPass) (key : CompositeKey) (lease : MaskLease) → IsComposed {E = E} caches (three_of p) key (three_of q) (Ok lease) → AreLeased caches p q (key ∷ []) (lease ∷ [])
  leased-one p q key lease h = record {
    visits = one_visit key h.visit;
    all = record {
      are = visit-one key h.visit h.is_visit;
      as_many = refl;
      had = All-cons IsHad (record { key = key; visit = h.visit }) [] (lease-has-value caches.composites.tag key h.visit.course lease h.had_by) (All-nil IsHad);
    };
    adds = adds-one p q key h.visit h.composites h.masks h.regions;
    are = (h.had_by, tt);
  }

  unpins-none : (key : CompositeKey) (course : Course) → has_value course ≡ false → unpin_steps composite_meaning caches.composites.tag key course ≡ []
  unpins-none key Found h = cc
  unpins-none key Filled h = cc
  unpins-none key Failed h = refl
  unpins-none key MadeApart h = cc
  unpins-none key FailedApart h = refl
  unpins-none key Spilled h = cc
  unpins-none key Unasked h = refl

  unleased-one : {E : Type 0} (p q : CachesPass) (key : CompositeKey) (refused : E) → IsComposed {M = CompositeMade} caches (three_of p) key (three_of q) (Err refused) → AreUnleased caches p q (key ∷ [])
  unleased-one p q key refused h = record {
    visits = one_visit key h.visit;
    are_visits = visit-one key h.visit h.is_visit;
    adds = subst (λ (l : List (Step CompositeKey MaskValue)). AddsVisits caches p q (one_visit key h.visit) l) (sym (append-nil (unpin_steps composite_meaning caches.composites.tag key h.visit.course) ∙ unpins-none key h.visit.course h.had_by))
        (adds-one p q key h.visit h.composites h.masks h.regions);
  }

  -- ---- several keys

  leased-none : (p : CachesPass) → AreLeased caches p p [] []
  leased-none p = record { visits = []; all = all-none; adds = adds-no-visit p; are = tt }

  leased-then : (p q r : CachesPass) (keys more : List CompositeKey) (leases later : List MaskLease) → AreLeased caches p q keys leases → AreLeased caches q r more later → AreLeased caches p r (keys ++ more) (leases ++ later)
  leased-then p q r keys more leases later f g = record {
    visits = f.visits ++ g.visits;
    all = all-then keys more f.visits g.visits f.all g.all;
    adds = adds-visits p q r f.visits g.visits [] f.adds g.adds;
    are = by-then caches.composites.tag f.visits g.visits leases later f.are g.are;
  }

  unleased-none : (p : CachesPass) (keys : List CompositeKey) → AreUnleased caches p p keys
  unleased-none p keys = record {
    visits = [];
    are_visits = record { keys_are = refl; each = All-nil IsVisited; had = All-nil IsHad };
    adds = adds-no-visit p;
  }

  -- the keys of `more` weren't all had, and what was had before them is given back
  unleased-then : (p q r s : CachesPass) (keys more : List CompositeKey) (leases : List MaskLease) → AreLeased caches p q keys leases → AreUnleased caches q r more → GivesLeases caches r s leases → AreUnleased caches p s (keys ++ more)
  unleased-then p q r s keys more leases f g back = record {
    visits = f.visits ++ g.visits;
    are_visits = visits-then keys more f.visits g.visits f.all g.are_visits;
    adds = subst (λ (l : List (Step CompositeKey MaskValue)). AddsVisits caches p s (f.visits ++ g.visits) l)
        (ap (λ (l : List (Step CompositeKey MaskValue)). visit_unpins caches.composites.tag g.visits ++ l) (given-of-leases caches.composites.tag f.visits leases f.are) ∙ sym (unpins-then caches.composites.tag f.visits g.visits))
        (adds-given p r s (f.visits ++ g.visits) (visit_unpins caches.composites.tag g.visits) (all_given_steps leases) (adds-visits p q r f.visits g.visits (visit_unpins caches.composites.tag g.visits) f.adds g.adds) back.composites back.masks back.regions);
  }

  unleased-front : (p q : CachesPass) (keys more : List CompositeKey) → AreUnleased caches p q keys → AreUnleased caches p q (keys ++ more)
  unleased-front p q keys more f = record { visits = f.visits; are_visits = visits-front keys more f.visits f.are_visits; adds = f.adds }

  -- ---- what is held

  held-one : {E : Type 0} (p q : CachesPass) (lease : MaskLease) → HoldsTheLease {E = E} equal_composites composite_meaning caches.composites p.composites q.composites (Ok lease)
      → HoldsMore equal_composites composite_meaning caches.composites p.composites q.composites (pinned_keys (lease ∷ []))
  held-one p q (Pinned pin) h = record { pins = λ k. let more = h.pins k in omega arith; claims = λ k. h.claims k }
  held-one p q (Own value) h = record { pins = λ k. let more = h.pins k in omega arith; claims = λ k. h.claims k }

  held-none : {E : Type 0} (p q : CachesPass) (refused : E) → HoldsTheLease {M = CompositeMade} equal_composites composite_meaning caches.composites p.composites q.composites (Err refused)
      → HoldsAsMuch equal_composites composite_meaning caches.composites p.composites q.composites
  held-none p q refused h = record { pins = λ k. let more = h.pins k in omega arith; claims = λ k. h.claims k }

  -- ---- lending

  pub lent-none : (p : CachesPass) → IsPassOf caches p → IsLent caches p p [] []
  lent-none p of = record {
    of = of;
    leased = leased-none p;
    holds = record {
      composites = more-none equal_composites composite_meaning caches.composites p.composites;
      masks = much-itself equal_masks mask_meaning caches.masks p.masks;
      regions = much-itself equal_regions region_meaning caches.regions p.regions;
    };
    homes = All-nil (IsHomeLease composite_meaning caches.composites);
  }

  lent-one : {E : Type 0} (p q : CachesPass) (key : CompositeKey) (lease : MaskLease) → IsPassOf caches q → IsComposed {E = E} caches (three_of p) key (three_of q) (Ok lease) → HoldsJustTheLease {E = E} caches (three_of p) key (three_of q) (Ok lease)
      → IsHomeLease composite_meaning caches.composites lease → IsLent caches p q (key ∷ []) (lease ∷ [])
  lent-one {E} p q key lease of h holds home = record {
    of = of;
    leased = leased-one {E = E} p q key lease h;
    holds = record { composites = held-one {E = E} p q lease holds.composites; masks = holds.masks; regions = holds.regions };
    homes = All-cons (IsHomeLease composite_meaning caches.composites) lease [] home (All-nil (IsHomeLease composite_meaning caches.composites));
  }

  unlent-one : {E : Type 0} (p q : CachesPass) (key : CompositeKey) (refused : E) → IsPassOf caches q → IsComposed {M = CompositeMade} caches (three_of p) key (three_of q) (Err refused)
      → HoldsJustTheLease {M = CompositeMade} caches (three_of p) key (three_of q) (Err refused) → IsUnlent caches p q (key ∷ [])
  unlent-one {E} p q key refused of h holds = record {
    of = of;
    unleased = unleased-one p q key refused h;
    holds = record { regions = holds.regions; masks = holds.masks; composites = held-none p q refused holds.composites };
  }

  -- what is had of a key, and what a out of memory leaves
  pub lent-by : {E : Type 0} (p q : CachesPass) (key : CompositeKey) (had : Result MaskLease E) → IsPassOf caches q → IsComposed caches (three_of p) key (three_of q) had → HoldsJustTheLease caches (three_of p) key (three_of q) had
      → IfOk had (IsHomeLease composite_meaning caches.composites) → IfOk had (λ lease. IsLent caches p q (key ∷ []) (lease ∷ []))
  lent-by {E} p q key (Ok lease) of h holds home = lent-one {E = E} p q key lease of h holds home
  lent-by p q key (Err refused) of h holds home = tt

  pub unlent-by : {E : Type 0} (p q : CachesPass) (key : CompositeKey) (had : Result MaskLease E) → IsPassOf caches q → IsComposed caches (three_of p) key (three_of q) had → HoldsJustTheLease caches (three_of p) key (three_of q) had
      → OnErr had (IsUnlent caches p q (key ∷ []))
  unlent-by p q key (Ok lease) of h holds = tt
  unlent-by p q key (Err refused) of h holds = unlent-one p q key refused of h holds

  pub lent-then : (p q r : CachesPass) (keys more : List CompositeKey) (leases later : List MaskLease) → IsLent caches p q keys leases → IsLent caches q r more later → IsLent caches p r (keys ++ more) (leases ++ later)
  lent-then p q r keys more leases later f g = record {
    of = g.of;
    leased = leased-then p q r keys more leases later f.leased g.leased;
    holds = record {
      composites = subst (λ (l : List CompositeKey). HoldsMore equal_composites composite_meaning caches.composites p.composites r.composites l) (sym (pinned-append leases later))
          (more-then equal_composites composite_meaning caches.composites p.composites q.composites r.composites (pinned_keys leases) (pinned_keys later) f.holds.composites g.holds.composites);
      masks = much-then equal_masks mask_meaning caches.masks p.masks q.masks r.masks f.holds.masks g.holds.masks;
      regions = much-then equal_regions region_meaning caches.regions p.regions q.regions r.regions f.holds.regions g.holds.regions;
    };
    homes = All-append (IsHomeLease composite_meaning caches.composites) leases later f.homes g.homes;
  }

  -- after a out of memory, what was had before it is held
  still-more : (p q r : CachesPass) (leases : List MaskLease) → HoldsLeasesMore caches p q leases → HoldsAsBefore caches q r → HoldsLeasesMore caches p r leases
  still-more p q r leases f g = record {
    composites = more-much equal_composites composite_meaning caches.composites p.composites q.composites r.composites (pinned_keys leases) f.composites g.composites;
    masks = much-then equal_masks mask_meaning caches.masks p.masks q.masks r.masks f.masks g.masks;
    regions = much-then equal_regions region_meaning caches.regions p.regions q.regions r.regions f.regions g.regions;
  }

  pub lent-held : (p q r : CachesPass) (keys more : List CompositeKey) (leases : List MaskLease) → IsLent caches p q keys leases → IsUnlent caches q r more → HoldsLeases caches r leases
  lent-held p q r keys more leases f g = leases-held caches p r leases (still-more p q r leases f.holds g.holds)

  -- and once it is given back, nothing more is held
  pub unlent-then : (p q r s : CachesPass) (keys more : List CompositeKey) (leases : List MaskLease) → IsLent caches p q keys leases → IsUnlent caches q r more → IsPassOf caches s → GivesLeases caches r s leases → IsUnlent caches p s (keys ++ more)
  unlent-then p q r s keys more leases f g of back = record {
    of = of;
    unleased = unleased-then p q r s keys more leases f.leased g.unleased back;
    holds = leases-given caches p r s leases (still-more p q r leases f.holds g.holds) (gives-fewer caches r s leases back);
  }

  pub unlent-front : (p q : CachesPass) (keys more : List CompositeKey) → IsUnlent caches p q keys → IsUnlent caches p q (keys ++ more)
  unlent-front p q keys more f = record { of = f.of; unleased = unleased-front p q keys more f.unleased; holds = f.holds }

  pub unlent-none : (p : CachesPass) (keys : List CompositeKey) → IsPassOf caches p → IsUnlent caches p p keys
  unlent-none p keys of = record {
    of = of;
    unleased = unleased-none p keys;
    holds = before-itself caches p;
  }
