-- A key's value through a cache: the ask, what it is made of, and settling; and giving it back.
use Rattle.std.proofs.Common.{◌≡◌, ◌&&◌, ◌||◌, not, Bool, true, false, List, [], ◌∷◌, ◌++◌, Option, Some, None, Result, Ok, Err, refl, sym, ap, ◌∙◌, subst, arith}
use Rattle.std.proofs.lemmas.List.{append-nil}
use Rattle.std.specs.Option.{IfSome}
use Rattle.std.specs.Result.{IfOk, OnOk}
use Rattle.std.specs.Cmp.{IsEquivalence}
use Rattle.std.specs.Arc.{arc_value}
use Rattle.std.specs.declared.sync.Arc.{Arc}
use Rattle.evict_core.specs.Machine.{Step, Hit, Claim, Crowded, Ask, Fail}
use Rattle.evict_core.specs.History.{one_if}
use Rattle.flight_cache.specs.Meaning.{Meaning}
use Rattle.flight_cache.specs.Calls.{TicketView, PinView}
use Rattle.flight_cache.specs.Shards.{CacheView, CachePassView}
use Rattle.mask_caches.specs.Adding.{Adds, HoldsAsMuch, is_open}
use Rattle.mask_caches.specs.Courses.{Course, Found, Filled, Failed, MadeApart, FailedApart, Spilled, Unasked, has_value, is_made, is_own, fill_step, spill_step, course_steps, unpin_steps, use_steps, IsLeaseOf, IsHadBy, HoldsTheLease, lease_pins, duty_steps, IsDutyOf, IsNewDuty, settled_steps, IsSettled}
use Rattle.mask_caches.specs.Leases.{HoldsLease, given_steps, lease_value}
use Rattle.mask_caches.specs.declared.lease.Lease.{Lease}
use Rattle.mask_caches.specs.declared.lease.Lease.TheVariants.{Pinned, Own}
use Rattle.mask_caches.proofs.Adding.{adds-then}

-- a claim that was opened is closed
reclosed : (here was after last : Bool) → (here ≡ true → was ≡ false) → after ≡ (here || was) → last ≡ (not here && after) → last ≡ was
reclosed true was after last new opens closes = closes ∙ sym (new refl)
reclosed false was after last new opens closes = closes ∙ opens

pub false-true : false ≡ true → ⊥
false-true e = cc

-- what is had itself was had
pub own-value : (course : Course) → is_own course ≡ true → has_value course ≡ true
own-value Found own = cc
own-value Filled own = cc
own-value Failed own = own
own-value MadeApart own = refl
own-value FailedApart own = own
own-value Spilled own = refl
own-value Unasked own = own

-- and leaves nothing to give back
pub own-unpins : {K V T : Type 0} (meaning : Meaning K V T) (tag : T) (key : K) (course : Course) → is_own course ≡ true → [] ≡ unpin_steps meaning tag key course
own-unpins meaning tag key Found own = cc
own-unpins meaning tag key Filled own = cc
own-unpins meaning tag key Failed own = refl
own-unpins meaning tag key MadeApart own = refl
own-unpins meaning tag key FailedApart own = refl
own-unpins meaning tag key Spilled own = refl
own-unpins meaning tag key Unasked own = refl

pub any-ok : {A E P : Type 0} (r : Result A E) → P → OnOk r P
any-ok (Ok a) p = p
any-ok (Err e) p = tt

module _ {K V T : Type 0} (eq : K → K → Bool) (laws : IsEquivalence eq) (same : (a b : K) → eq a b ≡ true → a ≡ b) (meaning : Meaning K V T) (cache : CacheView T) where
  -- after a claim it is open, also where the pass holds as much later
  pub duty-open : (key : K) (p q r : CachePassView K T) (duty : Option (TicketView K)) → Adds eq meaning cache p q (duty_steps meaning key duty) → IsDutyOf meaning key duty → HoldsAsMuch eq meaning cache q r
      → IfSome duty (λ t. is_open eq meaning cache r t.key ≡ true)
  duty-open key p q r (Some t) asks need much = much.claims t.key ∙ subst (λ (k : K). is_open eq meaning cache q k ≡ true) (sym need) (rw (laws.refl key) at (asks.claims key))
  duty-open key p q r None asks need much = tt

  -- what was made for a ticket is its key's value
  pub duty-value : {E Z : Type 0} (key : K) (duty : Option (TicketView K)) (made : Result (Arc V Z) E) → IsDutyOf meaning key duty → IfOk made (λ a. arc_value a ≡ meaning.made cache.tag key)
      → IfSome duty (λ t. IfOk made (λ a. arc_value a ≡ meaning.made cache.tag t.key))
  duty-value key (Some t) (Ok a) need value = value ∙ ap (meaning.made cache.tag) (sym need)
  duty-value key (Some t) (Err e) need value = tt
  duty-value key None made need value = tt

  apart-steps : (key : K) (inner : List (Step K V)) (p q r s : CachePassView K T) → Adds eq meaning cache p q (Ask key Crowded ∷ []) → Adds eq meaning cache q r inner → Adds eq meaning cache r s [] → Adds eq meaning cache p s (Ask key Crowded ∷ inner)
  apart-steps key inner p q r s asks made_of none =
      adds-then eq meaning cache p q s (Ask key Crowded ∷ []) inner asks
      (subst (λ (l : List (Step K V)). Adds eq meaning cache q s l) (append-nil inner) (adds-then eq meaning cache q r s inner [] made_of none))

  -- the claim of a ticket is closed again
  claimed-again : (key k : K) (p q r s : CachePassView K T) (used : K) → Adds eq meaning cache p q (Ask key Claim ∷ []) → used ≡ key → is_open eq meaning cache p used ≡ false → HoldsAsMuch eq meaning cache q r
      → is_open eq meaning cache s k ≡ (not (eq k used) && is_open eq meaning cache r k) → is_open eq meaning cache s k ≡ is_open eq meaning cache p k
  claimed-again key k p q r s used asks is new much closes =
      reclosed (eq k used) (is_open eq meaning cache p k) (is_open eq meaning cache r k) (is_open eq meaning cache s k)
      (λ here. ap (is_open eq meaning cache p) (same k used here) ∙ new)
      (much.claims k ∙ subst (λ (x : K). is_open eq meaning cache q k ≡ (eq k x || is_open eq meaning cache p k)) (sym is) (asks.claims k))
      closes

  -- what wasn't had leaves nothing to give back
  pub no-unpins : (key : K) (course : Course) → has_value course ≡ false → unpin_steps meaning cache.tag key course ≡ []
  no-unpins key Found none = cc
  no-unpins key Filled none = cc
  no-unpins key Failed none = refl
  no-unpins key MadeApart none = cc
  no-unpins key FailedApart none = refl
  no-unpins key Spilled none = cc
  no-unpins key Unasked none = refl

  pub refused-use : (key : K) (course : Course) (inner : List (Step K V)) (p q : CachePassView K T) → has_value course ≡ false
      → Adds eq meaning cache p q (course_steps meaning cache.tag key course inner) → Adds eq meaning cache p q (use_steps meaning cache.tag key course inner)
  refused-use key course inner p q none visits =
      subst (λ (l : List (Step K V)). Adds eq meaning cache p q (course_steps meaning cache.tag key course inner ++ l)) (sym (no-unpins key course none))
      (subst (λ (l : List (Step K V)). Adds eq meaning cache p q l) (sym (append-nil (course_steps meaning cache.tag key course inner))) visits)

module _ {M K V T : Type 0} (eq : K → K → Bool) (laws : IsEquivalence eq) (same : (a b : K) → eq a b ≡ true → a ≡ b) (meaning : Meaning K V T) (cache : CacheView T) where
  -- a hit, and out of memory at the ask
  pub found-holds : {E : Type 0} (key : K) (p q : CachePassView K T) (pin : PinView K V) → Adds eq meaning cache p q (Ask key Hit ∷ []) → (pin.key ≡ key) × (pin.value ≡ meaning.made cache.tag key)
      → HoldsTheLease {M = M} {E = E} eq meaning cache p q (Ok (Pinned pin))
  found-holds key p q pin asks need = record {
    pins = λ k. let more = asks.pins k in let is = ap (λ (x : K). one_if (eq k x)) need.0 in omega arith;
    claims = λ k. asks.claims k;
  }

  pub unasked-holds : {E : Type 0} (p q : CachePassView K T) (refused : E) → Adds eq meaning cache p q [] → HoldsTheLease {M = M} eq meaning cache p q (Err refused)
  unasked-holds p q refused asks = record { pins = λ k. let more = asks.pins k in omega arith; claims = λ k. asks.claims k }

  crowded-holds : {E : Type 0} {own : Lease M K V T} (key : K) (p q r s : CachePassView K T) → Adds eq meaning cache p q (Ask key Crowded ∷ []) → HoldsAsMuch eq meaning cache q r → Adds eq meaning cache r s [] → (pins_in_none : (k : K) → lease_pins {E = E} eq k (Ok own) ≡ 0)
      → HoldsTheLease {E = E} eq meaning cache p s (Ok own)
  crowded-holds key p q r s asks much none zero_pins = record {
    pins = λ k. let one = asks.pins k in let two = much.pins k in let three = none.pins k in omega (arith, zero_pins k);
    claims = λ k. none.claims k ∙ (much.claims k ∙ asks.claims k);
  }

  -- how the key was come by, where its value was made or failed
  pub settled-course : {E Z P : Type 0} (key : K) (inner : List (Step K V)) (p q r s : CachePassView K T) (duty : Option (TicketView K)) (made : Result (Arc V Z) E) (had : Result (Lease M K V T) E)
      → Adds eq meaning cache p q (duty_steps meaning key duty) → IsDutyOf meaning key duty
      → Adds eq meaning cache q r inner → Adds eq meaning cache r s (settled_steps meaning cache.tag duty had) → IsSettled meaning cache.tag duty made had
      → IfOk made (λ a. arc_value a ≡ meaning.made cache.tag key) → OnOk made P
      → (course : Course) × Adds eq meaning cache p s (course_steps meaning cache.tag key course inner) × IsHadBy meaning cache.tag key course had × (is_made course ≡ true) × (has_value course ≡ true → P)
  settled-course key inner p q r s (Some t) (Ok a) (Ok (Pinned pin)) asks need made_of fills settled value lower = (
    Filled,
    adds-then eq meaning cache p q s (Ask key Claim ∷ []) (inner ++ fill_step meaning cache.tag key ∷ []) asks
        (adds-then eq meaning cache q r s inner (fill_step meaning cache.tag key ∷ []) made_of (subst (λ (k : K). Adds eq meaning cache r s (fill_step meaning cache.tag k ∷ [])) need fills)),
    (refl, settled.0 ∙ need, settled.1 ∙ ap (meaning.made cache.tag) need),
    refl,
    λ _. lower,
  )
  settled-course key inner p q r s (Some t) (Ok a) (Ok (Own own)) asks need made_of spills settled value lower = (
    Spilled,
    adds-then eq meaning cache p q s (Ask key Claim ∷ []) (inner ++ spill_step meaning cache.tag key ∷ []) asks
        (adds-then eq meaning cache q r s inner (spill_step meaning cache.tag key ∷ []) made_of (subst (λ (k : K). Adds eq meaning cache r s (spill_step meaning cache.tag k ∷ [])) need spills)),
    (refl, settled ∙ ap (meaning.made cache.tag) need),
    refl,
    λ _. lower,
  )
  settled-course key inner p q r s (Some t) (Err e) (Ok (Pinned pin)) asks need made_of fills settled value lower = absurd settled
  settled-course key inner p q r s (Some t) (Err e) (Ok (Own own)) asks need made_of fills settled value lower = absurd settled
  settled-course key inner p q r s (Some t) made (Err refused) asks need made_of fails settled value lower = (
    Failed,
    adds-then eq meaning cache p q s (Ask key Claim ∷ []) (inner ++ Fail key ∷ []) asks
        (adds-then eq meaning cache q r s inner (Fail key ∷ []) made_of (subst (λ (k : K). Adds eq meaning cache r s (Fail k ∷ [])) need fails)),
    refl,
    refl,
    λ no. absurd (false-true no),
  )
  settled-course key inner p q r s None (Ok a) (Ok (Own own)) asks need made_of fills settled value lower = (
    MadeApart,
    apart-steps eq laws same meaning cache key inner p q r s asks made_of fills,
    (refl, settled ∙ value),
    refl,
    λ _. lower,
  )
  settled-course key inner p q r s None (Ok a) (Ok (Pinned pin)) asks need made_of fills settled value lower = absurd settled
  settled-course key inner p q r s None (Err e) (Ok (Pinned pin)) asks need made_of fills settled value lower = absurd settled
  settled-course key inner p q r s None (Err e) (Ok (Own own)) asks need made_of fills settled value lower = absurd settled
  settled-course key inner p q r s None made (Err refused) asks need made_of fails settled value lower = (
    FailedApart,
    apart-steps eq laws same meaning cache key inner p q r s asks made_of fails,
    refl,
    refl,
    λ no. absurd (false-true no),
  )

  -- and what the pass holds then
  pub settled-holds : {E Z : Type 0} (key : K) (p q r s : CachePassView K T) (duty : Option (TicketView K)) (made : Result (Arc V Z) E) (had : Result (Lease M K V T) E)
      → Adds eq meaning cache p q (duty_steps meaning key duty) → IsDutyOf meaning key duty → IsNewDuty meaning eq cache p duty
      → HoldsAsMuch eq meaning cache q r → Adds eq meaning cache r s (settled_steps meaning cache.tag duty had) → IsSettled meaning cache.tag duty made had
      → HoldsTheLease eq meaning cache p s had
  settled-holds key p q r s (Some t) (Ok a) (Ok (Pinned pin)) asks need new much fills settled = record {
    pins = λ k. let one = asks.pins k in let two = much.pins k in let three = fills.pins k in let is = ap (λ (x : K). one_if (eq k x)) settled.0 in omega arith;
    claims = λ k. claimed-again eq laws same meaning cache key k p q r s t.key asks need new much (fills.claims k);
  }
  settled-holds key p q r s (Some t) (Ok a) (Ok (Own own)) asks need new much spills settled = record {
    pins = λ k. let one = asks.pins k in let two = much.pins k in let three = spills.pins k in omega arith;
    claims = λ k. claimed-again eq laws same meaning cache key k p q r s t.key asks need new much (spills.claims k);
  }
  settled-holds key p q r s (Some t) (Err e) (Ok (Pinned pin)) asks need new much fills settled = absurd settled
  settled-holds key p q r s (Some t) (Err e) (Ok (Own own)) asks need new much fills settled = absurd settled
  settled-holds key p q r s (Some t) made (Err refused) asks need new much fails settled = record {
    pins = λ k. let one = asks.pins k in let two = much.pins k in let three = fails.pins k in omega arith;
    claims = λ k. claimed-again eq laws same meaning cache key k p q r s t.key asks need new much (fails.claims k);
  }
  settled-holds key p q r s None (Ok a) (Ok (Own own)) asks need new much fills settled = crowded-holds {own = Own own} key p q r s asks much fills (λ k. refl)
  settled-holds key p q r s None (Ok a) (Ok (Pinned pin)) asks need new much fills settled = absurd settled
  settled-holds key p q r s None (Err e) (Ok (Pinned pin)) asks need new much fills settled = absurd settled
  settled-holds key p q r s None (Err e) (Ok (Own own)) asks need new much fills settled = absurd settled
  settled-holds key p q r s None made (Err refused) asks need new much fails settled = record {
    pins = λ k. let one = asks.pins k in let two = much.pins k in let three = fails.pins k in omega arith;
    claims = λ k. fails.claims k ∙ (much.claims k ∙ asks.claims k);
  }

  -- a lease is held, and the pass holds as much as before once it is given back
  pub lease-held : {E : Type 0} (p q : CachePassView K T) (lease : Lease M K V T) → HoldsTheLease {E = E} eq meaning cache p q (Ok lease) → HoldsLease eq meaning cache q lease
  lease-held p q (Pinned pin) holds = let more = rw (laws.refl pin.key) at (holds.pins pin.key) in omega arith
  lease-held p q (Own value) holds = tt

  pub had-held : {E : Type 0} (p q : CachePassView K T) (had : Result (Lease M K V T) E) → HoldsTheLease eq meaning cache p q had → IfOk had (HoldsLease eq meaning cache q)
  had-held p q (Ok lease) holds = lease-held p q lease holds
  had-held p q (Err refused) holds = tt

  pub given-again : {E : Type 0} (p q r : CachePassView K T) (lease : Lease M K V T) → HoldsTheLease {E = E} eq meaning cache p q (Ok lease) → Adds eq meaning cache q r (given_steps lease) → HoldsAsMuch eq meaning cache p r
  given-again p q r (Pinned pin) holds gives = record {
    pins = λ k. let more = holds.pins k in let less = gives.pins k in omega arith;
    claims = λ k. gives.claims k ∙ holds.claims k;
  }
  given-again p q r (Own value) holds gives = record {
    pins = λ k. let more = holds.pins k in let less = gives.pins k in omega arith;
    claims = λ k. gives.claims k ∙ holds.claims k;
  }

  -- the steps of giving a lease back are told by how it was come by
  pub given-course : (key : K) (course : Course) (lease : Lease M K V T) → IsLeaseOf meaning cache.tag key course lease → given_steps lease ≡ unpin_steps meaning cache.tag key course
  given-course key Found (Pinned pin) is = rw is.1 refl
  given-course key Filled (Pinned pin) is = rw is.1 refl
  given-course key Failed (Pinned pin) is = let no = is.0 in cc
  given-course key MadeApart (Pinned pin) is = let no = is.0 in cc
  given-course key FailedApart (Pinned pin) is = let no = is.0 in cc
  given-course key Spilled (Pinned pin) is = let no = is.0 in cc
  given-course key Unasked (Pinned pin) is = let no = is.0 in cc
  given-course key course (Own value) is = own-unpins meaning cache.tag key course is.0

  -- what is had has its value
  pub had-value : (key : K) (course : Course) (lease : Lease M K V T) → IsLeaseOf meaning cache.tag key course lease → has_value course ≡ true
  had-value key Found (Pinned pin) is = refl
  had-value key Filled (Pinned pin) is = refl
  had-value key Failed (Pinned pin) is = is.0
  had-value key MadeApart (Pinned pin) is = refl
  had-value key FailedApart (Pinned pin) is = is.0
  had-value key Spilled (Pinned pin) is = refl
  had-value key Unasked (Pinned pin) is = is.0
  had-value key course (Own value) is = own-value course is.0

  pub lease-value : (key : K) (course : Course) (lease : Lease M K V T) → IsLeaseOf meaning cache.tag key course lease → lease_value lease ≡ meaning.made cache.tag key
  lease-value key course (Pinned pin) is = is.2
  lease-value key course (Own value) is = is.1

  pub refused-much : {E : Type 0} (p q : CachePassView K T) (refused : E) → HoldsTheLease {M = M} eq meaning cache p q (Err refused) → HoldsAsMuch eq meaning cache p q
  refused-much p q refused holds = record { pins = λ k. let same = holds.pins k in omega arith; claims = holds.claims }

  -- what was had is used and given back
  pub had-use : (key : K) (course : Course) (inner : List (Step K V)) (p q r : CachePassView K T) (lease : Lease M K V T) → IsLeaseOf meaning cache.tag key course lease
      → Adds eq meaning cache p q (course_steps meaning cache.tag key course inner) → Adds eq meaning cache q r (given_steps lease) → Adds eq meaning cache p r (use_steps meaning cache.tag key course inner)
  had-use key course inner p q r lease is visits gives =
      adds-then eq meaning cache p q r (course_steps meaning cache.tag key course inner) (unpin_steps meaning cache.tag key course) visits
      (subst (λ (l : List (Step K V)). Adds eq meaning cache q r l) (given-course key course lease is) gives)
