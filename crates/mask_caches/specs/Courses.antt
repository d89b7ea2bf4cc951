-- Public: how a key was come by in a cache, and the steps of that.
use Rattle.std.specs.Prelude.{◌≡◌, ◌⊎◌, ℕ, ◌+◌, Bool, true, false, List, [], ◌∷◌, ◌++◌, Option, Some, None, Result, Ok, Err}
use Rattle.std.specs.Arc.{arc_value}
use Rattle.std.specs.declared.sync.Arc.{Arc}
use Rattle.evict_core.specs.Machine.{Step, Ask, Hit, Claim, Crowded, Fill, Fail, Spill, Unpin}
use Rattle.flight_cache.specs.Answers.{IsShortAsk}
use Rattle.flight_cache.specs.Meaning.{Meaning, entry_cost, shard_of}
use Rattle.flight_cache.specs.Shards.{CacheView, CachePassView, IsHome, at}
use Rattle.flight_cache.specs.Calls.{TicketView}
use Rattle.flight_cache.specs.declared.pins.Asked.{Asked}
use Rattle.flight_cache.specs.declared.pins.Asked.TheVariants as asked
use Rattle.evict_core.specs.History.{one_if}
use Rattle.mask_caches.specs.Adding.{pins_of, is_open}
use Rattle.mask_caches.specs.declared.lease.Lease.{Lease}
use Rattle.mask_caches.specs.declared.lease.Lease.TheVariants.{Pinned, Own}

-- The value was there. Or the key was claimed, and its value filled, or its making failed. Or the cache had no room, and the value was made apart, or its making failed.
-- Or the key was claimed, and its value made, but the hard limit had no room for it, and it is the caller's own. Or the ask found no memory
pub data Course : Type 0 where
  Found : Course
  Filled : Course
  Failed : Course
  MadeApart : Course
  FailedApart : Course
  Spilled : Course
  Unasked : Course

-- the value was had
abbrev pub has_value : Course → Bool
has_value Found = true
has_value Filled = true
has_value Failed = false
has_value MadeApart = true
has_value FailedApart = false
has_value Spilled = true
has_value Unasked = false

-- a pin of it was had
abbrev pub has_pin : Course → Bool
has_pin Found = true
has_pin Filled = true
has_pin Failed = false
has_pin MadeApart = false
has_pin FailedApart = false
has_pin Spilled = false
has_pin Unasked = false

-- the value itself was had: the cache didn't keep it
abbrev pub is_own : Course → Bool
is_own Found = false
is_own Filled = false
is_own Failed = false
is_own MadeApart = true
is_own FailedApart = false
is_own Spilled = true
is_own Unasked = false

-- what the value is made from was asked for
abbrev pub is_made : Course → Bool
is_made Found = false
is_made Filled = true
is_made Failed = true
is_made MadeApart = true
is_made FailedApart = true
is_made Spilled = true
is_made Unasked = false

module _ {K V T : Type 0} (meaning : Meaning K V T) (tag : T) where
  -- the fill of the key's value
  abbrev pub fill_step : K → Step K V
  fill_step key = Fill key (entry_cost meaning key (meaning.made tag key)) (meaning.made tag key)

  -- the spill of the key's value
  abbrev pub spill_step : K → Step K V
  spill_step key = Spill key (entry_cost meaning key (meaning.made tag key))

  -- The steps in the key's cache. The inner ones are of what it was made from, where that is in the same cache
  abbrev pub course_steps : K → Course → List (Step K V) → List (Step K V)
  course_steps key Found inner = Ask key Hit ∷ []
  course_steps key Filled inner = Ask key Claim ∷ inner ++ fill_step key ∷ []
  course_steps key Failed inner = Ask key Claim ∷ inner ++ Fail key ∷ []
  course_steps key MadeApart inner = Ask key Crowded ∷ inner
  course_steps key FailedApart inner = Ask key Crowded ∷ inner
  course_steps key Spilled inner = Ask key Claim ∷ inner ++ spill_step key ∷ []
  course_steps key Unasked inner = []

  -- its pin, if there is one, is given back
  abbrev pub unpin_steps : K → Course → List (Step K V)
  unpin_steps key Found = Unpin key ∷ []
  unpin_steps key Filled = Unpin key ∷ []
  unpin_steps key Failed = []
  unpin_steps key MadeApart = []
  unpin_steps key FailedApart = []
  unpin_steps key Spilled = []
  unpin_steps key Unasked = []

  -- it is asked for and used, and its pin is given back
  abbrev pub use_steps : K → Course → List (Step K V) → List (Step K V)
  use_steps key course inner = course_steps key course inner ++ unpin_steps key course

  -- What is had of the key: a pin of its value, or the value itself where the cache had no room for it
  abbrev pub IsLeaseOf : {M : Type 0} → K → Course → Lease M K V T → Type 0
  IsLeaseOf key course (Pinned pin) = (has_pin course ≡ true) × (pin.key ≡ key) × (pin.value ≡ meaning.made tag key)
  IsLeaseOf key course (Own value) = (is_own course ≡ true) × (arc_value value ≡ meaning.made tag key)

  abbrev pub IsHadBy : {M E : Type 0} → K → Course → Result (Lease M K V T) E → Type 0
  IsHadBy key course (Ok lease) = IsLeaseOf key course lease
  IsHadBy key course (Err refused) = has_value course ≡ false

-- the pins of the key that a lease is
abbrev pub lease_pins : {M K V T E : Type 0} → (K → K → Bool) → K → Result (Lease M K V T) E → ℕ
lease_pins eq key (Ok (Pinned pin)) = one_if (eq key pin.key)
lease_pins eq key (Ok (Own value)) = 0
lease_pins eq key (Err refused) = 0

-- the pass holds just the pin of the lease more, if that is one, and has the same claims open
pub record HoldsTheLease {M K V T E : Type 0} (eq : K → K → Bool) (meaning : Meaning K V T) (cache : CacheView T) (pass after : CachePassView K T) (had : Result (Lease M K V T) E) : Type 0 where
  pub pins : (key : K) → pins_of eq meaning cache after key ≡ pins_of eq meaning cache pass key + lease_pins eq key had
  pub claims : (key : K) → is_open eq meaning cache after key ≡ is_open eq meaning cache pass key

module _ {K V T : Type 0} (meaning : Meaning K V T) where
  -- the steps of an ask after which the value is to be made: there is a ticket, or no room
  abbrev pub duty_steps : K → Option (TicketView K) → List (Step K V)
  duty_steps key (Some ticket) = Ask key Claim ∷ []
  duty_steps key None = Ask key Crowded ∷ []

  -- a ticket has the key
  abbrev pub IsDutyOf : K → Option (TicketView K) → Type 0
  IsDutyOf key (Some ticket) = ticket.key ≡ key
  IsDutyOf key None = Unit {0}

  -- a ticket is of the cache
  abbrev pub IsHomeDuty : CacheView T → Option (TicketView K) → Type 0
  IsHomeDuty cache (Some ticket) = IsHome meaning cache ticket.key ticket.cell
  IsHomeDuty cache None = Unit {0}

  -- the pass had no claim of a ticket's key open
  abbrev pub IsNewDuty : (K → K → Bool) → CacheView T → CachePassView K T → Option (TicketView K) → Type 0
  IsNewDuty eq cache pass (Some ticket) = is_open eq meaning cache pass ticket.key ≡ false
  IsNewDuty eq cache pass None = Unit {0}

-- what is had is what was made
abbrev pub IsOwnOf : {M K V T E Z : Type 0} → Result (Arc V Z) E → Result (Lease M K V T) E → Type 0
IsOwnOf (Ok value) (Ok (Own own)) = arc_value own ≡ arc_value value
IsOwnOf (Ok value) (Ok (Pinned pin)) = ⊥
IsOwnOf (Ok value) (Err refused) = ⊥
IsOwnOf (Err refused) (Ok lease) = ⊥
IsOwnOf (Err refused) (Err again) = Unit {0}

module _ {M K V T : Type 0} (meaning : Meaning K V T) where
  -- what an ask gives is of the cache
  abbrev pub IsHomeAsked : CacheView T → Asked M K V T → Type 0
  IsHomeAsked cache (asked.Hit pin) = IsHome meaning cache pin.key pin.cell
  IsHomeAsked cache (asked.Make duty) = IsHomeDuty meaning cache duty
  IsHomeAsked cache asked.OutOfMemory = Unit {0}

module _ {K V T : Type 0} (eq : K → K → Bool) (meaning : Meaning K V T) (cache : CacheView T) (pass : CachePassView K T) (key : K) (after : CachePassView K T) where
  -- memory ran out for an ask of the key: before it began, or at a turn that showed a hit or a claim
  abbrev pub IsUnasked : Type 0
  IsUnasked = let n = shard_of (meaning.numbers key) in (at after n ≡ at pass n) ⊎ IsShortAsk eq meaning (at cache.shards n) (at pass n) key (at after n)

  -- where an ask is answered so
  abbrev pub IsUnaskedBy : {M : Type 0} → Asked M K V T → Type 0
  IsUnaskedBy (asked.Hit pin) = Unit {0}
  IsUnaskedBy (asked.Make duty) = Unit {0}
  IsUnaskedBy asked.OutOfMemory = IsUnasked

module _ {M K V T : Type 0} (meaning : Meaning K V T) (tag : T) where
  -- the steps of an ask for the key that came to this
  abbrev pub asked_steps : K → Asked M K V T → List (Step K V)
  asked_steps key (asked.Hit pin) = Ask key Hit ∷ []
  asked_steps key (asked.Make duty) = duty_steps meaning key duty
  asked_steps key asked.OutOfMemory = []

  -- a pin has the key and its value, and a ticket the key
  abbrev pub IsForKey : K → Asked M K V T → Type 0
  IsForKey key (asked.Hit pin) = (pin.key ≡ key) × (pin.value ≡ meaning.made tag key)
  IsForKey key (asked.Make duty) = IsDutyOf meaning key duty
  IsForKey key asked.OutOfMemory = Unit {0}

  abbrev pub IsNewClaim : (K → K → Bool) → CacheView T → CachePassView K T → Asked M K V T → Type 0
  IsNewClaim eq cache pass (asked.Make duty) = IsNewDuty meaning eq cache pass duty
  IsNewClaim eq cache pass (asked.Hit pin) = Unit {0}
  IsNewClaim eq cache pass asked.OutOfMemory = Unit {0}

  -- the step of filling a key that came to this lease: a fill, or a spill after which the value is the caller's own
  abbrev pub filled_steps : K → Lease M K V T → List (Step K V)
  filled_steps key (Pinned pin) = fill_step meaning tag key ∷ []
  filled_steps key (Own value) = spill_step meaning tag key ∷ []

  -- the lease is a pin of the key's value, or the value itself
  abbrev pub IsOfFill : K → Lease M K V T → Type 0
  IsOfFill key (Pinned pin) = (pin.key ≡ key) × (pin.value ≡ meaning.made tag key)
  IsOfFill key (Own value) = arc_value value ≡ meaning.made tag key

  -- the steps of settling: where there is a ticket the value is filled, or spilled and the caller's own, or its making failed
  abbrev pub settled_steps : {E : Type 0} → Option (TicketView K) → Result (Lease M K V T) E → List (Step K V)
  settled_steps (Some ticket) (Ok lease) = filled_steps ticket.key lease
  settled_steps (Some ticket) (Err refused) = Fail ticket.key ∷ []
  settled_steps None had = []

  -- what is had of a ticket's key is a pin of its value, or the value itself
  abbrev pub IsFilledLease : {E : Type 0} → K → Result (Lease M K V T) E → Type 0
  IsFilledLease key (Ok lease) = IsOfFill key lease
  IsFilledLease key (Err refused) = Unit {0}

  -- nothing is had where nothing was made
  abbrev pub IsSettledTicket : {E Z : Type 0} → K → Result (Arc V Z) E → Result (Lease M K V T) E → Type 0
  IsSettledTicket key (Ok value) had = IsFilledLease key had
  IsSettledTicket key (Err refused) (Ok lease) = ⊥
  IsSettledTicket key (Err refused) (Err again) = Unit {0}

  -- the first where there is a ticket, else the second
  abbrev pub IsSettled : {E Z : Type 0} → Option (TicketView K) → Result (Arc V Z) E → Result (Lease M K V T) E → Type 0
  IsSettled (Some ticket) made had = IsSettledTicket ticket.key made had
  IsSettled None made had = IsOwnOf made had
