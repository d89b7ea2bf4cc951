-- Public: histories of a cache, and what is read off them. A history is a list of numbers and the steps that they made, the oldest first.
use Rattle.std.specs.Prelude.{◌≡◌, ℕ, zero, suc, ◌+◌, ◌-◌, Bool, true, false, not, ◌&&◌, ◌||◌, if◌then◌else◌, is_some, None, List, [], ◌∷◌, ◌++◌}
use Rattle.turn_cell.specs.History.{History, entries_of}
use Rattle.evict_core.specs.declared.counts.Counts.{Counts}
use Rattle.evict_core.specs.Machine.{State, Hit, Claim, Crowded, Step, Ask, PinAll, Fill, Fail, Spill, Unpin, Limits, Hard, can_fill, status_of, state_after, IsEnabled}

abbrev pub no_counts : Counts
no_counts = record { hits = 0; claims = 0; fills = 0; fails = 0; crowded = 0; evictions = 0 }

-- the state that a cache opens with: it has no hard limit
abbrev pub opening : {K V : Type 0} → ℕ → ℕ → State K V
opening limit budget = record { entries = []; limit = limit; budget = budget; hard = None; counts = no_counts }

-- one where the test passes
abbrev pub one_if : Bool → ℕ
one_if test = if test then 1 else 0

-- how often the list names k
abbrev pub times_named : {K : Type 0} → (K → K → Bool) → K → List K → ℕ
times_named eq k [] = 0
times_named eq k (x ∷ xs) = one_if (eq k x) + times_named eq k xs

module _ {K V : Type 0} where
  abbrev pub is_fail : Step K V → Bool
  is_fail (Fail key) = true
  is_fail (Spill key cost) = true
  is_fail (Ask key answer) = false
  is_fail (PinAll keys) = false
  is_fail (Fill key cost value) = false
  is_fail (Unpin key) = false
  is_fail (Limits entries budget) = false
  is_fail (Hard hard) = false

  -- a fill finds room within the hard limit
  abbrev pub IsFit : State K V → Step K V → Type 0
  IsFit s (Fill key cost value) = can_fill s cost ≡ true
  IsFit s (Ask key answer) = Unit {0}
  IsFit s (PinAll keys) = Unit {0}
  IsFit s (Fail key) = Unit {0}
  IsFit s (Spill key cost) = Unit {0}
  IsFit s (Unpin key) = Unit {0}
  IsFit s (Limits entries budget) = Unit {0}
  IsFit s (Hard hard) = Unit {0}

module _ {K V : Type 0} (eq : K → K → Bool) where
  abbrev pub replay_from : State K V → History (Step K V) → State K V
  replay_from s [] = s
  replay_from s (e ∷ h) = replay_from (state_after eq s e.0 e.1) h

  -- the state after a history that began with these limits
  abbrev pub replay : ℕ → ℕ → History (Step K V) → State K V
  replay limit budget h = replay_from (opening limit budget) h

  -- how many pins of k the step takes
  abbrev pub takes : K → Step K V → ℕ
  takes k (Ask key Hit) = one_if (eq k key)
  takes k (Ask key Claim) = 0
  takes k (Ask key Crowded) = 0
  takes k (PinAll keys) = times_named eq k keys
  takes k (Fill key cost value) = one_if (eq k key)
  takes k (Fail key) = 0
  takes k (Spill key cost) = 0
  takes k (Unpin key) = 0
  takes k (Limits entries budget) = 0
  takes k (Hard hard) = 0

  -- how many pins of k it gives back
  abbrev pub gives : K → Step K V → ℕ
  gives k (Unpin key) = one_if (eq k key)
  gives k (Ask key answer) = 0
  gives k (PinAll keys) = 0
  gives k (Fill key cost value) = 0
  gives k (Fail key) = 0
  gives k (Spill key cost) = 0
  gives k (Limits entries budget) = 0
  gives k (Hard hard) = 0

  -- the pins of k that these steps take together, and those that they give back
  abbrev pub pins_taken : List (Step K V) → K → ℕ
  pins_taken [] k = 0
  pins_taken (step ∷ steps) k = takes k step + pins_taken steps k

  abbrev pub pins_given : List (Step K V) → K → ℕ
  pins_given [] k = 0
  pins_given (step ∷ steps) k = gives k step + pins_given steps k

  -- those that are left: what the steps took, less what they gave back
  abbrev pub pins_left : List (Step K V) → K → ℕ
  pins_left steps k = pins_taken steps k - pins_given steps k

  -- the pins of k that m holds after the history
  abbrev pub pins_held : History (Step K V) → ℕ → K → ℕ
  pins_held h m k = pins_left (entries_of m h) k

  -- the pins of k that the numbers below n hold
  abbrev pub held_below : History (Step K V) → ℕ → K → ℕ
  held_below h zero k = 0
  held_below h (suc n) k = held_below h n k + pins_held h n k

  -- whether a claim of k is open after a step, where `was` says whether one was before
  abbrev pub is_open_after : Step K V → K → Bool → Bool
  is_open_after (Ask key Claim) k was = eq k key || was
  is_open_after (Fill key cost value) k was = not (eq k key) && was
  is_open_after (Fail key) k was = not (eq k key) && was
  is_open_after (Spill key cost) k was = not (eq k key) && was
  is_open_after (Ask key Hit) k was = was
  is_open_after (Ask key Crowded) k was = was
  is_open_after (PinAll keys) k was = was
  is_open_after (Unpin key) k was = was
  is_open_after (Limits entries budget) k was = was
  is_open_after (Hard hard) k was = was

  -- the same, after these steps
  abbrev pub is_open_in : Bool → List (Step K V) → K → Bool
  is_open_in was [] k = was
  is_open_in was (step ∷ steps) k = is_open_in (is_open_after step k was) steps k

  -- the last claim of k in these steps has no later fill, fail or spill of k
  abbrev pub has_open : List (Step K V) → K → Bool
  has_open steps k = is_open_in false steps k

  -- so it is with the steps that m made
  abbrev pub is_pending : History (Step K V) → ℕ → K → Bool
  is_pending h m k = has_open (entries_of m h) k

  -- after h, the entry's number may make its step
  abbrev pub MayFollow : ℕ → ℕ → History (Step K V) → ℕ × Step K V → Type 0
  MayFollow limit budget h e = IsEnabled eq (replay limit budget h) (pins_held h e.0) e.0 e.1

  -- Each step is enabled in its turn, and each ask says what the machine answers there.
  -- A cache says of the steps themselves what it wants beside this, as the cost and the value of each fill
  abbrev pub IsLegal : ℕ → ℕ → History (Step K V) → Type 0
  IsLegal limit budget h = (front back : History (Step K V)) (e : ℕ × Step K V) → h ≡ front ++ e ∷ back → MayFollow limit budget front e

  -- Each fill found room within the hard limit. The machine makes a fill without room too: whoever keeps the hard limit asks first, and spills the value where there is none
  abbrev pub FillsFit : ℕ → ℕ → History (Step K V) → Type 0
  FillsFit limit budget h = (front back : History (Step K V)) (e : ℕ × Step K V) → h ≡ front ++ e ∷ back → IsFit (replay limit budget front) e.1

  -- the step takes the entry of k away, and isn't a fail
  abbrev pub is_evicted : State K V → ℕ × Step K V → K → Bool
  is_evicted s e k = is_some (status_of eq s k) && not (is_some (status_of eq (state_after eq s e.0 e.1) k)) && not (is_fail e.1)

  -- the step is a fail of k
  abbrev pub is_fail_of : Step K V → K → Bool
  is_fail_of (Fail key) k = eq k key
  is_fail_of (Spill key cost) k = eq k key
  is_fail_of (Ask key answer) k = false
  is_fail_of (PinAll keys) k = false
  is_fail_of (Fill key cost value) k = false
  is_fail_of (Unpin key) k = false
  is_fail_of (Limits entries budget) k = false
  is_fail_of (Hard hard) k = false
