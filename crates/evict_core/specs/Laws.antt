-- Public: what holds of every legal history of a cache.
use Rattle.std.specs.Prelude.{◌≡◌, ℕ, ◌+◌, ◌*◌, ◌<◌, ◌≤◌, Bool, true, false, ◌⊎◌, ◌↔◌, List, [], ◌∷◌, ◌++◌, length, Some}
use Rattle.turn_cell.specs.History.{History, IsBelow, entries_of}
use Rattle.evict_core.specs.Machine.{State, Ready, Hit, Claim, Step, Ask, Fill, max_pins, maker_in, pins_in, unpinned, pinned, flying, has_idle, status_of, ask_answer, hit, hit_all, HitsEach, is_within, evict_all, trim}
use Rattle.evict_core.specs.History.{replay, replay_from, times_named, pins_taken, pins_given, pins_held, held_below, is_pending, MayFollow, IsLegal, IsFit, FillsFit, is_evicted, is_fail_of}
use Rattle.evict_core.specs.Asked.{ready_pins}
use Rattle.evict_core.specs.Counting.{tally, CountsSay}
use Rattle.evict_core.specs.declared.hard_limit.HardLimit.{HardLimit}

module _ {K V : Type 0} (eq : K → K → Bool) where
  -- within `between`, which follows the state s, some entry is a fail of k, or evicts it
  pub record IsLostWithin (s : State K V) (between : History (Step K V)) (k : K) : Type 0 where
    pub front : History (Step K V)
    pub loss : ℕ × Step K V
    pub back : History (Step K V)
    pub is : between ≡ front ++ loss ∷ back
    pub lost : (is_fail_of eq loss.1 k ≡ true) ⊎ (is_evicted eq (replay_from eq s front) loss k ≡ true)

  pub record IsEvictedWithin (s : State K V) (between : History (Step K V)) (k : K) : Type 0 where
    pub front : History (Step K V)
    pub loss : ℕ × Step K V
    pub back : History (Step K V)
    pub is : between ≡ front ++ loss ∷ back
    pub lost : is_evicted eq (replay_from eq s front) loss k ≡ true

module _ {K V : Type 0} (eq : K → K → Bool) where
  -- some entry is a fill of k with this cost and value
  pub record IsFilled (h : History (Step K V)) (k : K) (cost : ℕ) (value : V) : Type 0 where
    pub front : History (Step K V)
    pub number : ℕ
    pub key : K
    pub back : History (Step K V)
    pub is : h ≡ front ++ (number, Fill key cost value) ∷ back
    pub same : eq k key ≡ true

  -- each place of the list finds its key ready, with fewer pins than the most once the places before it are hits
  abbrev pub ArePinnable : State K V → List K → Type 0
  ArePinnable s keys = (front back : List K) (k : K) → keys ≡ front ++ k ∷ back
      → (pins : ℕ) × (ready_pins (status_of eq s k) ≡ Some pins) × (pins + times_named eq k front < max_pins)

module _ {K : Type 0} (V : Type 0) (eq : K → K → Bool) where
  abbrev pub NoneIsLegal : Type 0
  NoneIsLegal = (limit budget : ℕ) → IsLegal {V = V} eq limit budget []

  abbrev pub MoreIsLegal : Type 0
  MoreIsLegal = (limit budget : ℕ) (h : History (Step K V)) (e : ℕ × Step K V) → IsLegal eq limit budget h → MayFollow eq limit budget h e
      → IsLegal eq limit budget (h ++ e ∷ [])

  -- what comes before a place of a legal history is legal
  abbrev pub FrontIsLegal : Type 0
  FrontIsLegal = (limit budget : ℕ) (front back : History (Step K V)) → IsLegal eq limit budget (front ++ back) → IsLegal eq limit budget front

  -- between two claims of a key stands its fail or an eviction of it
  abbrev pub ClaimsOnce : Type 0
  ClaimsOnce = (limit budget : ℕ) (before between after : History (Step K V)) (m n : ℕ) (k again : K)
      → IsLegal eq limit budget (before ++ (m, Ask k Claim) ∷ (between ++ (n, Ask again Claim) ∷ after))
      → eq k again ≡ true
      → IsLostWithin eq (replay eq limit budget (before ++ (m, Ask k Claim) ∷ [])) between k

  -- between two fills of a key stands an eviction of it
  abbrev pub FillsOnce : Type 0
  FillsOnce = (limit budget : ℕ) (before between after : History (Step K V)) (m n : ℕ) (k again : K) (c d : ℕ) (v w : V)
      → IsLegal eq limit budget (before ++ (m, Fill k c v) ∷ (between ++ (n, Fill again d w) ∷ after))
      → eq k again ≡ true
      → IsEvictedWithin eq (replay eq limit budget (before ++ (m, Fill k c v) ∷ [])) between k

  -- the unpinned cost is at most the budget
  abbrev pub StaysInBudget : Type 0
  StaysInBudget = (limit budget : ℕ) (h : History (Step K V)) → IsLegal eq limit budget h
      → unpinned (replay eq limit budget h).entries ≤ (replay eq limit budget h).budget

  -- where the list is longer than its limit, no entry may be evicted
  abbrev pub StaysInLimit : Type 0
  StaysInLimit = (limit budget : ℕ) (h : History (Step K V)) → IsLegal eq limit budget h
      → (replay eq limit budget h).limit < length (replay eq limit budget h).entries
      → has_idle (replay eq limit budget h).entries ≡ false

  -- where a hard limit is set and each fill found room within it, no pinned, unpinned and unmade values pass it together
  abbrev pub StaysInHardLimit : Type 0
  StaysInHardLimit = (limit budget : ℕ) (h : History (Step K V)) → IsLegal eq limit budget h → FillsFit eq limit budget h
      → (hard : HardLimit) → (replay eq limit budget h).hard ≡ Some hard
      → unpinned (replay eq limit budget h).entries + pinned (replay eq limit budget h).entries + hard.making * flying (replay eq limit budget h).entries ≤ hard.cost

  -- the fills of a history fit where those of its beginning do and its last step does
  abbrev pub NoneFits : Type 0
  NoneFits = (limit budget : ℕ) → FillsFit {V = V} eq limit budget []

  abbrev pub MoreFits : Type 0
  MoreFits = (limit budget : ℕ) (h : History (Step K V)) (e : ℕ × Step K V) → FillsFit eq limit budget h → IsFit (replay eq limit budget h) e.1
      → FillsFit eq limit budget (h ++ e ∷ [])

  -- m makes k exactly where m's claim of it is pending
  abbrev pub FliesWherePending : Type 0
  FliesWherePending = (limit budget : ℕ) (h : History (Step K V)) → IsLegal eq limit budget h
      → (m : ℕ) (k : K) → (maker_in (status_of eq (replay eq limit budget h) k) ≡ Some m) ↔ (is_pending eq h m k ≡ true)

  -- the pins of a key are those that all numbers hold; a key that is absent or being made has none
  abbrev pub PinsAreHeld : Type 0
  PinsAreHeld = (limit budget : ℕ) (h : History (Step K V)) → IsLegal eq limit budget h
      → (n : ℕ) → IsBelow n h → (k : K) → pins_in (status_of eq (replay eq limit budget h) k) ≡ held_below eq h n k

  -- what a number holds of a key is among its pins
  abbrev pub HeldArePins : Type 0
  HeldArePins = (limit budget : ℕ) (h : History (Step K V)) → IsLegal eq limit budget h
      → (m : ℕ) (k : K) → pins_held eq h m k ≤ pins_in (status_of eq (replay eq limit budget h) k)

  -- no number gives back more pins than it took
  abbrev pub GivenWereTaken : Type 0
  GivenWereTaken = (limit budget : ℕ) (h : History (Step K V)) → IsLegal eq limit budget h
      → (m : ℕ) (k : K) → pins_given eq (entries_of m h) k ≤ pins_taken eq (entries_of m h) k

  -- no step evicts a key that a number holds once the step is made
  abbrev pub HeldIsKept : Type 0
  HeldIsKept = (limit budget : ℕ) (h : History (Step K V)) (e : ℕ × Step K V) → IsLegal eq limit budget (h ++ e ∷ [])
      → (k : K) → is_evicted eq (replay eq limit budget h) e k ≡ true
      → (m : ℕ) → pins_held eq (h ++ e ∷ []) m k ≡ 0

  -- the cost and the value of a ready entry are those of a fill of its key
  abbrev pub ReadyWasFilled : Type 0
  ReadyWasFilled = (limit budget : ℕ) (h : History (Step K V)) → IsLegal eq limit budget h
      → (k : K) (pins cost : ℕ) (value : V) → status_of eq (replay eq limit budget h) k ≡ Some (Ready pins cost value)
      → IsFilled eq h k cost value

  -- a pin-all may be made exactly where each place finds its key so
  abbrev pub EachIsPinnable : Type 0
  EachIsPinnable = (limit budget : ℕ) (h : History (Step K V)) → IsLegal eq limit budget h
      → (keys : List K) → HitsEach eq (replay eq limit budget h) keys ↔ ArePinnable eq (replay eq limit budget h) keys

  -- after it each key has a pin more for each of its places
  abbrev pub PinsAfterAll : Type 0
  PinsAfterAll = (limit budget : ℕ) (h : History (Step K V)) → IsLegal eq limit budget h
      → (keys : List K) → HitsEach eq (replay eq limit budget h) keys
      → (k : K) → pins_in (status_of eq (hit_all eq (replay eq limit budget h) keys) k) ≡ pins_in (status_of eq (replay eq limit budget h) k) + times_named eq k keys

  -- a pin-all of one key more is that of the others and then a hit of the key
  abbrev pub OneHitMore : Type 0
  OneHitMore = (s : State K V) (keys : List K) (k : K)
      → (hit_all eq s (keys ++ k ∷ []) ≡ hit eq (hit_all eq s keys) k)
      × (HitsEach eq s (keys ++ k ∷ []) ↔ (HitsEach eq s keys × (ask_answer eq (hit_all eq s keys) k ≡ Some Hit)))

  -- the counts are those of the steps
  abbrev pub CountsAreOfSteps : Type 0
  CountsAreOfSteps = (limit budget : ℕ) (h : History (Step K V)) → IsLegal eq limit budget h
      → CountsSay (replay eq limit budget h) (tally (λ c. c.hits) h) (tally (λ c. c.claims) h) (tally (λ c. c.fills) h) (tally (λ c. c.fails) h) (tally (λ c. c.crowded) h)

-- what `trim` does, said of the number of its evictions: after so many the state is within its limits or has nothing more to evict, and after fewer it isn't
module _ {K V : Type 0} where
  pub record TrimsBy (s : State K V) (j : ℕ) : Type 0 where
    pub is : trim s ≡ evict_all j s
    pub enough : is_within (evict_all j s) ≡ true
    pub fewest : (i : ℕ) → i < j → is_within (evict_all i s) ≡ false

abbrev pub TrimsLeast : (K V : Type 0) → Type 0
TrimsLeast K V = (s : State K V) → (j : ℕ) × TrimsBy s j
