-- Public: the cache machine, what a cache with a limit of entries and a budget does at each step. It is this project's own.
-- `eq` says which keys are the same, and a ready entry also has the value that it was filled with.
use Rattle.std.specs.Prelude.{◌≡◌, ℕ, zero, suc, ◌+◌, ◌-◌, ◌*◌, ◌≤◌, min, Bool, true, false, not, ◌&&◌, ◌||◌, ◌==◌, nat_lt, nat_le, if◌then◌else◌, List, [], ◌∷◌, length, Option, Some, None}
use Rattle.std.specs.Map.{lookup, remove_entry}
use Rattle.evict_core.specs.Recency.{total, some_passes, without_last, to_front, change}
use Rattle.evict_core.specs.declared.counts.Counts.{Counts}
use Rattle.evict_core.specs.declared.hard_limit.HardLimit.{HardLimit}

-- an entry is being made by a number, or it is ready: so many pins hold it, and it costs so much
pub data Status (V : Type 0) : Type 0 where
  Flying : (number : ℕ) → Status V
  Ready : (pins : ℕ) → (cost : ℕ) → (value : V) → Status V

-- the entries, the most recently used first, how many there are to be, what those that no pin holds may cost, the hard limit of all together where one is set, and what was counted
pub record State (K V : Type 0) : Type 0 where
  pub entries : List (K × Status V)
  pub limit : ℕ
  pub budget : ℕ
  pub hard : Option HardLimit
  pub counts : Counts

-- what an ask of a key that isn't being made is answered
pub data Answer : Type 0 where
  Hit : Answer
  Claim : Answer
  Crowded : Answer

-- a spill fails a key whose value was made but that the hard limit has no room for
pub data Step (K V : Type 0) : Type 0 where
  Ask : (key : K) → (answer : Answer) → Step K V
  PinAll : (keys : List K) → Step K V
  Fill : (key : K) → (cost : ℕ) → (value : V) → Step K V
  Fail : (key : K) → Step K V
  Spill : (key : K) → (cost : ℕ) → Step K V
  Unpin : (key : K) → Step K V
  Limits : (entries : ℕ) → (budget : ℕ) → Step K V
  Hard : (hard : Option HardLimit) → Step K V

-- the most pins that an entry has
abbrev pub max_pins : ℕ
max_pins = 4294967295

-- the largest limit of entries
abbrev pub max_entries : ℕ
max_entries = 65536

-- the largest budget
abbrev pub max_budget : ℕ
max_budget = 1099511627776

-- the most that an entry costs
abbrev pub max_cost : ℕ
max_cost = 4294967296

-- a hard limit, where there is one, has costs that an entry and a budget may have
abbrev pub IsHardLimit : Option HardLimit → Type 0
IsHardLimit None = Unit {0}
IsHardLimit (Some hard) = (hard.cost ≤ max_budget) × (hard.making ≤ max_cost)

-- it holds what costs so much, and so many that are being made
abbrev pub is_held : Option HardLimit → ℕ → ℕ → Bool
is_held None cost makings = true
is_held (Some hard) cost makings = nat_le (cost + hard.making * makings) hard.cost

-- the last value of a count, at which it stands
abbrev pub last_count : ℕ
last_count = 18446744073709551615

abbrev pub raised : ℕ → ℕ
raised n = min (n + 1) last_count

module _ {V : Type 0} where
  -- it may be evicted: it is ready, and no pin holds it
  abbrev pub is_idle : Status V → Bool
  is_idle (Flying number) = false
  is_idle (Ready pins cost value) = pins == 0

  -- what it costs where no pin holds it
  abbrev pub idle_cost : Status V → ℕ
  idle_cost (Flying number) = 0
  idle_cost (Ready pins cost value) = if pins == 0 then cost else 0

  -- what it costs where a pin holds it
  abbrev pub held_cost : Status V → ℕ
  held_cost (Flying number) = 0
  held_cost (Ready pins cost value) = if pins == 0 then 0 else cost

  -- one that is being made
  abbrev pub flying_one : Status V → ℕ
  flying_one (Flying number) = 1
  flying_one (Ready pins cost value) = 0

  abbrev pub one_pin_more : Status V → Status V
  one_pin_more (Flying number) = Flying number
  one_pin_more (Ready pins cost value) = Ready (pins + 1) cost value

  abbrev pub one_pin_less : Status V → Status V
  one_pin_less (Flying number) = Flying number
  one_pin_less (Ready pins cost value) = Ready (pins - 1) cost value

  -- the pins of what a look-up gives, and who makes it
  abbrev pub pins_in : Option (Status V) → ℕ
  pins_in None = 0
  pins_in (Some (Flying number)) = 0
  pins_in (Some (Ready pins cost value)) = pins

  abbrev pub maker_in : Option (Status V) → Option ℕ
  maker_in None = None
  maker_in (Some (Flying number)) = Some number
  maker_in (Some (Ready pins cost value)) = None

module _ {K V : Type 0} where
  -- some entry may be evicted
  abbrev pub has_idle : List (K × Status V) → Bool
  has_idle es = some_passes is_idle es

  -- the unpinned cost
  abbrev pub unpinned : List (K × Status V) → ℕ
  unpinned es = total idle_cost es

  -- the cost of the entries that pins hold, each counted once
  abbrev pub pinned : List (K × Status V) → ℕ
  pinned es = total held_cost es

  -- how many entries are being made
  abbrev pub flying : List (K × Status V) → ℕ
  flying es = total flying_one es

  -- the hard limit holds all entries
  abbrev pub holds_all : Option HardLimit → List (K × Status V) → Bool
  holds_all hard es = is_held hard (unpinned es + pinned es) (flying es)

  -- it holds them and one more that is being made
  abbrev pub has_space : State K V → Bool
  has_space s = is_held s.hard (unpinned s.entries + pinned s.entries) (flying s.entries + 1)

  -- it holds them where one that is being made is ready instead, at this cost
  abbrev pub can_fill : State K V → ℕ → Bool
  can_fill s cost = is_held s.hard (unpinned s.entries + pinned s.entries + cost) (flying s.entries - 1)

  -- a key more may be there: the list is shorter than the limit or has one to evict, and the hard limit has space for a making
  abbrev pub has_room : State K V → Bool
  has_room s = (nat_lt (length s.entries) s.limit || has_idle s.entries) && has_space s

  abbrev pub evict : State K V → State K V
  evict s = record s { entries = without_last is_idle s.entries; counts = record s.counts { evictions = raised s.counts.evictions } }

  -- the first j of those that may be evicted go, from the least recent on
  abbrev pub evict_all : ℕ → State K V → State K V
  evict_all zero s = s
  evict_all (suc j) s = evict_all j (evict s)

  -- none may be evicted, or the unpinned cost is within the budget and the list isn't longer than the limit
  abbrev pub is_within : State K V → Bool
  is_within s = not (has_idle s.entries) || (nat_le (unpinned s.entries) s.budget && nat_le (length s.entries) s.limit)

-- the least number below n that passes, or n
abbrev pub least : (ℕ → Bool) → ℕ → ℕ
least test zero = 0
least test (suc n) = if test 0 then 0 else suc (least (λ j. test (suc j)) n)

module _ {K V : Type 0} where
  -- evicts as few as bring the state within its limits, or all that may be evicted
  unfoldable pub trim : State K V → State K V
  trim s = evict_all (least (λ j. is_within (evict_all j s)) (length s.entries)) s

  -- what an ask is answered; of a key that is being made it is no step
  abbrev pub answer_at : State K V → Option (Status V) → Option Answer
  answer_at s None = Some (if has_room s then Claim else Crowded)
  answer_at s (Some (Flying number)) = None
  answer_at s (Some (Ready pins cost value)) = Some (if nat_lt pins max_pins then Hit else Crowded)

  -- one goes first where the list isn't shorter than the limit
  abbrev pub room_for_one : State K V → State K V
  room_for_one s = if nat_lt (length s.entries) s.limit then s else evict s

  abbrev pub put_first : State K V → K → ℕ → State K V
  put_first s k m = record s { entries = (k, Flying m) ∷ s.entries; counts = record s.counts { claims = raised s.counts.claims } }

module _ {K V : Type 0} (eq : K → K → Bool) where
  abbrev pub status_of : State K V → K → Option (Status V)
  status_of s k = lookup (eq k) s.entries

  abbrev pub ask_answer : State K V → K → Option Answer
  ask_answer s k = answer_at s (status_of s k)

  abbrev pub hit : State K V → K → State K V
  hit s k = record s { entries = to_front (eq k) one_pin_more s.entries; counts = record s.counts { hits = raised s.counts.hits } }

  abbrev pub hit_all : State K V → List K → State K V
  hit_all s [] = s
  hit_all s (k ∷ ks) = hit_all (hit s k) ks

  -- the state after a step that the number m makes
  abbrev pub state_after : State K V → ℕ → Step K V → State K V
  state_after s m (Ask k Hit) = hit s k
  state_after s m (Ask k Claim) = put_first (room_for_one s) k m
  state_after s m (Ask k Crowded) = record s { counts = record s.counts { crowded = raised s.counts.crowded } }
  state_after s m (PinAll ks) = hit_all s ks
  state_after s m (Fill k cost value) = record s { entries = to_front (eq k) (λ _. Ready 1 cost value) s.entries; counts = record s.counts { fills = raised s.counts.fills } }
  state_after s m (Fail k) = record s { entries = remove_entry (eq k) s.entries; counts = record s.counts { fails = raised s.counts.fails } }
  state_after s m (Spill k cost) = record s { entries = remove_entry (eq k) s.entries; counts = record s.counts { fails = raised s.counts.fails } }
  state_after s m (Unpin k) = trim (record s { entries = change (eq k) one_pin_less s.entries })
  state_after s m (Limits entries budget) = trim (record s { limit = entries; budget = budget })
  state_after s m (Hard hard) = record s { hard = hard }

  -- each key in turn would be a hit
  abbrev pub HitsEach : State K V → List K → Type 0
  HitsEach s [] = Unit {0}
  HitsEach s (k ∷ ks) = (ask_answer s k ≡ Some Hit) × HitsEach (hit s k) ks

  -- m may make the step; `held` says how often m holds a key
  abbrev pub IsEnabled : State K V → (K → ℕ) → ℕ → Step K V → Type 0
  IsEnabled s held m (Ask k answer) = ask_answer s k ≡ Some answer
  IsEnabled s held m (PinAll ks) = HitsEach s ks
  IsEnabled s held m (Fill k cost value) = maker_in (status_of s k) ≡ Some m
  IsEnabled s held m (Fail k) = maker_in (status_of s k) ≡ Some m
  IsEnabled s held m (Spill k cost) = (maker_in (status_of s k) ≡ Some m) × (can_fill s cost ≡ false)
  IsEnabled s held m (Unpin k) = 1 ≤ held k
  IsEnabled s held m (Limits entries budget) = (1 ≤ entries) × (entries ≤ max_entries) × (budget ≤ max_budget)
  IsEnabled s held m (Hard hard) = IsHardLimit hard × (holds_all hard s.entries ≡ true)
