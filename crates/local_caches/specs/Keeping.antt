-- Public: a cache of one thread: what its entries are between its calls, and what each call makes of them.
use Rattle.std.specs.Prelude.{◌≡◌, ℕ, ◌≤◌, Bool, length, Option, Some, None}
use Rattle.evict_core.specs.Recency.{Apart}
use Rattle.evict_core.specs.Machine.{Status, Ready, State, Hit, Claim, Ask, Fill, Unpin, status_of, state_after, unpinned}
use Rattle.cache_kinds.specs.Limits.{entry_limit}

-- a cache of one thread: what its values are made from besides their keys, and its entries
pub record LocalCacheView (K V T : Type 0) : Type 0 where
  pub tag : T
  pub entries : State K V

-- Between calls. Each entry is ready: it has the value of its key, at its cost, and no pin holds it. So none is being made.
-- No two entries are of one key, and together they are within the budget and the limit that goes with it; there is no hard limit
pub record IsAtRest {K V : Type 0} (eq : K → K → Bool) (made : K → V) (cost : K → V → ℕ) (s : State K V) : Type 0 where
  pub ready : (key : K) (status : Status V) → status_of eq s key ≡ Some status → status ≡ Ready 0 (cost key (made key)) (made key)
  pub apart : Apart eq s.entries
  pub in_budget : unpinned s.entries ≤ s.budget
  pub in_limit : length s.entries ≤ s.limit
  pub limit : s.limit ≡ entry_limit s.budget
  pub hard : s.hard ≡ None

module _ {K V : Type 0} (eq : K → K → Bool) where
  -- the key is asked for and hit, and the pin is given back
  abbrev pub with_hit : State K V → K → State K V
  with_hit s key = state_after eq (state_after eq s 0 (Ask key Hit)) 0 (Unpin key)

  -- the key is claimed and filled, and the pin is given back
  abbrev pub with_fill : State K V → K → ℕ → V → State K V
  with_fill s key cost value = state_after eq (state_after eq (state_after eq s 0 (Ask key Claim)) 0 (Fill key cost value)) 0 (Unpin key)

  -- after a look for the key, which found this: nothing changes where it isn't there
  abbrev pub after_find : {A : Type 0} → State K V → K → Option A → State K V
  after_find s key (Some value) = with_hit s key
  after_find s key None = s

  -- after a value is kept, where the look-up of its key was this: what is there stays
  abbrev pub after_keep : State K V → K → ℕ → V → Option (Status V) → State K V
  after_keep s key cost value (Some status) = with_hit s key
  after_keep s key cost value None = with_fill s key cost value
