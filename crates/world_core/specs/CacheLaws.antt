-- Public: what holds of the caches of actors after each list of steps.
use Rattle.std.specs.Prelude.{◌≡◌, ℕ, Bool, All}
use Rattle.turn_cell.specs.History.{History}
use Rattle.evict_core.specs.Machine.{Step, Ask, PinAll, Fill, Fail, Spill, Unpin, Limits, Hard}
use Rattle.evict_core.specs.History.{one_if, replay, pins_held, is_pending, IsLegal}
use Rattle.flight_cache.specs.Meaning.{Meaning, entry_cost}
use Rattle.world_core.specs.Caches.{ActorCachesView, shard_in}
use Rattle.world_core.specs.Holdings.{count_held}

module _ {K V T : Type 0} (meaning : Meaning K V T) (tag : T) where
  -- what a fill puts is the value of its key, at its cost
  abbrev pub FillsWithMade : Step K V → Type 0
  FillsWithMade (Fill key cost value) = (value ≡ meaning.made tag key) × (cost ≡ entry_cost meaning key value)
  FillsWithMade (Ask key answer) = Unit {0}
  FillsWithMade (PinAll keys) = Unit {0}
  FillsWithMade (Fail key) = Unit {0}
  FillsWithMade (Unpin key) = Unit {0}
  FillsWithMade (Spill key cost) = Unit {0}
  FillsWithMade (Limits entries budget) = Unit {0}
  FillsWithMade (Hard hard) = Unit {0}

module _ {K V T : Type 0} (eq : K → K → Bool) (meaning : Meaning K V T) (s : ActorCachesView K V T) where
  -- The caches stand for a history of each shard, which began with its limits. The tickets are the claims that are pending in these, and the pins those that are held:
  -- so a key that is being made has one ticket, and the pins of a ready key are those that actors have
  pub record StandFor (limits : ℕ → ℕ × ℕ) (histories : ℕ → History (Step K V)) : Type 0 where
    pub legal : (n : ℕ) → IsLegal eq (limits n).0 (limits n).1 (histories n)
    pub shards : (n : ℕ) → shard_in s n ≡ replay eq (limits n).0 (limits n).1 (histories n)
    pub fills : (n : ℕ) → All (λ e. FillsWithMade meaning s.tag e.1) (histories n)
    pub tickets : (actor shard : ℕ) (key : K) → count_held eq actor shard key s.tickets ≡ one_if (is_pending eq (histories shard) actor key)
    pub pins : (actor shard : ℕ) (key : K) → count_held eq actor shard key s.pins ≡ pins_held eq (histories shard) actor key

  -- some histories are theirs
  pub record HaveHistories : Type 0 where
    pub limits : ℕ → ℕ × ℕ
    pub histories : ℕ → History (Step K V)
    pub stand : StandFor limits histories
