-- Public: the history of a shard, and what it says of the entries.
use Rattle.std.specs.Prelude.{◌≡◌, ℕ, ◌==◌, Bool, true, filter, All, Some}
use Rattle.turn_cell.specs.History.{History, map_entries}
use Rattle.evict_core.specs.Machine.{Step, State}
use Rattle.evict_core.specs.Machine as machine
use Rattle.evict_core.specs.History.{IsLegal, FillsFit, replay}
use Rattle.flight_cache.specs.Meaning.{Meaning, shard_of, entry_cost}
use Rattle.flight_cache.specs.declared.kept.Opening.{Opening}
use Rattle.flight_cache.specs.declared.kept.Kept.{Kept}
use Rattle.flight_cache.specs.declared.kept.Entry.{Entry}
use Rattle.flight_cache.specs.declared.kept.Entry.TheVariants.{Hit, Claim, Crowded, PinAll, Fill, Fail, Spill, Unpin, Limits, Hard}

module _ {K V T : Type 0} (meaning : Meaning K V T) (opening : Opening T) where
  -- the value of a key
  abbrev pub value_under : K → V
  value_under key = meaning.made opening.tag.value key

  -- the key is in this shard
  abbrev pub is_in : K → Bool
  is_in key = shard_of (meaning.numbers key) == opening.shard

  -- the machine's step of an entry. A pin-all is of those of its keys that are in the shard, a fill puts the key's value at its cost, and a spill has that cost
  abbrev pub step_of : Entry K → Step K V
  step_of (Hit k) = machine.Ask k.value machine.Hit
  step_of (Claim k) = machine.Ask k.value machine.Claim
  step_of (Crowded k) = machine.Ask k.value machine.Crowded
  step_of (PinAll ks) = machine.PinAll (filter is_in ks.value.items)
  step_of (Fill k) = machine.Fill k.value (entry_cost meaning k.value (value_under k.value)) (value_under k.value)
  step_of (Fail k) = machine.Fail k.value
  step_of (Spill k) = machine.Spill k.value (entry_cost meaning k.value (value_under k.value))
  step_of (Unpin k) = machine.Unpin k.value
  step_of (Limits entries budget) = machine.Limits entries budget
  step_of (Hard hard) = machine.Hard hard

  -- the machine's history
  abbrev pub steps_in : History (Entry K) → History (Step K V)
  steps_in history = map_entries step_of history

  -- the step's key is in the shard
  abbrev pub IsOfShard : Step K V → Type 0
  IsOfShard (machine.Ask key answer) = is_in key ≡ true
  IsOfShard (machine.PinAll keys) = All (λ key. is_in key ≡ true) keys
  IsOfShard (machine.Fill key cost value) = is_in key ≡ true
  IsOfShard (machine.Fail key) = is_in key ≡ true
  IsOfShard (machine.Spill key cost) = is_in key ≡ true
  IsOfShard (machine.Unpin key) = is_in key ≡ true
  IsOfShard (machine.Limits entries budget) = Unit {0}
  IsOfShard (machine.Hard hard) = Unit {0}

module _ {K V T : Type 0} (eq : K → K → Bool) (meaning : Meaning K V T) (opening : Opening T) where
  -- The history is legal under the opening limits, each of its fills found room within the hard limit, and its keys are in the shard. That a fill has the value and the cost of its key is in `step_of`
  pub record IsLegalUnder (history : History (Entry K)) : Type 0 where
    pub legal : IsLegal eq opening.entries opening.budget (steps_in meaning opening history)
    pub fits : FillsFit eq opening.entries opening.budget (steps_in meaning opening history)
    pub keys : All (λ e. IsOfShard meaning opening e.1) (steps_in meaning opening history)

  -- the entries that the history leaves
  abbrev pub left_by : History (Entry K) → State K V
  left_by history = replay eq opening.entries opening.budget (steps_in meaning opening history)

  -- each ready value is that of its key
  abbrev pub AreMade : State K V → Type 0
  AreMade s = (key : K) (pins cost : ℕ) (value : V) → machine.status_of eq s key ≡ Some (machine.Ready pins cost value) → (value ≡ value_under meaning opening key) × (cost ≡ entry_cost meaning key value)

module _ {K V T : Type 0} (eq : K → K → Bool) (meaning : Meaning K V T) where
  -- the entries stand for the history
  pub record Stands {M : Type 0} (opening : Opening T) (kept : Kept M K V T) (history : History (Entry K)) : Type 0 where
    pub legal : IsLegalUnder eq meaning opening history
    pub entries : kept.entries ≡ left_by eq meaning opening history
    pub made : AreMade eq meaning opening kept.entries
