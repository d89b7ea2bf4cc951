-- Public: what the calls of `Entries` answer, by the machine.
use Rattle.std.specs.Prelude.{◌≡◌, Bool, ℕ, length, Option, Some, None}
use Rattle.std.specs.Arc.{arc_value}
use Rattle.evict_core.specs.Machine.{Status, Flying, Ready, State, Step, maker_in, status_of, ask_answer, state_after, unpinned, pinned}
use Rattle.evict_core.specs.Machine as machine
use Rattle.evict_core.specs.declared.ask.Ask.{Ask}
use Rattle.evict_core.specs.declared.ask.Ask.TheVariants.{Hit, Claimable, Crowded, OutOfMemory}
use Rattle.evict_core.specs.declared.ask.Ask.TheVariants as answered
use Rattle.evict_core.specs.declared.counts.Totals.{Totals}

module _ {V : Type 0} where
  abbrev pub ready_pins : Option (Status V) → Option ℕ
  ready_pins None = None
  ready_pins (Some (Flying number)) = None
  ready_pins (Some (Ready pins cost value)) = Some pins

  abbrev pub ready_value : Option (Status V) → Option V
  ready_value None = None
  ready_value (Some (Flying number)) = None
  ready_value (Some (Ready pins cost value)) = Some value

module _ {K V : Type 0} where
  abbrev pub totals_of : State K V → Totals
  totals_of s = record {
    entries = length s.entries;
    unpinned = unpinned s.entries;
    pinned = pinned s.entries;
    budget = s.budget;
    counts = s.counts;
  }

module _ {K V : Type 0} (eq : K → K → Bool) (old : State K V) (key : K) where
  -- The step that the machine answers the ask with was made, but for a claim, which is a call of its own.
  -- A key that may be claimed, one that is being made and out of memory change nothing; memory runs out only for a hit
  abbrev pub IsAskAnswer : Ask V → State K V → Type 0
  IsAskAnswer (Hit value) new = (ask_answer eq old key ≡ Some machine.Hit) × (ready_value (status_of eq old key) ≡ Some (arc_value value)) × ((number : ℕ) → new ≡ state_after eq old number (machine.Ask key machine.Hit))
  IsAskAnswer Claimable new = (ask_answer eq old key ≡ Some machine.Claim) × (new ≡ old)
  IsAskAnswer Crowded new = (ask_answer eq old key ≡ Some machine.Crowded) × ((number : ℕ) → new ≡ state_after eq old number (machine.Ask key machine.Crowded))
  IsAskAnswer (answered.Flying maker) new = (maker_in (status_of eq old key) ≡ Some maker) × (new ≡ old)
  IsAskAnswer OutOfMemory new = (ask_answer eq old key ≡ Some machine.Hit) × (new ≡ old)
