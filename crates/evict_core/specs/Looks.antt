-- Inner: what a look for a pin finds, and what it leaves of the entries.
use Rattle.std.specs.Prelude.{◌≡◌, Bool, ℕ, ◌<◌, ◌≤◌, List, Option, Some, None, IsSome}
use Rattle.std.specs.Arc.{arc_value}
use Rattle.evict_core.specs.Machine.{Status, max_pins, pins_in, maker_in, one_pin_more}
use Rattle.evict_core.specs.Recency.{to_front}
use Rattle.evict_core.specs.Asked.{ready_pins, ready_value}
use Rattle.evict_core.specs.Sums.{IsIdleAt, IsBusyAt}
use Rattle.evict_core.specs.declared.look.Look.{Look}
use Rattle.evict_core.specs.declared.look.Look.TheVariants.{Absent, Making, Full, OutOfMemory, Pinned}

module _ {V : Type 0} where
  abbrev pub idle_of : Look V → Option ℕ
  idle_of (Pinned value idle) = idle
  idle_of Absent = None
  idle_of (Making maker) = None
  idle_of Full = None
  idle_of OutOfMemory = None

  -- what it cost where it might have been evicted
  abbrev pub IsIdleCost : Option (Status V) → Option ℕ → Type 0
  IsIdleCost found None = IsBusyAt found
  IsIdleCost found (Some cost) = IsIdleAt found cost

  -- what the look-up of the key says of the look
  abbrev pub IsLookAt : Option (Status V) → Look V → Type 0
  IsLookAt found Absent = found ≡ None
  IsLookAt found (Making maker) = maker_in found ≡ Some maker
  IsLookAt found Full = max_pins ≤ pins_in found
  IsLookAt found OutOfMemory = IsSome (ready_pins found) × (pins_in found < max_pins)
  IsLookAt found (Pinned value idle) = (ready_value found ≡ Some (arc_value value)) × (pins_in found < max_pins) × IsIdleCost found idle

module _ {K V : Type 0} (test : K → Bool) where
  -- a value that was pinned is the most recent; nothing else changes the entries
  abbrev pub after_look : Look V → List (K × Status V) → List (K × Status V)
  after_look (Pinned value idle) es = to_front test one_pin_more es
  after_look Absent es = es
  after_look (Making maker) es = es
  after_look Full es = es
  after_look OutOfMemory es = es
