-- What the machine answers an ask.
use Rattle.std.proofs.Common.{◌≡◌, ℕ, ◌<◌, ◌≤◌, Bool, true, false, Some, None}
use Rattle.std.proofs.lemmas.Bool.{lt-ltb, le-ltb}
use Rattle.evict_core.specs.Machine.{Ready, State, Hit, Claim, Crowded, max_pins, has_room, status_of, ask_answer}

module _ {K V : Type 0} (eq : K → K → Bool) (s : State K V) (k : K) where
  pub claim-absent : status_of eq s k ≡ None → has_room s ≡ true → ask_answer eq s k ≡ Some Claim
  claim-absent absent room = rw (absent, room)

  pub crowded-absent : status_of eq s k ≡ None → has_room s ≡ false → ask_answer eq s k ≡ Some Crowded
  crowded-absent absent room = rw (absent, room)

  pub hit-ready : (pins cost : ℕ) (value : V) → status_of eq s k ≡ Some (Ready pins cost value) → pins < max_pins → ask_answer eq s k ≡ Some Hit
  hit-ready pins cost value is few = rw (is, lt-ltb pins max_pins few)

  pub crowded-ready : (pins cost : ℕ) (value : V) → status_of eq s k ≡ Some (Ready pins cost value) → max_pins ≤ pins → ask_answer eq s k ≡ Some Crowded
  crowded-ready pins cost value is all = rw (is, le-ltb pins max_pins all)
