-- Public: what callers see of pins, tickets and passes, and what a call adds to the history of a shard.
use Rattle.std.specs.Prelude.{◌≡◌, ◌+◌, Bool, false, List, [], map, Option, Some, None}
use Rattle.atomic_table.specs.Seated.{TableId}
use Rattle.turn_cell.specs.History.{History, entry_list}
use Rattle.turn_cell.specs.Passes.{CellView, PassView, Follows, TakesTurn, mine}
use Rattle.evict_core.specs.Machine.{Step}
use Rattle.evict_core.specs.History.{pins_taken, pins_given, pins_left, is_open_in, has_open}
use Rattle.flight_cache.specs.Meaning.{Meaning}
use Rattle.flight_cache.specs.Histories.{step_of, IsLegalUnder}
use Rattle.flight_cache.specs.declared.kept.Opening.{Opening}
use Rattle.flight_cache.specs.declared.kept.Entry.{Entry}

-- a pin: its key, the value that it holds, and the cell of the shard that it is of
pub record PinView (K V : Type 0) : Type 0 where
  pub key : K
  pub value : V
  pub cell : TableId

pub record TicketView (K : Type 0) : Type 0 where
  pub key : K
  pub cell : TableId

-- a shard's cell, and a pass of it
abbrev pub ShardView : Type 0 → Type 0
ShardView T = CellView (Opening T)

abbrev pub ShardPassView : Type 0 → Type 0 → Type 0
ShardPassView K T = PassView (Entry K) (Opening T)

module _ {K V T : Type 0} (meaning : Meaning K V T) where
  -- the steps that the pass gave
  abbrev pub own_steps : Opening T → ShardPassView K T → List (Step K V)
  own_steps opening pass = map (step_of meaning opening) (mine pass)

module _ {K V T : Type 0} (eq : K → K → Bool) (meaning : Meaning K V T) where
  -- The pass after a turn that gave just these steps, one or none, after turns that gave none.
  -- What it has seen then is legal, so an ask was answered as the machine does there. Of each key it holds the pins that they took more and those that they gave back less
  pub record GivesSteps (shard : ShardView T) (pass after : ShardPassView K T) (steps : List (Step K V)) : Type 0 where
    pub waited : ShardPassView K T
    pub waits : Follows pass waited []
    pub entry : Option (Entry K)
    pub takes : TakesTurn waited after entry
    pub are : map (step_of meaning shard.tag) (entry_list entry) ≡ steps
    pub legal : IsLegalUnder eq meaning shard.tag after.seen
    pub pins : (key : K) → pins_left eq (own_steps meaning shard.tag after) key + pins_given eq steps key ≡ pins_left eq (own_steps meaning shard.tag pass) key + pins_taken eq steps key
    pub claims : (key : K) → has_open eq (own_steps meaning shard.tag after) key ≡ is_open_in eq (has_open eq (own_steps meaning shard.tag pass) key) steps key

  -- no pin that the pass took is left, and no claim of its is open
  pub record HasGivenBack (shard : ShardView T) (pass : ShardPassView K T) : Type 0 where
    pub pins : (key : K) → pins_left eq (own_steps meaning shard.tag pass) key ≡ 0
    pub claims : (key : K) → has_open eq (own_steps meaning shard.tag pass) key ≡ false

  -- what a pass has seen is legal
  abbrev pub HasLegal : Option (Opening T) → History (Entry K) → Type 0
  HasLegal None history = Unit {0}
  HasLegal (Some opening) history = IsLegalUnder eq meaning opening history
