-- Public: what an ask gives, by its answer.
use Rattle.std.specs.Prelude.{◌≡◌, ◌∷◌, [], ◌⊎◌, Bool, true, false, Option, Some, None}
use Rattle.evict_core.specs.Machine.{Answer, Ask, Hard, ask_answer, holds_all}
use Rattle.evict_core.specs.Machine as machine
use Rattle.evict_core.specs.declared.hard_limit.HardLimit.{HardLimit}
use Rattle.flight_cache.specs.Meaning.{Meaning}
use Rattle.flight_cache.specs.Histories.{left_by, value_under}
use Rattle.flight_cache.specs.Calls.{ShardView, ShardPassView, GivesSteps}
use Rattle.flight_cache.specs.declared.pins.Asked.{Asked}
use Rattle.flight_cache.specs.declared.pins.Asked.TheVariants.{Hit, Make, OutOfMemory}

module _ {K V T : Type 0} (meaning : Meaning K V T) (tag : T) (key : K) where
  -- the pin of a hit has the key's value under the tag
  abbrev pub HasKeyValue : {M : Type 0} → Asked M K V T → Type 0
  HasKeyValue (Hit pin) = pin.value ≡ meaning.made tag key
  HasKeyValue (Make duty) = Unit {0}
  HasKeyValue OutOfMemory = Unit {0}

-- what an ask takes memory for: the value of a hit, and the key of a claim
abbrev pub takes_memory : Option Answer → Bool
takes_memory (Some machine.Hit) = true
takes_memory (Some machine.Claim) = true
takes_memory (Some machine.Crowded) = false
takes_memory None = false

module _ {K V T : Type 0} (eq : K → K → Bool) (meaning : Meaning K V T) (shard : ShardView T) (pass : ShardPassView K T) (key : K) (after : ShardPassView K T) where
  -- memory ran out at a turn: it gave no entry, and showed that the ask would be a hit or a claim
  pub record IsShortAsk : Type 0 where
    pub turn : GivesSteps eq meaning shard pass after []
    pub shown : takes_memory (ask_answer eq (left_by eq meaning shard.tag after.seen) key) ≡ true

  -- an ask at a turn is one entry, which says the answer; a hit has the key's value
  abbrev pub IsAskedAtTurn : {M : Type 0} → Asked M K V T → Type 0
  IsAskedAtTurn (Hit pin) = GivesSteps eq meaning shard pass after (Ask key machine.Hit ∷ []) × (pin.key ≡ key) × (pin.value ≡ value_under meaning shard.tag key)
  IsAskedAtTurn (Make (Some ticket)) = GivesSteps eq meaning shard pass after (Ask key machine.Claim ∷ []) × (ticket.key ≡ key)
  IsAskedAtTurn (Make None) = GivesSteps eq meaning shard pass after (Ask key machine.Crowded ∷ [])
  IsAskedAtTurn OutOfMemory = IsShortAsk

  -- an ask that waits; where memory ran out before it began, no turn was taken
  abbrev pub IsAsked : {M : Type 0} → Asked M K V T → Type 0
  IsAsked {M} (Hit pin) = IsAskedAtTurn {M = M} (Hit pin)
  IsAsked {M} (Make (Some ticket)) = IsAskedAtTurn {M = M} (Make (Some ticket))
  IsAsked {M} (Make None) = IsAskedAtTurn {M = M} (Make None)
  IsAsked {M} OutOfMemory = (after ≡ pass) ⊎ IsShortAsk

module _ {K V T : Type 0} (eq : K → K → Bool) (meaning : Meaning K V T) (shard : ShardView T) (pass : ShardPassView K T) (hard : Option HardLimit) (after : ShardPassView K T) where
  -- the hard limit was set, or the turn showed entries that pass it, and nothing was done
  abbrev pub IsHardSet : Bool → Type 0
  IsHardSet true = GivesSteps eq meaning shard pass after (Hard hard ∷ [])
  IsHardSet false = GivesSteps eq meaning shard pass after [] × (holds_all hard (left_by eq meaning shard.tag after.seen).entries ≡ false)

-- what an ask gives is of the shard
abbrev pub IsHomeAsk : {M K V T : Type 0} → ShardView T → Asked M K V T → Type 0
IsHomeAsk shard (Hit pin) = pin.cell ≡ shard.id
IsHomeAsk shard (Make (Some ticket)) = ticket.cell ≡ shard.id
IsHomeAsk shard (Make None) = Unit {0}
IsHomeAsk shard OutOfMemory = Unit {0}
