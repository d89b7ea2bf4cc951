-- Public: what is recorded of a world: the histories of its shards, of which the single-fill law speaks, and what its actors saw of the track's history.
use Rattle.std.specs.Prelude.{◌≡◌, ℕ, true, List, [], ◌∷◌, ◌++◌, All, Some}
use Rattle.bdf_font.specs.Fonts.{FontValue}
use Rattle.turn_cell.specs.History.{IsPrefix}
use Rattle.evict_core.specs.History.{replay}
use Rattle.evict_core.specs.Laws.{IsEvictedWithin, IsLostWithin}
use Rattle.evict_core.specs.Machine as machine
use Rattle.flight_cache.specs.Meaning.{Meaning}
use Rattle.world_core.specs.CacheLaws.{StandFor}
use Rattle.world_core.specs.Keys.{equal_world_keys}
use Rattle.world_core.specs.Histories.{ShardHistories, ShardHistory, opening_limits, with_steps_of}
use Rattle.world_core.specs.States.{LookState, WorldState, opening_world}
use Rattle.world_core.specs.Steps.{after_steps}
use Rattle.world_core.specs.Tellings.{IsValidStep}
use Rattle.world_core.specs.declared.world_keys.WorldKey.{WorldKey}
use Rattle.world_core.specs.declared.world_keys.WorldValue.{WorldValue}
use Rattle.world_core.specs.declared.steps.Step.{Step}

-- between two claims of a key, by whichever actors, stands its fail or an eviction of it
abbrev pub ClaimsKeysOnce : ℕ × ℕ → ShardHistory → Type 0
ClaimsKeysOnce limits history = (before between after : ShardHistory) (actor other : ℕ) (k again : WorldKey)
    → history ≡ before ++ (actor, machine.Ask k machine.Claim) ∷ (between ++ (other, machine.Ask again machine.Claim) ∷ after)
    → equal_world_keys k again ≡ true
    → IsLostWithin equal_world_keys (replay equal_world_keys limits.0 limits.1 (before ++ (actor, machine.Ask k machine.Claim) ∷ [])) between k

-- and between two fills an eviction
abbrev pub FillsKeysOnce : ℕ × ℕ → ShardHistory → Type 0
FillsKeysOnce limits history = (before between after : ShardHistory) (actor other : ℕ) (k again : WorldKey) (c d : ℕ) (v w : WorldValue)
    → history ≡ before ++ (actor, machine.Fill k c v) ∷ (between ++ (other, machine.Fill again d w) ∷ after)
    → equal_world_keys k again ≡ true
    → IsEvictedWithin equal_world_keys (replay equal_world_keys limits.0 limits.1 (before ++ (actor, machine.Fill k c v) ∷ [])) between k

-- the track's history begins with what each actor's last look saw
abbrev pub BeginsWithLooks : {T : Type 0} → WorldState T → Type 0
BeginsWithLooks s = (actor : ℕ) (look : LookState) → s.looks actor ≡ Some look → IsPrefix look.history s.history

module _ {T : Type 0} (meaning : Meaning WorldKey WorldValue T) where
  -- The shards stand for these histories, which began with these limits. No key was filled twice in its shard without an eviction between, nor claimed twice without its fail or an eviction.
  -- And the track's history begins with what each actor's last look saw
  pub record IsRecorded (s : WorldState T) (limits : ℕ → ℕ × ℕ) (histories : ShardHistories) : Type 0 where
    pub stand : StandFor equal_world_keys meaning s.caches limits histories
    pub claims : (n : ℕ) → ClaimsKeysOnce (limits n) (histories n)
    pub fills : (n : ℕ) → FillsKeysOnce (limits n) (histories n)
    pub looks : BeginsWithLooks s

  -- after each list of steps from a new world this is recorded: the histories that these steps made
  abbrev pub StepsAreRecorded : Type 0
  StepsAreRecorded = (tag : T) (fonts : List FontValue) (budget : ℕ) (steps : List Step) → All (IsValidStep fonts) steps
      → IsRecorded (after_steps meaning (opening_world tag budget) steps) (opening_limits budget) (with_steps_of meaning (opening_world tag budget) steps (λ _. []))
