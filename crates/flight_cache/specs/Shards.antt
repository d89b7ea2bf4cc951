-- Public: four of a kind, one for each shard, and what is said of them together.
use Rattle.std.specs.Prelude.{◌≡◌, ℕ, ◌+◌, ◌/◌, ◌<◌, ◌≤◌, ◌==◌, ◌&&◌, if◌then◌else◌, min, Bool, true, List, [], Option, Some, None}
use Rattle.atomic_table.specs.Seated.{TableId}
use Rattle.evict_core.specs.Machine.{Step, last_count}
use Rattle.evict_core.specs.History.{times_named, pins_left, has_open}
use Rattle.evict_core.specs.declared.counts.Counts.{Counts}
use Rattle.evict_core.specs.declared.counts.Totals.{Totals}
use Rattle.evict_core.specs.declared.hard_limit.HardLimit.{HardLimit}
use Rattle.turn_cell.specs.History.{IsPrefix, IsBelow}
use Rattle.turn_cell.specs.Passes.{IsOf, Extends}
use Rattle.flight_cache.specs.Meaning.{Meaning, shard_count, shard_of}
use Rattle.flight_cache.specs.Answers.{IsHardSet}
use Rattle.flight_cache.specs.Histories.{IsLegalUnder}
use Rattle.flight_cache.specs.Calls.{ShardView, ShardPassView, GivesSteps, HasGivenBack, own_steps}

pub record Shards (X : Type 0) : Type 0 where
  pub first : X
  pub second : X
  pub third : X
  pub fourth : X

module _ {X : Type 0} where
  -- what shard n has
  abbrev pub at : Shards X → ℕ → X
  at four n = if n == 0 then four.first else (if n == 1 then four.second else (if n == 2 then four.third else four.fourth))

  -- with x for shard n
  abbrev pub with_at : Shards X → ℕ → X → Shards X
  with_at four n x = if n == 0 then record four { first = x } else (if n == 1 then record four { second = x } else (if n == 2 then record four { third = x } else record four { fourth = x }))

abbrev pub each : {X Y : Type 0} → (X → Y) → Shards X → Shards Y
each f four = record { first = f four.first; second = f four.second; third = f four.third; fourth = f four.fourth }

abbrev pub both : {X Y Z : Type 0} → (X → Y → Z) → Shards X → Shards Y → Shards Z
both f four other = record { first = f four.first other.first; second = f four.second other.second; third = f four.third other.third; fourth = f four.fourth other.fourth }

-- the part of shard n in a limit
abbrev pub part : ℕ → ℕ → ℕ
part limit n = (limit + n) / shard_count

-- the part of shard n in a hard limit: of what entries may cost, and not of what one counts for that is being made
abbrev pub hard_part : Option HardLimit → ℕ → Option HardLimit
hard_part None n = None
hard_part (Some hard) n = Some (record hard { cost = part hard.cost n })

-- the fewest entries that a cache is opened with
abbrev pub min_cache_entries : ℕ
min_cache_entries = 16

-- the last value of the number of entries
abbrev pub last_length : ℕ
last_length = 4294967295

-- a cache: its shards, and the tag of all its values
pub record CacheView (T : Type 0) : Type 0 where
  pub shards : Shards (ShardView T)
  pub tag : T

abbrev pub CachePassView : Type 0 → Type 0 → Type 0
CachePassView K T = Shards (ShardPassView K T)

module _ {K T : Type 0} where
  -- the pass comes from the cache
  pub record IsCacheOf (cache : CacheView T) (pass : CachePassView K T) : Type 0 where
    pub first : IsOf cache.shards.first pass.first
    pub second : IsOf cache.shards.second pass.second
    pub third : IsOf cache.shards.third pass.third
    pub fourth : IsOf cache.shards.fourth pass.fourth

  -- the four passes have one number, and drew as many numbers
  pub record AreAlike (pass : CachePassView K T) : Type 0 where
    pub second_number : pass.second.number ≡ pass.first.number
    pub third_number : pass.third.number ≡ pass.first.number
    pub fourth_number : pass.fourth.number ≡ pass.first.number
    pub second_next : pass.second.next ≡ pass.first.next
    pub third_next : pass.third.next ≡ pass.first.next
    pub fourth_next : pass.fourth.next ≡ pass.first.next

module _ {T : Type 0} where
  -- it is shard n of the cache with this tag
  pub record IsShardOf (tag : T) (shard : ShardView T) (n : ℕ) : Type 0 where
    pub number : shard.tag.shard ≡ n
    pub tagged : shard.tag.tag.value ≡ tag

  pub record AreShardsOf (tag : T) (shards : Shards (ShardView T)) : Type 0 where
    pub first : IsShardOf tag shards.first 0
    pub second : IsShardOf tag shards.second 1
    pub third : IsShardOf tag shards.third 2
    pub fourth : IsShardOf tag shards.fourth 3

module _ {K V T : Type 0} (eq : K → K → Bool) (meaning : Meaning K V T) where
  -- each shard's pass gave these steps
  pub record EachGives (shards : Shards (ShardView T)) (pass after : CachePassView K T) (steps : ℕ → List (Step K V)) : Type 0 where
    pub first : GivesSteps eq meaning shards.first pass.first after.first (steps 0)
    pub second : GivesSteps eq meaning shards.second pass.second after.second (steps 1)
    pub third : GivesSteps eq meaning shards.third pass.third after.third (steps 2)
    pub fourth : GivesSteps eq meaning shards.fourth pass.fourth after.fourth (steps 3)

  -- Each shard got its part of the hard limit, or its entries passed that part and it kept what it had. It is said whether all got it
  pub record IsHardSetInEach (shards : Shards (ShardView T)) (pass : CachePassView K T) (hard : Option HardLimit) (after : CachePassView K T) (set : Bool) : Type 0 where
    pub sets : Shards Bool
    pub first : IsHardSet eq meaning shards.first pass.first (hard_part hard 0) after.first sets.first
    pub second : IsHardSet eq meaning shards.second pass.second (hard_part hard 1) after.second sets.second
    pub third : IsHardSet eq meaning shards.third pass.third (hard_part hard 2) after.third sets.third
    pub fourth : IsHardSet eq meaning shards.fourth pass.fourth (hard_part hard 3) after.fourth sets.fourth
    pub all : set ≡ (sets.first && sets.second && sets.third && sets.fourth)

  -- each shard's pass has nothing to give back
  pub record EachHasGivenBack (shards : Shards (ShardView T)) (pass : CachePassView K T) : Type 0 where
    pub first : HasGivenBack eq meaning shards.first pass.first
    pub second : HasGivenBack eq meaning shards.second pass.second
    pub third : HasGivenBack eq meaning shards.third pass.third
    pub fourth : HasGivenBack eq meaning shards.fourth pass.fourth

  -- the pass holds a pin for each place of these keys
  abbrev pub HoldsEach : CacheView T → CachePassView K T → List K → Type 0
  HoldsEach cache pass keys = (key : K) → let n = shard_of (meaning.numbers key) in
      times_named eq key keys ≤ pins_left eq (own_steps meaning (at cache.shards n).tag (at pass n)) key

  -- The pass may wait for the key: each key whose claim it has open is of a lower rank. So whoever makes the key waits for none of these
  abbrev pub HasLowerOpen : CacheView T → CachePassView K T → K → Type 0
  HasLowerOpen cache pass key = (other : K) → let n = shard_of (meaning.numbers other) in
      has_open eq (own_steps meaning (at cache.shards n).tag (at pass n)) other ≡ true → meaning.rank other < meaning.rank key

  -- the pass after calls: one of the cache with its number, and with nothing to give back where it had nothing before
  pub record GivesBack (cache : CacheView T) (pass after : CachePassView K T) : Type 0 where
    pub cell : IsCacheOf cache after
    pub number : after.first.number ≡ pass.first.number
    pub given : EachHasGivenBack cache.shards pass → EachHasGivenBack cache.shards after

  -- what the pass has seen of each shard is legal
  pub record EachIsLegal (shards : Shards (ShardView T)) (pass : CachePassView K T) : Type 0 where
    pub first : IsLegalUnder eq meaning shards.first.tag pass.first.seen
    pub second : IsLegalUnder eq meaning shards.second.tag pass.second.seen
    pub third : IsLegalUnder eq meaning shards.third.tag pass.third.seen
    pub fourth : IsLegalUnder eq meaning shards.fourth.tag pass.fourth.seen

module _ {K T : Type 0} where
  -- what a pass has seen of each shard begins what the other has seen
  pub record EachBegins (pass after : CachePassView K T) : Type 0 where
    pub first : IsPrefix pass.first.seen after.first.seen
    pub second : IsPrefix pass.second.seen after.second.seen
    pub third : IsPrefix pass.third.seen after.third.seen
    pub fourth : IsPrefix pass.fourth.seen after.fourth.seen

  -- each number in what the pass has seen of each shard is below this one of the shard's pass
  pub record EachIsBelow (bound : ShardPassView K T → ℕ) (pass : CachePassView K T) : Type 0 where
    pub first : IsBelow (bound pass.first) pass.first.seen
    pub second : IsBelow (bound pass.second) pass.second.seen
    pub third : IsBelow (bound pass.third) pass.third.seen
    pub fourth : IsBelow (bound pass.fourth) pass.fourth.seen

  -- what the pass has seen of each shard extends what it knows
  pub record EachExtends (pass : CachePassView K T) : Type 0 where
    pub first : Extends pass.first pass.first.seen
    pub second : Extends pass.second pass.second.seen
    pub third : Extends pass.third pass.third.seen
    pub fourth : Extends pass.fourth pass.fourth.seen

module _ {K V T : Type 0} (meaning : Meaning K V T) where
  -- a key's pin or ticket with this cell is of the cache: of the shard that has the key
  abbrev pub IsHome : CacheView T → K → TableId → Type 0
  IsHome cache key cell = cell ≡ (at cache.shards (shard_of (meaning.numbers key))).id

  -- each shard's pass gave the same steps as before
  pub record EachGaveAsMuch (shards : Shards (ShardView T)) (pass after : CachePassView K T) : Type 0 where
    pub first : own_steps meaning shards.first.tag after.first ≡ own_steps meaning shards.first.tag pass.first
    pub second : own_steps meaning shards.second.tag after.second ≡ own_steps meaning shards.second.tag pass.second
    pub third : own_steps meaning shards.third.tag after.third ≡ own_steps meaning shards.third.tag pass.third
    pub fourth : own_steps meaning shards.fourth.tag after.fourth ≡ own_steps meaning shards.fourth.tag pass.fourth

  -- each shard's pass gave nothing
  pub record HasNothing (shards : Shards (ShardView T)) (pass : CachePassView K T) : Type 0 where
    pub first : own_steps meaning shards.first.tag pass.first ≡ []
    pub second : own_steps meaning shards.second.tag pass.second ≡ []
    pub third : own_steps meaning shards.third.tag pass.third ≡ []
    pub fourth : own_steps meaning shards.fourth.tag pass.fourth ≡ []

-- each shard has its part of both limits
pub record HasLimits {T : Type 0} (shards : Shards (ShardView T)) (entries budget : ℕ) : Type 0 where
  pub entries_are : each (λ s. s.tag.entries) shards ≡ record { first = part entries 0; second = part entries 1; third = part entries 2; fourth = part entries 3 }
  pub budgets_are : each (λ s. s.tag.budget) shards ≡ record { first = part budget 0; second = part budget 1; third = part budget 2; fourth = part budget 3 }

-- the sums, each held at the last value of its type
abbrev pub count_sum : Counts → Counts → Counts
count_sum one other = record {
  hits = min (one.hits + other.hits) last_count;
  claims = min (one.claims + other.claims) last_count;
  fills = min (one.fills + other.fills) last_count;
  fails = min (one.fails + other.fails) last_count;
  crowded = min (one.crowded + other.crowded) last_count;
  evictions = min (one.evictions + other.evictions) last_count;
}

abbrev pub total_sum : Totals → Totals → Totals
total_sum one other = record {
  entries = min (one.entries + other.entries) last_length;
  unpinned = min (one.unpinned + other.unpinned) last_count;
  pinned = min (one.pinned + other.pinned) last_count;
  budget = min (one.budget + other.budget) last_count;
  counts = count_sum one.counts other.counts;
}

abbrev pub sum_of_totals : Shards Totals → Totals
sum_of_totals four = total_sum (total_sum (total_sum four.first four.second) four.third) four.fourth
