-- Public: what the keys of a cache mean, and which shard has a key.
use Rattle.std.specs.Prelude.{ℕ, ◌+◌, ◌*◌, ◌/◌, ◌%◌, min, List, [], ◌∷◌, length}
use Rattle.evict_core.specs.Machine.{max_cost}

-- The value of each key under a tag, what a value costs, the numbers that tell a key's shard, and its rank: while the value of a key is made, only keys of higher ranks
-- are waited for
pub record Meaning (K V T : Type 0) : Type 0 where
  pub made : T → K → V
  pub cost : V → ℕ
  pub numbers : K → List ℕ
  pub rank : K → ℕ

-- what a key takes for each of its numbers: of a drawing, whose segments take the most, there lie at most so many bytes for each
abbrev pub number_cost : ℕ
number_cost = 20

-- what an entry costs, its key and its value, held at the greatest cost
abbrev pub entry_cost : {K V T : Type 0} → Meaning K V T → K → V → ℕ
entry_cost meaning key value = min max_cost (meaning.cost value + number_cost * length (meaning.numbers key))

-- how many shards a cache has
abbrev pub shard_count : ℕ
shard_count = 4

-- a sum stays below this
abbrev pub sum_bound : ℕ
sum_bound = 4294967296

-- what the sum is multiplied by before a number is added
abbrev pub sum_factor : ℕ
sum_factor = 31

-- the shard is told by the sum's bits from this one on
abbrev pub shard_unit : ℕ
shard_unit = 65536

-- the greatest count of numbers
abbrev pub last_number_count : ℕ
last_number_count = 4294967295

-- the sum of a key's numbers, and how many they are
pub record SumView : Type 0 where
  pub sum : ℕ
  pub count : ℕ

-- that of none
abbrev pub no_numbers : SumView
no_numbers = record { sum = 0; count = 0 }

-- with one number more
abbrev pub mixed : SumView → ℕ → SumView
mixed s number = record { sum = (s.sum * sum_factor + number) % sum_bound; count = min last_number_count (s.count + 1) }

-- with these numbers
abbrev pub mixed_all : SumView → List ℕ → SumView
mixed_all s [] = s
mixed_all s (n ∷ ns) = mixed_all (mixed s n) ns

-- the shard that a sum tells
abbrev pub shard_at : SumView → ℕ
shard_at s = s.sum / shard_unit % shard_count

-- the shard of a key with these numbers
abbrev pub shard_of : List ℕ → ℕ
shard_of numbers = shard_at (mixed_all no_numbers numbers)
