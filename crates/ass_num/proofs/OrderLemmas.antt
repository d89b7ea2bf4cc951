-- The tests of order on whole numbers, and the facts that they decide.
use Rattle.std.proofs.Common.{◌≡◌, true, false, ℤ, ◌≤ℤ◌, ◌<ℤ◌, List, ◌∷◌, refl, arith, int_lt, int_le}
use Rattle.std.proofs.lemmas.Int.{ints}
use Rattle.ass_num.specs.Regions.{in_runs}
use Rattle.ass_num.specs.declared.region.Run.{Run}

pub lt_true : (a b : ℤ) → a <ℤ b → int_lt a b ≡ true
lt_true a b h = grind (arith, ints)

pub lt_false : (a b : ℤ) → b ≤ℤ a → int_lt a b ≡ false
lt_false a b h = grind (arith, ints)

pub le_true : (a b : ℤ) → a ≤ℤ b → int_le a b ≡ true
le_true a b h = grind (arith, ints)

pub le_false : (a b : ℤ) → b <ℤ a → int_le a b ≡ false
le_false a b h = grind (arith, ints)

pub lt_is : (a b : ℤ) → int_lt a b ≡ true → a <ℤ b
lt_is a b h = grind (arith, ints)

pub lt_not : (a b : ℤ) → int_lt a b ≡ false → b ≤ℤ a
lt_not a b h = grind (arith, ints)

pub le_is : (a b : ℤ) → int_le a b ≡ true → a ≤ℤ b
le_is a b h = grind (arith, ints)

pub le_not : (a b : ℤ) → int_le a b ≡ false → b <ℤ a
le_not a b h = grind (arith, ints)

-- a sample of the first run of a row
pub first_in : (r : Run) (rs : List Run) (i : ℤ) → r.from ≤ℤ i → i <ℤ r.to → in_runs (r ∷ rs) i ≡ true
first_in r rs i a b = rw (le_true r.from i a, lt_true i r.to b) refl
