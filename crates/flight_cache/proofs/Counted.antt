-- How many numbers a sum counted.
use Rattle.std.proofs.Common.{◌≡◌, ℕ, ◌+◌, ◌*◌, ◌≤◌, List, [], ◌∷◌, length, ap, ◌∙◌, arith}
use Rattle.std.specs.Prelude.{min}
use Rattle.evict_core.specs.Machine.{max_cost}
use Rattle.flight_cache.specs.Meaning.{SumView, last_number_count, mixed, mixed_all, no_numbers, number_cost}

pub counted : (s : SumView) (numbers : List ℕ) → s.count ≤ last_number_count → (mixed_all s numbers).count ≡ min last_number_count (s.count + length numbers)
counted s [] within = omega (arith, within)
counted s (n ∷ numbers) within =
    let more = counted (mixed s n) numbers (omega arith) in
    omega (arith, more, within)

module _ (s : SumView) (numbers : List ℕ) (is : s ≡ mixed_all no_numbers numbers) where
  count-is : s.count ≡ min last_number_count (length numbers)
  count-is =
      let count : s.count ≡ min last_number_count (0 + length numbers) = ap (λ (t : SumView). t.count) is ∙ counted no_numbers numbers (omega arith) in
      omega (arith, count)

  pub count-below : s.count ≤ last_number_count
  count-below = let count = count-is in omega (arith, count)

  -- at so many numbers the greatest cost is passed
  pub priced : (cost key : ℕ) → key ≡ number_cost * s.count → min (cost + key) max_cost ≡ min max_cost (cost + number_cost * length numbers)
  priced cost key are = let count = count-is in omega (arith, count, are)
