-- The totals of four shards.
use Rattle.std.proofs.Common.{◌≡◌, ℕ, ◌+◌, ◌≤◌, min, refl, ap, ◌∙◌, arith}
use Rattle.evict_core.specs.declared.counts.Totals.{Totals}
use Rattle.flight_cache.specs.Shards.{Shards, each, total_sum, sum_of_totals}

held-sums : (a b c d limit : ℕ) → a ≤ b → c ≤ d → min (a + c) limit ≤ min (b + d) limit
held-sums a b c d limit first second = grind arith

-- the sums of what four shards' entries cost are within those of their budgets
pub sums-in-budget : (four : Shards Totals) → four.first.unpinned ≤ four.first.budget → four.second.unpinned ≤ four.second.budget → four.third.unpinned ≤ four.third.budget → four.fourth.unpinned ≤ four.fourth.budget
    → (sum_of_totals four).unpinned ≤ (sum_of_totals four).budget
sums-in-budget four a b c d =
    held-sums _ _ _ _ _ (held-sums _ _ _ _ _ (held-sums _ _ _ _ _ a b) c) d

same-sums : (a b c d : Totals) → a ≡ c → b ≡ d → total_sum a b ≡ total_sum c d
same-sums a b c d first second = ap (λ (x : Totals). total_sum x b) first ∙ ap (λ (y : Totals). total_sum c y) second

-- the budgets that four shards' totals tell
pub budgets-are : (a b c d : Totals) (four : Shards Totals) → a ≡ four.first → b ≡ four.second → c ≡ four.third → d ≡ four.fourth
    → (let budgets : Shards ℕ = record { first = a.budget; second = b.budget; third = c.budget; fourth = d.budget } in budgets) ≡ each (λ (t : Totals). t.budget) four
budgets-are a b c d four first second third fourth = rw (first, second, third, fourth) refl

-- three sums in a row are the sum of four
pub sums-are : (s t u a b c d : Totals) (four : Shards Totals) → s ≡ total_sum a b → t ≡ total_sum s c → u ≡ total_sum t d
    → a ≡ four.first → b ≡ four.second → c ≡ four.third → d ≡ four.fourth → u ≡ sum_of_totals four
sums-are s t u a b c d four one two three first second third fourth =
    three ∙ same-sums _ _ _ _ (two ∙ same-sums _ _ _ _ (one ∙ same-sums _ _ _ _ first second) third) fourth
