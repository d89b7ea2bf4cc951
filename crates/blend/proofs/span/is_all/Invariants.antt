use Rattle.std.proofs.Common.{◌≡◌, ℕ, ◌<◌, true, get_or}
use Rattle.blend.proofs.span.is_all.Given as goal

abbrev pub invariant-loop-m : goal.invariant-loop-m
invariant-loop-m l = l.all ≡ true → (k : ℕ) → k < l.m-index → get_or l.cover k 0 ≡ l.value
