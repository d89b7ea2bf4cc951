use Rattle.std.proofs.Common.{◌≡◌, ◌+◌, ◌==◌, drop}
use Rattle.std.specs.List.{position_or_len}
use Rattle.override_tags.proofs.cut.len_before_tags.Given as goal

abbrev pub invariant-loop-i : goal.invariant-loop-i
invariant-loop-i l = l.i + position_or_len (λ c. c == 92) (drop l.i l.text) ≡ position_or_len (λ c. c == 92) l.text
