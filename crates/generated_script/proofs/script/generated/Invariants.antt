use Rattle.std.proofs.Common.{◌≡◌, ◌*◌, ◌++◌, flat_map}
use Rattle.std.specs.List.{range_with_len}
use Rattle.generated_script.specs.Draws.{state_after_draws}
use Rattle.generated_script.specs.Generated.{header, generated_line}
use Rattle.generated_script.proofs.script.generated.Given as goal

abbrev pub invariant-loop-i : goal.invariant-loop-i
invariant-loop-i l = (l.script.items ≡ header ++ flat_map (generated_line l.seed) (range_with_len 0 l.i)) × (l.draws.state ≡ state_after_draws (6 * l.i) l.seed)
