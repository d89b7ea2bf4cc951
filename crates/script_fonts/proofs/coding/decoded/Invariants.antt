use Rattle.std.proofs.Common.{◌≡◌, ◌++◌, length}
use Rattle.script_fonts.specs.Coding.{decoded}
use Rattle.script_fonts.proofs.coding.decoded.Given as goal

abbrev pub invariant-loop-rest : goal.invariant-loop-rest
invariant-loop-rest l = l.bytes.items ++ decoded l.rest ≡ decoded l.fn.characters

abbrev pub decreases-loop-rest : goal.decreases-loop-rest
decreases-loop-rest l = length l.rest
