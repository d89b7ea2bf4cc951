use Rattle.std.proofs.Common.{◌≡◌, ◌++◌, map}
use Rattle.std.specs.List.{range_with_len}
use Rattle.generated_script.specs.Grid.{letter}
use Rattle.generated_script.proofs.font.add_letters.Given as goal

abbrev pub invariant-loop-i : goal.invariant-loop-i
invariant-loop-i l = l.glyphs ≡ l.initial.glyphs ++ map letter (range_with_len 0 l.i)
