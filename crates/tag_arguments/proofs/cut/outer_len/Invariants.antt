use Rattle.std.proofs.Common.{◌≡◌, ◌+◌, ◌≤◌, drop}
use Rattle.tag_arguments.specs.Cuts.{outer_len}
use Rattle.tag_arguments.proofs.cut.outer_len.Given as goal

abbrev pub invariant-loop-i : goal.invariant-loop-i
invariant-loop-i l = record {
  passed : l.i + outer_len l.stop l.depth (drop l.i l.text) ≡ outer_len l.stop 0 l.text;
  shallow : l.depth ≤ l.i;
}
