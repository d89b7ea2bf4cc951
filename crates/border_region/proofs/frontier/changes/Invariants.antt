use Rattle.std.proofs.Common.{◌≤ℤ◌}
use Rattle.border_region.proofs.FrontierLemmas.{HasChanged}
use Rattle.border_region.proofs.frontier.changes.Given as goal

abbrev pub invariant-loop-j : goal.invariant-loop-j
invariant-loop-j l = record {
  low : l.region.top ≤ℤ l.j;
  high : l.j ≤ℤ l.j-end;
  found : HasChanged l.region l.j l.found.items;
}
