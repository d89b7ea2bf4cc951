use Rattle.std.proofs.Common.{◌≡◌}
use Rattle.border_region.specs.StripRows.{AreLive}
use Rattle.border_region.proofs.strip_rows.StripRows.begin.Given as goal

abbrev pub invariant-loop-s : goal.invariant-loop-s
invariant-loop-s l = record {
  begun : l.self.begun ≡ l.s;
  live : AreLive l.j l.spans l.s l.self.live.items;
}
