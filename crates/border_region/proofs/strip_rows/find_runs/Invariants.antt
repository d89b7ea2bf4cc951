use Rattle.std.proofs.Common.{take}
use Rattle.border_region.specs.StripRows.{AreRowRuns}
use Rattle.border_region.proofs.strip_rows.find_runs.Given as goal

abbrev pub invariant-loop-span : goal.invariant-loop-span
invariant-loop-span l = AreRowRuns l.wide.spans.items l.wide.runs l.j (take l.span-index l.live) l.found.items
