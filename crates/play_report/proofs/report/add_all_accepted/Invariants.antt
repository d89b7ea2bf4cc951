use Rattle.std.proofs.Common.{◌≡◌, ◌++◌, drop, string_bytes}
use Rattle.play_report.specs.Reports.{accepted_lines}
use Rattle.play_report.proofs.report.add_all_accepted.Given as goal

abbrev pub invariant-loop-orders : goal.invariant-loop-orders
invariant-loop-orders l = string_bytes l.report ++ accepted_lines (drop l.orders-index l.times) ≡ string_bytes l.fn.report ++ accepted_lines l.times
