use Rattle.std.proofs.Common.{◌≡◌, ◌++◌, drop, string_bytes}
use Rattle.play_report.specs.Reports.{cache_lines}
use Rattle.play_report.proofs.report.add_caches.Given as goal

abbrev pub invariant-loop-place : goal.invariant-loop-place
invariant-loop-place l = string_bytes l.report ++ cache_lines l.place (drop l.place l.totals) ≡ string_bytes l.fn.report ++ cache_lines 0 l.totals
