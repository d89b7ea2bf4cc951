use Rattle.std.proofs.Common.{◌≡◌, ◌++◌, drop}
use Rattle.play_report.specs.JsonReports.{cache_members}
use Rattle.play_report.proofs.json_report.add_caches.Given as goal

abbrev pub invariant-loop-place : goal.invariant-loop-place
invariant-loop-place l = record {
  before : l.line.before ≡ l.fn.line.before;
  tokens : l.line.tokens ++ cache_members l.place (drop l.place l.totals) ≡ l.fn.line.tokens ++ cache_members 0 l.totals;
}
