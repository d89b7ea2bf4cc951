use Rattle.std.proofs.Common.{◌≡◌, ◌++◌, flat_map}
use Rattle.std.specs.Prelude.{string_bytes}
use Rattle.std.specs.List.{range_with_len}
use Rattle.ass_events.specs.Events.{line_fault}
use Rattle.single_run.specs.CheckReports.{malformed_line}
use Rattle.single_run.proofs.check_lines.add_all_malformed.Given as goal

abbrev pub invariant-loop-i : goal.invariant-loop-i
invariant-loop-i l =
    string_bytes l.report ≡ string_bytes l.initial.report ++ flat_map (λ k. malformed_line k (line_fault l.script k)) (range_with_len 0 l.i)
