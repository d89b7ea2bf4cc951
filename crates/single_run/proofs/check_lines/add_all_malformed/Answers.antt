use Rattle.std.specs.Prelude.{string_bytes}
use Rattle.ass_events.specs.Events.{line_fault}
use Rattle.single_run.specs.CheckReports.{malformed_line}
use Rattle.ass_num.proofs.ListLemmas.{flat_more}
use Rattle.single_run.proofs.check_lines.add_all_malformed.Goals as goal

pub loop-i-preserved : goal.loop-i-preserved
loop-i-preserved c =
    flat_more (λ k. malformed_line k (line_fault c.args.script.now k)) (string_bytes c.args.report.now) (string_bytes c.loop-i.report) (string_bytes c.add_malformed.new.report) c.loop-i.i c.loop-i.invariant c.in_ok-add_malformed.ensures
