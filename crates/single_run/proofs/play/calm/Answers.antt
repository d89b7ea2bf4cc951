use Rattle.std.proofs.Common.{◌∙◌, Err, ap}
use Rattle.run_words.specs.Words.{job_of, texts}
use Rattle.single_run.proofs.PieceLemmas.{not_done, other_pieces_after}
use Rattle.single_run.proofs.Runs.{decides, other_reported, read_after, run_after, written_after}
use Rattle.single_run.specs.Runs.{sink_change}
use Rattle.single_run.proofs.play.calm.Goals as goal

pub returns-in-Some-clause-other_report : goal.returns-in-Some-clause-other_report
returns-in-Some-clause-other_report g c = λ none.
    other_reported _ c.in-Some.outcome c.finish.result _ _ _ _ c.in-Some.ensures.other_words c.in-Some.ensures.left none c.finish.ensures.report

pub returns-in-Some-clause-run : goal.returns-in-Some-clause-run
returns-in-Some-clause-run g c = λ work asked.
    run_after _ _ work _ _ c.in-Some.outcome c.finish.result (c.in-Some.ensures.run work asked) c.finish.ensures.answer c.finish.ensures.report c.finish.ensures.pieces

pub returns-in-Some-clause-decided : goal.returns-in-Some-clause-decided
returns-in-Some-clause-decided g c = λ work asked stays shows reports.
    let report = sink_change (g.R.Sink.state c.args.report.now) (g.R.Sink.state c.finish.new.report) in
    let run = run_after _ _ work _ report c.in-Some.outcome c.finish.result (c.in-Some.ensures.run work asked) c.finish.ensures.answer c.finish.ensures.report c.finish.ensures.pieces in
    decides c.files_decide.ensures.one _ _ work _ _ _ _ c.finish.result run
    (read_after c.in-Some.outcome c.finish.result _ _ c.finish.ensures.answer c.in-Some.ensures.read)
    (written_after c.in-Some.outcome c.finish.result _ _ c.finish.ensures.answer c.in-Some.ensures.write)
    stays shows reports

pub returns-in-Some-clause-other_pieces : goal.returns-in-Some-clause-other_pieces
returns-in-Some-clause-other_pieces g c = λ why asked.
    other_pieces_after why c.in-Some.outcome c.finish.result _ _ (λ done. not_done (job_of (texts c.args.words.now)) (asked ∙ ap Err done)) (c.in-Some.ensures.other_words why asked) c.finish.ensures.answer c.finish.ensures.pieces
