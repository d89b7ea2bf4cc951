use Rattle.std.proofs.Common.{refl}
use Rattle.run_words.specs.Words.{texts}
use Rattle.single_run.specs.Runs.{sink_change}
use Rattle.run_reports.specs.AskedJobs.{IsToldOtherwise}
use Rattle.run_reports.proofs.AskedLemmas.{otherwise_run, plain_run, wanting_run}
use Rattle.run_reports.proofs.run.run_asked.Goals as goal

pub do_into-requires-clause-within : goal.do_into-requires-clause-within
do_into-requires-clause-within g c κs within = let so : IsToldOtherwise (texts c.args.words.now) c.in-Ok-Some.asked = rw c.in-Ok-Some.field-0-is at c.in-Ok-Some.ensures in so.within

pub do_into-requires-clause-reports : goal.do_into-requires-clause-reports
do_into-requires-clause-reports g c κs within = let so : IsToldOtherwise (texts c.args.words.now) c.in-Ok-Some.asked = rw c.in-Ok-Some.field-0-is at c.in-Ok-Some.ensures in so.reports

pub returns-in-Ok-Some : goal.returns-in-Ok-Some
returns-in-Ok-Some g c =
    let so : IsToldOtherwise (texts c.args.words.now) c.in-Ok-Some.asked = rw c.in-Ok-Some.field-0-is at c.in-Ok-Some.ensures in
    otherwise_run (g.S.Shelf.told c.args.shelf.now) _ (texts c.args.words.now) _ _ _ _ c.do_into.result c.in-Ok-Some.asked so c.do_into.ensures

pub returns-in-Ok-None : goal.returns-in-Ok-None
returns-in-Ok-None g c =
    let plain = rw c.in-Ok-None.field-0-is at c.in-Ok-None.ensures in
    let index = g.I.Sink.state c.args.index.now in
    plain_run (g.S.Shelf.told c.args.shelf.now) _ (texts c.args.words.now) _ (sink_change index index) _ (g.F.PipedSink.closed c.run_of_words.new.frames) _ c.run_of_words.result plain refl refl c.run_of_words.ensures

pub returns-in-Err : goal.returns-in-Err
returns-in-Err g c =
    wanting_run (g.S.Shelf.told c.args.shelf.now) (g.S.Shelf.log c.args.shelf.now) (texts c.args.words.now) (g.F.Sink.state c.args.frames.now) (g.I.Sink.state c.args.index.now)
    (sink_change (g.R.Sink.state c.args.report.now) (g.R.Sink.state c.say_memory.new.report)) (g.F.PipedSink.closed c.args.frames.now) c.say_memory.result c.say_memory.ensures
