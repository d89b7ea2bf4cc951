use Rattle.std.proofs.Common.{inl, ap}
use Rattle.ass_io.specs.declared.sink.Put.TheVariants as put
use Rattle.run_reports.proofs.changes.stream.Goals as goal

pub returns-in-Ok : goal.returns-in-Ok
returns-in-Ok g c = record {
  answer = c.in-Ok.answer;
  middle = g.R.Sink.state c.put_changes.new.report;
  lines = c.in-Ok.ensures.put;
  ended = c.ended.ensures;
}

pub returns-in-Err : goal.returns-in-Err
returns-in-Err g c = record {
  answer = put.OutOfMemory;
  middle = g.R.Sink.state c.put_changes.new.report;
  lines = inl (ap (λ report. g.R.Sink.state report) c.in-Err.ensures.none);
  ended = c.say_memory.ensures;
}
