use Rattle.std.proofs.Common.{refl, sym}
use Rattle.play_workers.proofs.worker.Worker.work.Goals as goal

pub returns : goal.returns
returns g c = record {
  pass = c.in-Some.pass;
  is = sym c.in-Some.ensures.value;
  pass_after = c.do_part-pass.result.0;
  is_after = c.in-None.ensures.after;
  role = refl;
  done = c.do_part-pass.ensures;
}
