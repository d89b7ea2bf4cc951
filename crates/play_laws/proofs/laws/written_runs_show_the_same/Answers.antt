use Rattle.play_laws.proofs.WrittenRuns.{written_runs}
use Rattle.play_laws.proofs.laws.written_runs_show_the_same.Goals as goal

pub returns : goal.returns
returns c = written_runs c.rewritten_scripts_show_the_same.ensures.read
