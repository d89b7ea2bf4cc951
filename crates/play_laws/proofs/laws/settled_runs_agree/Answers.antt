use Rattle.play_laws.proofs.EarlyRuns.{early_runs_agree}
use Rattle.play_laws.proofs.RunLemmas.{runs_agree}
use Rattle.play_laws.proofs.laws.settled_runs_agree.Goals as goal

pub returns : goal.returns
returns c = record {
  done = λ told one_log other_log script fonts one other frames report more said known alike settled too first second.
      runs_agree told script fonts c.one_picture.ensures.draws c.files_decide.ensures.one known one_log other_log one other frames report more said alike settled too first second;
  early = λ told one_log other_log script fonts one other frames report more said status known alike settled too first second.
      early_runs_agree told script fonts c.one_picture.ensures.draws c.files_decide.ensures.one known one_log other_log one other frames report more said status alike settled too first second;
}
