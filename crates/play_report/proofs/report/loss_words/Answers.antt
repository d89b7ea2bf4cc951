use Rattle.std.proofs.Common.{◌∙◌, append_assoc}
use Rattle.play_report.proofs.report.loss_words.Goals as goal

pub returns : goal.returns
returns c = c.in_ok-format.ensures.ok ∙ simp append_assoc
