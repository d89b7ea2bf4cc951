use Rattle.std.proofs.Common.{◌∙◌, append_assoc}
use Rattle.generated_script.specs.Lines.{hundredths_text}
use Rattle.generated_script.proofs.lines.hundredths_text.Goals as goal

pub returns : goal.returns
unfolding hundredths_text
returns c = c.in_ok-format.ensures.ok ∙ simp (append_assoc, c.in_ok-minutes.ensures, c.in_ok-seconds.ensures)
