use Rattle.std.proofs.Common.{◌∙◌, append_assoc}
use Rattle.run_status.proofs.font_fault.bad_font_line.Goals as goal

pub returns : goal.returns
returns c = c.in_ok-format.ensures.ok ∙ simp append_assoc
