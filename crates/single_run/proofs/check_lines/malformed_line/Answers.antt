use Rattle.std.proofs.Common.{◌∙◌, append_assoc}
use Rattle.single_run.proofs.check_lines.malformed_line.Goals as goal

pub returns : goal.returns
returns c = c.in_ok-format.ensures.ok ∙ simp (append_assoc, c.field_name-name.ensures)
