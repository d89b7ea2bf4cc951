use Rattle.std.proofs.Common.{◌∙◌, append_assoc}
use Rattle.single_run.proofs.change_lines.box_text.Goals as goal

pub returns-in_ok-format-in-Some : goal.returns-in_ok-format-in-Some
returns-in_ok-format-in-Some c =
    rw c.in-Some.is (c.in_ok-format-in-Some.ensures.ok ∙ simp (append_assoc, c.in-Some.x1-is, c.in-Some.y1-is, c.in-Some.x2-is, c.in-Some.y2-is))
