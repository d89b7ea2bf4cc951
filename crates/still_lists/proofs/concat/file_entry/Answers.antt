use Rattle.std.proofs.Common.{◌∙◌, append_assoc}
use Rattle.still_lists.proofs.concat.file_entry.Goals as goal

pub returns : goal.returns
returns c = c.in_ok-format.ensures.ok ∙ simp append_assoc
