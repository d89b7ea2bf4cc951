use Rattle.std.proofs.Common.{◌∙◌, append_assoc}
use Rattle.y4m_text.proofs.frame.stream_head.Goals as goal

pub returns : goal.returns
returns c = c.in_ok-format.ensures.ok ∙ simp (append_assoc, c.sampling_word-sampling.ensures, c.range_word-range.ensures)
