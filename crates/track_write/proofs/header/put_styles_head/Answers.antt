use Rattle.track_write.proofs.RowLemmas.{two_parts}
use Rattle.track_write.proofs.header.put_styles_head.Goals as goal

pub returns : goal.returns
returns c = two_parts _ _ _ _ _ c.in_ok-put_plain_line.ensures c.in_ok-put_long_line.ensures
