use Rattle.track_write.proofs.RowLemmas.{seven_parts}
use Rattle.track_write.proofs.header.put_header.Goals as goal

pub returns : goal.returns
returns c =
    let wrap = rw c.from.ensures at c.in_ok-put_number_line-3.ensures in
    seven_parts _ _ _ _ _ _ _ _ _ _ _ _ _ _ _ c.in_ok-put_plain_line.ensures c.in_ok-put_plain_line-2.ensures c.in_ok-put_number_line.ensures c.in_ok-put_number_line-2.ensures wrap c.in_ok-put_scaled.ensures c.in_ok-put_matrix.ensures
