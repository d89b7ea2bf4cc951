use Rattle.std.proofs.Common.{FitsSigned, w64, to_z-of_z, rules}
use Rattle.track_write.proofs.rows.put_event.Goals as goal

pub returns : goal.returns
returns c =
    let fits : FitsSigned w64 c.end_of-end.result = search rules in
    rw (to_z-of_z fits, c.end_of-end.ensures) at c.in_ok-put_line.ensures
