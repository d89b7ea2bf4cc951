use Rattle.frame_change.specs.Rows.{AreColumns}
use Rattle.frame_change.proofs.columns.changed_columns.Given as goal

abbrev pub invariant-loop-y : goal.invariant-loop-y
invariant-loop-y l = AreColumns l.w l.a l.b l.first l.y l.left l.right
