use Rattle.std.proofs.Common.{◌≡◌, ℕ, ap, sym, ◌∙◌, subst, length, arith}
use Rattle.frame_change.specs.Rows.{AreColumns}
use Rattle.frame_change.proofs.ColumnLemmas.{columns_more}
use Rattle.frame_change.proofs.columns.changed_columns.Goals as goal

pub loop-y-preserved : goal.loop-y-preserved
loop-y-preserved c =
    let a_is = c.row-a_row.ensures.row in
    let b_is = c.row-b_row.ensures.row in
    columns_more c.args.w c.args.a.now c.args.b.now c.loop-y.y (ap length (sym a_is) ∙ c.row-a_row.ensures.len) c.args.first c.loop-y.left c.loop-y.right c.left_of-left.result c.right_of-right.result
    c.loop-y.auto.y c.loop-y.invariant (rw (a_is, b_is) at c.left_of-left.ensures) (rw (a_is, b_is) at c.right_of-right.ensures)

pub returns : goal.returns
returns c =
    let all : c.loop-y.y ≡ c.args.last = omega (arith, c.loop-y.auto.y-end c.requires.order, c.loop-y-test.false) in
    let P : ℕ → Type 0 = λ n. AreColumns c.args.w c.args.a.now c.args.b.now c.args.first n c.loop-y.left c.loop-y.right in
    subst P all c.loop-y.invariant
