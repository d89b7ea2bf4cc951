use Rattle.std.proofs.Common.{◌≡◌, ◌∙◌, ◌+◌, ◌*◌, length, ap, sym, subst, arith}
use Rattle.still_images.proofs.RowLemmas.{IsBoxAbove, all_rows, pixel_row, row_differs, row_same, rows_fit}
use Rattle.still_images.proofs.alpha_box.alpha_box.Goals as goal
use Rattle.still_images.proofs.alpha_box.alpha_box.Goals.{in-None, in-Some}

pub row_of-a_row-requires : goal.row_of-a_row-requires
row_of-a_row-requires c = rows_fit c.args.size.now c.args.a.now c.loop-y.y c.requires.a c.loop-y-test.true

pub row_of-b_row-requires : goal.row_of-b_row-requires
row_of-b_row-requires c = rows_fit c.args.size.now c.args.b.now c.loop-y.y c.requires.b c.loop-y-test.true

pub loop-y-preserved : goal.loop-y-preserved
loop-y-preserved c =
    let size = c.args.size.now in
    let a = c.args.a.now in
    let b = c.args.b.now in
    let y = c.loop-y.y in
    let a_is = c.row_of-a_row.ensures.row in
    let b_is = c.row_of-b_row.ensures.row in
    let whole : length (pixel_row size.w y a) ≡ 4 * size.w = ap length (sym a_is) ∙ c.row_of-a_row.ensures.len in
    elim c.match-changed_columns.branch [
      | in-None w ↦ subst (IsBoxAbove size a b (y + 1)) (sym w.changed-is) (row_same size a b y c.loop-y-test.true c.loop-y.changed c.loop-y.invariant (rw (a_is, b_is) at w.in-None.ensures))
      | in-Some w ↦ subst (IsBoxAbove size a b (y + 1)) (sym (w.changed-is ∙ w.row_under.ensures))
          (row_differs size a b y c.loop-y-test.true w.in-Some.columns (rw (a_is, b_is) at w.in-Some.ensures) whole c.loop-y.changed c.loop-y.invariant)
    ]

pub returns : goal.returns
returns c =
    let size = c.args.size.now in
    let all : c.loop-y.y ≡ size.h = omega (arith, c.loop-y.auto.y-end, c.loop-y-test.false) in
    all_rows size c.args.a.now c.args.b.now c.loop-y.changed c.requires.a c.requires.b (subst (λ n. IsBoxAbove size c.args.a.now c.args.b.now n c.loop-y.changed) all c.loop-y.invariant)
