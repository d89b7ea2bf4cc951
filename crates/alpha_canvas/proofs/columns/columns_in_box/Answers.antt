use Rattle.std.proofs.Common.{sym}
use Rattle.blend.specs.Areas.{placed_of}
use Rattle.alpha_canvas.proofs.TileLemmas.{columns-inside, columns-outside, rows-outside}
use Rattle.alpha_canvas.proofs.columns.columns_in_box.Goals as goal

pub returns-then-has_row-clause-inside : goal.returns-then-has_row-clause-inside
returns-then-has_row-clause-inside c =
    columns-inside (placed_of c.args.placed) c.args.left c.args.right c.columns_of_box.result.left c.columns_of_box.result.right c.args.j c.columns_of_box.ensures.both (sym c.if-has_row.ensures)

pub returns-then-has_row-clause-outside : goal.returns-then-has_row-clause-outside
returns-then-has_row-clause-outside c =
    columns-outside (placed_of c.args.placed) c.args.left c.args.right c.columns_of_box.result.left c.columns_of_box.result.right c.args.j c.columns_of_box.ensures.both

pub returns-else-has_row-clause-outside : goal.returns-else-has_row-clause-outside
returns-else-has_row-clause-outside c = λ i from to apart. rows-outside (placed_of c.args.placed) i c.args.j (sym c.if-has_row.ensures)
