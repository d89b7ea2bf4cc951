use Rattle.std.proofs.Common.{sym, ◌∙◌, arith}
use Rattle.std.proofs.lemmas.Int.{ints}
use Rattle.blend.specs.Areas.{placed_of}
use Rattle.plain_images.proofs.ClipLemmas.{part_columns, part_none, part_some}
use Rattle.plain_images.proofs.cutting.part_in_box.Goals as goal

pub returns-then-is_empty : goal.returns-then-is_empty
returns-then-is_empty c =
    let meets = rw c.box_pane.ensures at c.both-part.ensures in
    part_none (placed_of c.args.placed) c.row_pane-row.result c.both-part.result c.args.x c.args.j c.args.count c.row_pane-row.ensures meets (sym c.is_empty.ensures ∙ c.if-is_empty.true)

pub columns_between-requires-clause-low : goal.columns_between-requires-clause-low
columns_between-requires-clause-low c = let left = c.row_pane-row.ensures.left in omega (arith, ints)

pub columns_between-requires-clause-ordered : goal.columns_between-requires-clause-ordered
columns_between-requires-clause-ordered c =
    let meets = rw c.box_pane.ensures at c.both-part.ensures in
    let columns = part_columns (placed_of c.args.placed) c.row_pane-row.result c.both-part.result c.args.x c.args.j c.args.count c.row_pane-row.ensures meets (sym c.is_empty.ensures ∙ c.if-is_empty.false) in
    let first = columns.0 in
    omega (arith, ints)

pub columns_between-requires-clause-high : goal.columns_between-requires-clause-high
columns_between-requires-clause-high c =
    let meets = rw c.box_pane.ensures at c.both-part.ensures in
    let columns = part_columns (placed_of c.args.placed) c.row_pane-row.result c.both-part.result c.args.x c.args.j c.args.count c.row_pane-row.ensures meets (sym c.is_empty.ensures ∙ c.if-is_empty.false) in
    let wide = columns.1 in
    let end = columns.2 in
    let frame = c.requires in
    omega (arith, ints)

pub columns_between-requires-2-clause-ordered : goal.columns_between-requires-2-clause-ordered
columns_between-requires-2-clause-ordered c =
    let meets = rw c.box_pane.ensures at c.both-part.ensures in
    let columns = part_columns (placed_of c.args.placed) c.row_pane-row.result c.both-part.result c.args.x c.args.j c.args.count c.row_pane-row.ensures meets (sym c.is_empty.ensures ∙ c.if-is_empty.false) in
    let first = columns.0 in
    let wide = columns.1 in
    omega (arith, ints)

pub columns_between-requires-2-clause-high : goal.columns_between-requires-2-clause-high
columns_between-requires-2-clause-high c =
    let meets = rw c.box_pane.ensures at c.both-part.ensures in
    let columns = part_columns (placed_of c.args.placed) c.row_pane-row.result c.both-part.result c.args.x c.args.j c.args.count c.row_pane-row.ensures meets (sym c.is_empty.ensures ∙ c.if-is_empty.false) in
    let end = columns.2 in
    let frame = c.requires in
    omega (arith, ints)

pub returns : goal.returns
returns c =
    let meets = rw c.box_pane.ensures at c.both-part.ensures in
    let left = c.row_pane-row.ensures.left in
    let first = c.columns_between.ensures in
    let last = c.columns_between-2.ensures in
    part_some (placed_of c.args.placed) c.row_pane-row.result c.both-part.result c.args.x c.args.j c.args.count c.columns_between.result c.columns_between-2.result c.row_pane-row.ensures meets
    (sym c.is_empty.ensures ∙ c.if-is_empty.false) (omega (arith, ints)) (omega (arith, ints))
