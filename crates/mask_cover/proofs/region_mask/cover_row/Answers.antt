use Rattle.std.proofs.Common.{◌≡◌, w64, to_z, of_z}
use Rattle.std.proofs.lemmas.Int.{to_z-of_z}
use Rattle.std.proofs.lemmas.Result.{IfOk-weaker}
use Rattle.mask_cover.proofs.RowLemmas.{counts_of, cell_count-le, more_cells, left_is}
use Rattle.mask_cover.specs.Steps.{cell_count}
use Rattle.mask_cover.proofs.region_mask.cover_row.Goals as goal

pub push_row-requires-clause-counts : goal.push_row-requires-clause-counts
push_row-requires-clause-counts c =
    counts_of c.add_rows.new.steps (λ n. cell_count c.args.rows.now (to_z w64 (of_z w64 c.args.left)) c.args.above c.args.row n 16) 256 c.add_rows.ensures
    (λ n. cell_count-le c.args.rows.now (to_z w64 (of_z w64 c.args.left)) c.args.above c.args.row n 16)

pub returns : goal.returns
returns c =
    let same : to_z w64 (of_z w64 c.args.left) ≡ c.args.left = to_z-of_z w64 c.args.left c.ranges.left in
    IfOk-weaker c.push_row.result _ _ (λ x h. left_is c.args.rows.now _ c.args.left c.args.above c.args.w c.args.row c.args.bytes.now.items c.push_row.new.bytes.items same
    (more_cells c.args.rows.now (to_z w64 (of_z w64 c.args.left)) c.args.above c.args.w c.args.row c.add_rows.new.steps c.args.bytes.now.items c.push_row.new.bytes.items c.add_rows.ensures h)) c.push_row.ensures
