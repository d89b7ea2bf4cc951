use Rattle.std.proofs.Common.{◌≡◌, ◌+◌, ◌-◌, ◌*◌, pos, w64, to_z, of_z, sym, ap, ◌∙◌, arith}
use Rattle.std.proofs.lemmas.Int.{ints, to_z-of_z}
use Rattle.ass_num.proofs.RegionLemmas.{row_ascends}
use Rattle.mask_cover.proofs.RowLemmas.{cell_count-above, cell_count-alike, cell_count-below, cell_count-le, counts_of}
use Rattle.mask_cover.specs.Steps.{cell_count}
use Rattle.mask_cover.proofs.steps.add_alike.Goals as goal

-- rows above the region and below it have no samples
pub returns-then-k-above-clause-counts : goal.returns-then-k-above-clause-counts
returns-then-k-above-clause-counts c = λ n. c.requires.counts n ∙ ap pos (sym (cell_count-above c.args.rows.now c.args.left c.args.above c.args.row n c.args.b (omega (arith, c.if-k-above.true))))

pub returns-then-len-k-clause-counts : goal.returns-then-len-k-clause-counts
returns-then-len-k-clause-counts c = λ n.
    c.requires.counts n ∙ ap pos (sym (cell_count-below c.args.rows.now c.args.left c.args.above c.args.row n c.args.b ((16 * c.args.row + c.args.b) - c.args.above) (omega (arith, c.if-k-above.false)) (omega (arith, c.if-len-k.true))))

pub add_row-requires-clause-ascends : goal.add_row-requires-clause-ascends
add_row-requires-clause-ascends c = rw c.get.ensures (row_ascends c.args.rows.now _ c.requires.ascends)

pub add_row-requires-clause-counts : goal.add_row-requires-clause-counts
add_row-requires-clause-counts c =
    let most = c.count_alike-times.ensures.most in
    counts_of c.args.steps.now (λ n. cell_count c.args.rows.now c.args.left c.args.above c.args.row n c.args.b) (256 - 16 * c.count_alike-times.result) c.requires.counts
    (λ n. omega (arith, most, c.requires.within, cell_count-le c.args.rows.now c.args.left c.args.above c.args.row n c.args.b))

pub returns-clause-counts : goal.returns-clause-counts
returns-clause-counts c = λ n.
    let same : to_z w64 (of_z w64 c.args.left) ≡ c.args.left = to_z-of_z w64 c.args.left c.ranges.left in
    let was = c.requires.counts n in
    let more = rw (c.get.ensures, same) at (c.add_row.ensures n) in
    let e = cell_count-alike c.args.rows.now c.args.left c.args.above c.args.row n c.args.b ((16 * c.args.row + c.args.b) - c.args.above) c.count_alike-times.result (omega (arith, c.if-k-above.false)) c.count_alike-times.ensures.alike in
    omega (arith, ints, was, more, e)
