use Rattle.std.proofs.Common.{◌≡◌, ◌+◌, pos, w64, to_z, of_z, sym, ap, ◌∙◌, arith}
use Rattle.std.proofs.lemmas.Int.{to_z-of_z}
use Rattle.mask_cover.proofs.RowLemmas.{cell_count-none}
use Rattle.mask_cover.proofs.steps.add_rows.Goals as goal

pub loop-b-init : goal.loop-b-init
loop-b-init c = record { within = omega arith; counts = λ n. c.requires.zero (n + 1) ∙ ap pos (sym (cell_count-none c.args.rows.now (to_z w64 (of_z w64 c.args.left)) c.args.above c.args.row n)) }

pub returns : goal.returns
returns c = λ n.
    let same : to_z w64 (of_z w64 c.args.left) ≡ c.args.left = to_z-of_z w64 c.args.left c.ranges.left in
    let e : c.loop-b.b ≡ 16 = omega (arith, c.loop-b-test.false, c.loop-b.invariant.within) in
    rw (e, same) at (c.loop-b.invariant.counts n)
