use Rattle.std.proofs.Common.{w32, w64, to_z, of_z, refl, arith}
use Rattle.std.proofs.lemmas.Int.{ints}
use Rattle.std.specs.Prelude.{unsigned_abs}
use Rattle.blend.specs.Areas.{placed_of}
use Rattle.plain_images.specs.Cutting.{clip_stencil}
use Rattle.plain_images.proofs.ByteLemmas.{cut_is, row_covered, rows_mask}
use Rattle.plain_images.proofs.cutting.cut_mask.Goals as goal

pub rows_of-requires-clause-covered : goal.rows_of-requires-clause-covered
rows_of-requires-clause-covered c = λ j from to.
    row_covered (placed_of c.args.placed) c.args.pane _ _ _ _ j c.requires.cuttable (omega (arith, ints, c.requires.some.wide))
    (omega (arith, ints)) (omega (arith, ints)) (omega (arith, ints)) (omega (arith, ints)) from to

pub new-requires : goal.new-requires
new-requires c =
    let x = to_z w32 (unsigned_abs (to_z w64 (of_z w64 c.args.pane.x1))) in
    let y = to_z w32 (unsigned_abs (to_z w64 (of_z w64 c.args.pane.y1))) in
    rows_mask x y _ _ _ c.in_ok-bytes.ensures.count (omega (arith, ints, c.requires.some.wide)) (omega (arith, ints, c.requires.some.high))

pub returns : goal.returns
returns c =
    let wide = c.requires.some.wide in
    let high = c.requires.some.high in
    let x = to_z w32 (unsigned_abs (to_z w64 (of_z w64 c.args.pane.x1))) in
    let y = to_z w32 (unsigned_abs (to_z w64 (of_z w64 c.args.pane.y1))) in
    rw c.new.ensures
    (cut_is (placed_of c.args.placed) (clip_stencil c.args.clip) c.args.pane _ _ _ _ _ (omega (arith, ints, wide)) (omega (arith, ints, high))
    (omega (arith, ints)) (omega (arith, ints)) (omega (arith, ints)) (omega (arith, ints))
    (omega (arith, ints)) (omega (arith, ints)) refl refl
    (rows_mask x y _ _ _ c.in_ok-bytes.ensures.count (omega (arith, ints, wide)) (omega (arith, ints, high))) c.in_ok-bytes.ensures)
