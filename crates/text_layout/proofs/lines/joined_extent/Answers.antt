use Rattle.std.proofs.Common.{get_or, pos, ◌+ℤ◌, arith}
use Rattle.std.proofs.lemmas.Int.{clamps, ints}
use Rattle.std.specs.Int.{int_max}
use Rattle.text_layout.specs.declared.extents.Extent.{Extent}
use Rattle.text_layout.specs.Extents.{IsItemExtent, no_extent}
use Rattle.text_layout.proofs.LineLemmas.{fold-map_more}
use Rattle.text_layout.proofs.lines.joined_extent.Goals as goal

pub loop-extent-preserved : goal.loop-extent-preserved
loop-extent-preserved c =
    let k = c.loop-extent.extent-index in
    let es = c.args.extents.now in
    let l = c.loop-extent-test.true in
    let inv = c.loop-extent.invariant in
    let reach : IsItemExtent (get_or es k no_extent) = c.requires.extents k no_extent l in
    let sum = fold-map_more ◌+ℤ◌ (pos 0) (λ (e : Extent). e.advance) es k no_extent l in
    let up = fold-map_more int_max (pos 0) (λ (e : Extent). e.ascent) es k no_extent l in
    let down = fold-map_more int_max (pos 0) (λ (e : Extent). e.descent) es k no_extent l in
    let advance = inv.advance in
    let ascent = inv.ascent in
    let descent = inv.descent in
    let from_zero = inv.from_zero in
    let most = inv.most in
    let above = inv.above in
    let below = inv.below in
    let wide = reach.advance in
    let high = reach.ascent in
    let deep = reach.descent in
    let m = c.max-ascent.ensures.value in
    let n = c.max-descent.ensures.value in
    record {
      advance = omega (arith, ints, sum, advance, from_zero, most, wide);
      ascent = omega (arith, ints, clamps, up, ascent, above, high, m);
      descent = omega (arith, ints, clamps, down, descent, below, deep, n);
      from_zero = omega (arith, ints, from_zero, most, wide);
      most = omega (arith, ints, from_zero, most, wide);
      above = (omega (arith, ints, clamps, above, high, m), omega (arith, ints, clamps, above, high, m));
      below = (omega (arith, ints, clamps, below, deep, n), omega (arith, ints, clamps, below, deep, n));
    }
