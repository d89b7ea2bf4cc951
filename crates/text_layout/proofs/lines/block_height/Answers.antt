use Rattle.std.proofs.Common.{get_or, pos, ◌+ℤ◌, arith}
use Rattle.std.proofs.lemmas.Int.{ints}
use Rattle.text_layout.specs.declared.extents.Extent.{Extent}
use Rattle.text_layout.specs.Extents.{no_extent}
use Rattle.text_layout.specs.Lines.{IsLineExtent}
use Rattle.text_layout.proofs.LineLemmas.{fold-map_more}
use Rattle.text_layout.proofs.lines.block_height.Goals as goal

pub loop-extent-preserved : goal.loop-extent-preserved
loop-extent-preserved c =
    let k = c.loop-extent.extent-index in
    let es = c.args.extents.now in
    let l = c.loop-extent-test.true in
    let reach : IsLineExtent (get_or es k no_extent) = c.requires.extents k no_extent l in
    let sum = fold-map_more ◌+ℤ◌ (pos 0) (λ (e : Extent). e.ascent +ℤ e.descent) es k no_extent l in
    let value = c.loop-extent.invariant.value in
    let from_zero = c.loop-extent.invariant.from_zero in
    let most = c.loop-extent.invariant.most in
    let few = c.requires.few in
    let high = reach.ascent in
    let deep = reach.descent in
    record {
      value = omega (arith, ints, sum, value, from_zero, most, high, deep, l, few);
      from_zero = omega (arith, ints, from_zero, most, high, deep, l, few);
      most = omega (arith, ints, from_zero, most, high, deep, l, few);
    }
