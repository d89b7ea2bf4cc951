use Rattle.std.proofs.Common.{◌≡◌, get_or, take, pos, ap, take_all, arith}
use Rattle.std.proofs.lemmas.Int.{clamps, ints}
use Rattle.std.specs.Int.{int_max}
use Rattle.text_layout.specs.declared.extents.Extent.{Extent}
use Rattle.text_layout.specs.Extents.{no_extent}
use Rattle.text_layout.specs.Lines.{IsLineExtent, block_width}
use Rattle.text_layout.proofs.LineLemmas.{fold-map_more, width-widest}
use Rattle.text_layout.proofs.lines.block_width.Goals as goal

pub loop-extent-preserved : goal.loop-extent-preserved
loop-extent-preserved c =
    let k = c.loop-extent.extent-index in
    let es = c.args.extents.now in
    let l = c.loop-extent-test.true in
    let reach : IsLineExtent (get_or es k no_extent) = c.requires k no_extent l in
    let more = fold-map_more int_max (pos 0) (λ (e : Extent). e.advance) es k no_extent l in
    let value = c.loop-extent.invariant.value in
    let from_zero = c.loop-extent.invariant.from_zero in
    let most = c.loop-extent.invariant.most in
    let low = reach.from_zero in
    let wide = reach.advance in
    let m = c.max-width.ensures.value in
    record {
      value = omega (arith, ints, clamps, more, value, from_zero, most, low, wide, m);
      from_zero = omega (arith, ints, clamps, from_zero, most, low, wide, m);
      most = omega (arith, ints, clamps, from_zero, most, low, wide, m);
    }

pub returns-clause-widest : goal.returns-clause-widest
returns-clause-widest c =
    let es = c.args.extents.now in
    let value = c.loop-extent.invariant.value in
    let from_zero = c.loop-extent.invariant.from_zero in
    let most = c.loop-extent.invariant.most in
    let all : block_width (take c.loop-extent.extent-index es) ≡ block_width es = ap block_width (take_all c.loop-extent.extent-index es c.loop-extent-test.false) in
    λ k d l. let each = width-widest es k d l in omega (arith, ints, value, all, each, from_zero, most)
