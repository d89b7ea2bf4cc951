use Rattle.std.proofs.Common.{◌≡◌, ◌<◌, length, get_or, pos, ◌+ℤ◌, ap, w64, to_z, of_z, arith}
use Rattle.std.proofs.lemmas.Int.{ints}
use Rattle.text_layout.specs.declared.laid.Line.{Line}
use Rattle.text_layout.specs.Extents.{no_extent}
use Rattle.text_layout.specs.Lines.{IsLineExtent, lines_from}
use Rattle.text_layout.proofs.LineLemmas.{lines_step}
use Rattle.text_layout.proofs.SpanLemmas.{no_span}
use Rattle.text_layout.proofs.lines.lines_of.Goals as goal

pub loop-k-preserved : goal.loop-k-preserved
loop-k-preserved c =
    let k = c.loop-k.k in
    let spans = c.args.spans.now in
    let extents = c.args.extents.now in
    let width = to_z w64 (of_z w64 c.args.width) in
    let top = to_z w64 c.loop-k.top-bits in
    let line = c.line_at-line.result in
    let next = to_z w64 (of_z w64 (top +ℤ to_z w64 (of_z w64 line.height))) in
    let l = c.loop-k-test.true in
    let few = c.requires.few in
    let count = c.requires.count in
    let m : k < length extents = omega (arith, l, count) in
    let reach : IsLineExtent (get_or extents k no_extent) = c.requires.extents k no_extent m in
    let high = reach.ascent in
    let deep = reach.descent in
    let from_zero = c.loop-k.invariant.from_zero in
    let most = c.loop-k.invariant.most in
    let is = c.line_at-line.ensures in
    let height : line.height ≡ (get_or extents k no_extent).ascent +ℤ (get_or extents k no_extent).descent = ap (λ (x : Line). x.height) is in
    let below : next ≡ top +ℤ ((get_or extents k no_extent).ascent +ℤ (get_or extents k no_extent).descent) = omega (arith, ints, height, from_zero, most, high, deep, l, few) in
    record {
      value = lines_step c.args.column width top next spans extents k no_span no_extent c.loop-k.lines c.push.new.self (lines_from c.args.column width (pos 0) spans extents) line l m
          c.loop-k.invariant.value c.in_ok-push.ensures.ok is below;
      from_zero = omega (arith, ints, below, from_zero, high, deep);
      most = omega (arith, ints, below, most, high, deep);
    }
