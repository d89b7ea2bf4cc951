use Rattle.std.proofs.Common.{◌≡◌, ◌∙◌, ◌+◌, ℤ, List, length, pos, ◌≤ℤ◌, sym, ap, ap₂, subst, arith}
use Rattle.std.proofs.lemmas.Int.{ints}
use Rattle.std.proofs.lemmas.List.{length-map}
use Rattle.std.specs.List.{All}
use Rattle.text_layout.specs.declared.anchors.AnchorSide.{AnchorSide}
use Rattle.text_layout.specs.declared.extents.Extent.{Extent}
use Rattle.text_layout.specs.declared.laid.Laid.{Laid}
use Rattle.text_layout.specs.declared.laid.Line.{Line}
use Rattle.text_layout.specs.declared.laid.Placed.{Placed}
use Rattle.text_layout.specs.declared.spans.Span.{Span}
use Rattle.text_layout.specs.Anchors.{IsBlockSide, edge_across}
use Rattle.text_layout.specs.Layouts.{IsWithinBlock, laid_out}
use Rattle.text_layout.specs.Limits.{max_block, max_line}
use Rattle.text_layout.specs.Lines.{IsLineExtent, IsLineWithin, advances_of, block_height, block_width, line_extent, line_extents, lines_from, placed_from}
use Rattle.text_layout.proofs.BitLemmas.{bits_64, place_bits}
use Rattle.text_layout.proofs.BlockLemmas.{laid-within, lines-most, spans-within}
use Rattle.text_layout.proofs.SpanLemmas.{AreSpans-length}
use Rattle.text_layout.proofs.layouts.laid_out.Goals as goal

abbrev laid_of : List Line → List Placed → ℤ → ℤ → Laid
laid_of lines placed width height = record { lines = lines; placed = placed; width = width; height = height }

-- the width of a block in 64 bits
width_bits : (width : ℤ) (extents es : List Extent) → es ≡ extents → width ≡ block_width es → pos 0 ≤ℤ width → width ≤ℤ pos max_line → bits_64 width ≡ block_width extents
width_bits width extents es same is l m = place_bits width (omega (arith, ints, l, m), omega (arith, ints, l, m)) ∙ is ∙ ap block_width same

side_bits : (side : ℤ) → IsBlockSide side → bits_64 side ≡ side
side_bits side h =
    let low = h.from_zero in
    let high = h.most in
    place_bits side (omega (arith, ints, low, high), omega (arith, ints, low, high))

-- the same lines by equal edges, widths and extents
lines_same : (spans : List Span) (e f : AnchorSide) (v w : ℤ) (xs ys : List Extent) → e ≡ f → v ≡ w → xs ≡ ys → lines_from e v (pos 0) spans xs ≡ lines_from f w (pos 0) spans ys
lines_same spans e f v w xs ys edge width same =
    ap₂ (λ (g : AnchorSide) (across : ℤ). lines_from g across (pos 0) spans xs) edge width ∙ ap (lines_from f w (pos 0) spans) same

pub line_extents-requires-clause-spans : goal.line_extents-requires-clause-spans
line_extents-requires-clause-spans c = spans-within 0 (length c.args.extents.now) c.args.spans.now c.requires.spans

pub block_height-height-requires-clause-few : goal.block_height-height-requires-clause-few
block_height-height-requires-clause-few c =
    let spans = c.args.spans.now in
    let same = ap length (c.as_slice-3.ensures.value ∙ c.in_ok-heights.ensures.value) ∙ length-map spans (line_extent c.args.metrics.now c.as_slice.result.now c.args.extents.now) in
    let count = AreSpans-length 0 (length c.args.extents.now + 1) spans c.requires.spans in
    let few = c.requires.few in
    omega (arith, same, count, few)

pub lines_of-requires-clause-few : goal.lines_of-requires-clause-few
lines_of-requires-clause-few c =
    let count = AreSpans-length 0 (length c.args.extents.now + 1) c.args.spans.now c.requires.spans in
    let few = c.requires.few in
    omega (arith, count, few)

pub placed_items-requires-clause-lines : goal.placed_items-requires-clause-lines
placed_items-requires-clause-lines c =
    let view = c.args.view.now in
    let metrics = c.args.metrics.now in
    let es = c.args.extents.now in
    let spans = c.args.spans.now in
    let extents = line_extents metrics view.items es spans in
    let heights : c.in_ok-heights.heights.items ≡ extents = c.in_ok-heights.ensures.value ∙ ap (λ items. line_extents metrics items es spans) c.as_slice.ensures in
    let reach = subst (All IsLineExtent) heights c.in_ok-heights.ensures.range in
    let length_sum : c.block_height-height.result ≡ block_height extents = c.block_height-height.ensures.value ∙ ap block_height (c.as_slice-3.ensures.value ∙ heights) in
    let high = subst (λ (z : ℤ). z ≤ℤ pos max_block) length_sum c.block_height-height.ensures.range.most in
    let width = width_bits c.block_width-width.result extents c.as_slice-2.result.now (c.as_slice-2.ensures.value ∙ heights) c.block_width-width.ensures.value c.block_width-width.ensures.from_zero c.block_width-width.ensures.most in
    let lines =
    c.in_ok-lines.ensures ∙ lines_same spans _ (edge_across view.align) _ (block_width extents) c.as_slice-4.result.now extents c.column_of-column.ensures width (c.as_slice-4.ensures.value ∙ heights) in
    subst (All (IsLineWithin (length es) (pos max_line) (pos max_block))) (sym (c.as_slice-5.ensures ∙ lines)) (lines-most view metrics es spans c.requires.few c.requires.extents c.requires.spans reach high)

pub returns-clause-within : goal.returns-clause-within
returns-clause-within c =
    let view = c.args.view.now in
    let metrics = c.args.metrics.now in
    let es = c.args.extents.now in
    let spans = c.args.spans.now in
    let extents = line_extents metrics view.items es spans in
    let laid = laid_out view metrics es spans in
    let heights : c.in_ok-heights.heights.items ≡ extents = c.in_ok-heights.ensures.value ∙ ap (λ items. line_extents metrics items es spans) c.as_slice.ensures in
    let reach = subst (All IsLineExtent) heights c.in_ok-heights.ensures.range in
    let length_sum : c.block_height-height.result ≡ block_height extents = c.block_height-height.ensures.value ∙ ap block_height (c.as_slice-3.ensures.value ∙ heights) in
    let side = c.block_height-height.ensures.range in
    let width = width_bits c.block_width-width.result extents c.as_slice-2.result.now (c.as_slice-2.ensures.value ∙ heights) c.block_width-width.ensures.value c.block_width-width.ensures.from_zero c.block_width-width.ensures.most in
    let height = side_bits c.block_height-height.result side ∙ length_sum in
    let lines =
    c.in_ok-lines.ensures ∙ lines_same spans _ (edge_across view.align) _ (block_width extents) c.as_slice-4.result.now extents c.column_of-column.ensures width (c.as_slice-4.ensures.value ∙ heights) in
    let placed = c.in_ok-placed.ensures ∙ ap (placed_from (advances_of es) 0) (c.as_slice-5.ensures ∙ lines) in
    let same =
    ap₂ (λ (ls : List Line) (ps : List Placed). laid_of ls ps (bits_64 c.block_width-width.result) (bits_64 c.block_height-height.result)) lines placed
    ∙ ap₂ (laid_of laid.lines laid.placed) width height in
    subst (IsWithinBlock (length es)) (sym same)
    (laid-within view metrics es spans c.requires.few c.requires.extents c.requires.spans reach (subst (λ (z : ℤ). z ≤ℤ pos max_block) length_sum side.most)).1
