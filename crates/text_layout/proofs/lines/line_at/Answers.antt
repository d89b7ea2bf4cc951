use Rattle.std.proofs.Common.{◌≡◌, ◌∙◌, ℤ, pos, ◌+ℤ◌, ◌-ℤ◌, ◌≤ℤ◌, ap, ap₂, arith}
use Rattle.std.proofs.lemmas.Int.{ints}
use Rattle.text_layout.specs.declared.anchors.AnchorSide.{AnchorSide}
use Rattle.text_layout.specs.declared.extents.Extent.{Extent}
use Rattle.text_layout.specs.declared.laid.Line.{Line}
use Rattle.text_layout.specs.declared.spans.Span.{Span}
use Rattle.text_layout.specs.Anchors.{IsBlockSide, edge_within}
use Rattle.text_layout.specs.Limits.{max_line}
use Rattle.text_layout.specs.Lines.{IsLineExtent, line_at}
use Rattle.text_layout.proofs.BitLemmas.{bits_64, place_bits}
use Rattle.text_layout.proofs.BlockLemmas.{edge-inner}
use Rattle.text_layout.proofs.lines.line_at.Goals as goal

-- a line by its numbers
abbrev line_of : Span → ℤ → ℤ → ℤ → ℤ → ℤ → Line
line_of span top baseline left width height = record { first = span.first; last = span.last; top = top; baseline = baseline; left = left; width = width; height = height }

line_bits : (column : AnchorSide) (width : ℤ) (span : Span) (e : Extent) (top r : ℤ) → IsLineExtent e → IsBlockSide top → width ≤ℤ pos max_line → e.advance ≤ℤ width
    → r ≡ edge_within column (bits_64 (bits_64 width -ℤ bits_64 e.advance))
    → line_of span (bits_64 top) (bits_64 (bits_64 top +ℤ bits_64 e.ascent)) (bits_64 r) (bits_64 e.advance) (bits_64 (bits_64 e.ascent +ℤ bits_64 e.descent)) ≡ line_at column width span e top
line_bits column width span e top r reach side most wide is =
    let from_zero = reach.from_zero in
    let up = reach.ascent in
    let down = reach.descent in
    let low = side.from_zero in
    let high = side.most in
    let t : bits_64 top ≡ top = place_bits top (omega (arith, ints, low, high), omega (arith, ints, low, high)) in
    let a : bits_64 e.ascent ≡ e.ascent = place_bits e.ascent (omega (arith, ints, up), omega (arith, ints, up)) in
    let d : bits_64 e.descent ≡ e.descent = place_bits e.descent (omega (arith, ints, down), omega (arith, ints, down)) in
    let w : bits_64 e.advance ≡ e.advance = place_bits e.advance (omega (arith, ints, from_zero, most, wide), omega (arith, ints, from_zero, most, wide)) in
    let all : bits_64 width ≡ width = place_bits width (omega (arith, ints, from_zero, most, wide), omega (arith, ints, from_zero, most, wide)) in
    let base = ap bits_64 (ap₂ ◌+ℤ◌ t a) ∙ place_bits (top +ℤ e.ascent) (omega (arith, ints, low, high, up), omega (arith, ints, low, high, up)) in
    let height = ap bits_64 (ap₂ ◌+ℤ◌ a d) ∙ place_bits (e.ascent +ℤ e.descent) (omega (arith, ints, up, down), omega (arith, ints, up, down)) in
    let rest = ap bits_64 (ap₂ ◌-ℤ◌ all w) ∙ place_bits (width -ℤ e.advance) (omega (arith, ints, from_zero, most, wide), omega (arith, ints, from_zero, most, wide)) in
    let inner = edge-inner column (width -ℤ e.advance) (omega (arith, ints, wide)) in
    let near = inner.0 in
    let far = inner.1 in
    let left =
    ap bits_64 (is ∙ ap (edge_within column) rest)
    ∙ place_bits (edge_within column (width -ℤ e.advance)) (omega (arith, ints, near, far, from_zero, most), omega (arith, ints, near, far, from_zero, most)) in
    ap₂ (λ (x y : ℤ). line_of span x y (bits_64 r) (bits_64 e.advance) (bits_64 (bits_64 e.ascent +ℤ bits_64 e.descent))) t base
    ∙ ap₂ (λ (x y : ℤ). line_of span top (top +ℤ e.ascent) x y (bits_64 (bits_64 e.ascent +ℤ bits_64 e.descent))) left w
    ∙ ap (λ (x : ℤ). line_of span top (top +ℤ e.ascent) (edge_within column (width -ℤ e.advance)) e.advance x) height

pub returns : goal.returns
returns c =
    line_bits c.args.column c.args.width c.args.span c.args.extent.now c.args.top c.edge_within.result c.requires.extent c.requires.top c.requires.width c.requires.wide c.edge_within.ensures.value
