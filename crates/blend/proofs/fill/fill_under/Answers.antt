use Rattle.std.proofs.Common.{◌-◌, refl, arith}
use Rattle.blend.specs.Areas.{placed_of, placed_stencil, tints}
use Rattle.blend.proofs.FillLemmas.{to_row, row-step, row-bytes, stencilled-value, fill-none, fill-end, no-columns, no-rows}
use Rattle.blend.proofs.fill.fill_under.Goals as goal

pub returns-then-area : goal.returns-then-area
returns-then-area c = fill-none c.args.band.w _ c.args.area (tints c.args.colour (placed_of c.args.placed) (placed_stencil (placed_of c.args.over) c.args.inverse)) _ (no-columns c.args.area c.if-area.true)

pub loop-j-init : goal.loop-j-init
loop-j-init c = fill-none c.args.band.w _ (to_row c.args.area c.args.area.top) (tints c.args.colour (placed_of c.args.placed) (placed_stencil (placed_of c.args.over) c.args.inverse)) _ (no-rows (to_row c.args.area c.args.area.top) (omega arith))

pub loop-j-preserved : goal.loop-j-preserved
loop-j-preserved c =
    let band = c.args.band in
    let area = c.args.area in
    row-step band.w band.top c.loop-j.j (c.loop-j.j - band.top) _ _ area (tints c.args.colour (placed_of c.args.placed) (placed_stencil (placed_of c.args.over) c.args.inverse)) _ _ _ _
    (omega arith) c.if-area.false c.requires.in_band.right (omega arith) refl (omega arith) c.loop-j.invariant
    (row-bytes band.w (c.loop-j.j - band.top) band.h _ _ _ (omega arith) (omega arith) c.requires.in_band.right (omega arith))
    c.tint_span_under.ensures
    (λ k l. stencilled-value c.args.colour (placed_of c.args.over) c.args.inverse _ _ _ _ _ (c.cover-bytes.ensures.values k l) (c.cover-hiding.ensures.values k l))

pub returns : goal.returns
returns c = fill-end c.args.band.w _ c.loop-j.j c.args.area (tints c.args.colour (placed_of c.args.placed) (placed_stencil (placed_of c.args.over) c.args.inverse)) _ _ (omega arith) c.loop-j.invariant
