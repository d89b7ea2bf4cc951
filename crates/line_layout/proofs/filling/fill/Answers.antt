use Rattle.std.proofs.Common.{arith, ◌<◌, length, to_z, of_z, w64}
use Rattle.std.proofs.lemmas.Int.{to_z-of_z}
use Rattle.line_layout.proofs.FillLemmas.{Filling-more, Filling-all, LineTo}
use Rattle.line_layout.proofs.filling.fill.Goals as goal

pub returns-then-end-spaces : goal.returns-then-end-spaces
returns-then-end-spaces c =
    let ws = c.args.widths.now in
    let s = c.args.spaces.now in
    let limit = to_z w64 (of_z w64 c.args.limit) in
    let n = c.line_to-end.ensures in
    let t : LineTo ws s limit c.loop-limit.first c.line_to-end.result = record { onward = n.onward; within = n.within; narrow = n.narrow; last = n.last } in
    rw (to_z-of_z w64 c.args.limit c.ranges.limit) at (Filling-all ws s limit c.loop-limit.places.items c.loop-limit.first c.line_to-end.result c.requires.paragraph c.if-end-spaces.true t c.loop-limit.invariant)

pub loop-limit-preserved : goal.loop-limit-preserved
loop-limit-preserved c =
    let ws = c.args.widths.now in
    let s = c.args.spaces.now in
    let limit = to_z w64 (of_z w64 c.args.limit) in
    let n = c.line_to-end.ensures in
    let t : LineTo ws s limit c.loop-limit.first c.line_to-end.result = record { onward = n.onward; within = n.within; narrow = n.narrow; last = n.last } in
    let w = n.within in
    let l : c.line_to-end.result < length s = omega (arith, w, c.if-end-spaces.false) in
    rw c.in_ok-push.ensures.items (Filling-more ws s limit c.loop-limit.places.items c.loop-limit.first c.line_to-end.result c.requires.paragraph l t c.loop-limit.invariant)
