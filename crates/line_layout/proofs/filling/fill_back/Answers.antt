use Rattle.std.proofs.Common.{arith, ◌≡◌, ◌+◌, ◌-◌, to_z, of_z, w64}
use Rattle.std.proofs.lemmas.Int.{to_z-of_z}
use Rattle.line_layout.proofs.BackLemmas.{Backing-more, Backing-all, LineFrom}
use Rattle.line_layout.proofs.filling.fill_back.Goals as goal

pub returns : goal.returns
returns c =
    let ws = c.args.widths.now in
    let s = c.args.spaces.now in
    let limit = to_z w64 (of_z w64 c.args.limit) in
    let n = c.line_from-first.ensures in
    let t : LineFrom ws s limit c.loop-first.end c.line_from-first.result = record { back = n.back; narrow = n.narrow; last = n.last } in
    rw (c.reverse.ensures.items, ← to_z-of_z w64 c.args.limit c.ranges.limit)
    (Backing-all ws s limit c.loop-first.places.items c.loop-first.end c.line_from-first.result c.requires.paragraph c.if-first-eq0.true t c.loop-first.invariant)

pub loop-first-preserved : goal.loop-first-preserved
loop-first-preserved c =
    let ws = c.args.widths.now in
    let s = c.args.spaces.now in
    let limit = to_z w64 (of_z w64 c.args.limit) in
    let n = c.line_from-first.ensures in
    let first = c.line_from-first.result in
    let t : LineFrom ws s limit c.loop-first.end first = record { back = n.back; narrow = n.narrow; last = n.last } in
    let e : first ≡ first - 1 + 1 = omega (arith, c.if-first-eq0.false) in
    rw c.in_ok-push.ensures.items (Backing-more ws s limit c.loop-first.places.items c.loop-first.end first (first - 1) c.requires.paragraph e t c.loop-first.invariant)
