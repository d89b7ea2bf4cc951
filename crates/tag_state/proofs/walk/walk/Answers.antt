use Rattle.std.proofs.Common.{arith, length, to_z-of_z, ℤ, sym, subst}
use Rattle.tag_state.specs.Walks.{IsAt}
use Rattle.tag_state.proofs.WalkLemmas.{at_front, pen_held, walked}
use Rattle.tag_state.proofs.walk.walk.Goals as goal

pub loop-place-init : goal.loop-place-init
loop-place-init c =
    let P : ℤ → Type 0 = λ z. IsAt c.args.script.now c.args.event.now z c.args.items.now 0 c.args.pen.now c.new-sheet.result in
    subst P (sym (to_z-of_z c.ranges.elapsed))
    (at_front c.args.script.now c.args.event.now c.args.elapsed c.args.items.now c.args.pen.now c.new-sheet.result c.requires.pen c.new-sheet.ensures.states c.new-sheet.ensures.items c.new-sheet.ensures.current)

pub returns : goal.returns
returns c =
    let P : ℤ → Type 0 = λ z. IsAt c.args.script.now c.args.event.now z c.args.items.now c.loop-place.place c.loop-place.pen c.loop-place.sheet in
    let at : IsAt c.args.script.now c.args.event.now c.args.elapsed c.args.items.now c.loop-place.place c.loop-place.pen c.loop-place.sheet = subst P (to_z-of_z c.ranges.elapsed) c.loop-place.invariant in
    walked c.args.script.now c.args.event.now c.args.elapsed c.args.items.now c.loop-place.place c.loop-place.pen c.loop-place.sheet c.end.new.self c.in_ok-end.ensures.last.0 at
    (omega (arith, c.loop-place-test.false)) c.in_ok-end.ensures.last.1 c.in_ok-end.ensures.grown c.end.ensures.items
    (c.in_ok-end.ensures.held (length c.loop-place.pen.fonts.names)
    (λ four. pen_held c.args.script.now c.args.event.now c.args.elapsed c.args.items.now c.loop-place.place c.loop-place.pen c.requires.script c.requires.items.held at.state four) at.shown.held)
