use Rattle.std.proofs.Common.{◌≡◌, ap, ◌∙◌, rules, arith, SFits, to_z, of_z, w64, ◌<ℤ◌}
use Rattle.std.proofs.lemmas.Int.{ints, to_z-of_z}
use Rattle.event_places.proofs.ShiftLemmas.{left-falls, least-IsShift, least-IsWithin}
use Rattle.event_places.proofs.shift.least_shift.Goals as goal

pub loop-shift-smaller : goal.loop-shift-smaller
loop-shift-smaller c =
    let next = c.hop-next.result in
    let o = c.hop-next.ensures.onward in
    let f = c.hop-next.ensures.shift in
    let s : SFits w64 next = search rules in
    let t = to_z w64 c.loop-shift.shift-bits in
    let k : of_z w64 t ≡ c.loop-shift.shift-bits = search rules in
    let n : next ≡ t → ⊥ = λ e. c.if-next-shift.false (ap (of_z w64) e ∙ k) in
    let l : to_z w64 c.loop-shift.shift-bits <ℤ next = omega (arith, ints, o, n) in
    rw (to_z-of_z w64 next s) (left-falls (to_z w64 c.loop-shift.shift-bits) next l f)

pub returns-then-next-shift-clause-least : goal.returns-then-next-shift-clause-least
returns-then-next-shift-clause-least c = search rules

pub returns-then-next-shift-clause-within : goal.returns-then-next-shift-clause-within
returns-then-next-shift-clause-within c limit w ws = least-IsShift c.args.b.now c.args.others.now c.args.down limit _ w ws (returns-then-next-shift-clause-least c)

pub returns-then-next-shift-clause-moved : goal.returns-then-next-shift-clause-moved
returns-then-next-shift-clause-moved c limit height w ws low = least-IsWithin c.args.b.now c.args.others.now c.args.down limit height _ w ws low (returns-then-next-shift-clause-least c)
