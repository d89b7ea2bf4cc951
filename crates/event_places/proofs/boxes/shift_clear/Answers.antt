use Rattle.std.proofs.Common.{◌<◌, length, rules, arith, subst, sym, SFits, w64, to_z}
use Rattle.std.proofs.lemmas.Int.{to_z-of_z}
use Rattle.event_places.proofs.WalkLemmas.{no_box, other_within, walked_all, walked_from, walked_more, way_within}
use Rattle.event_places.proofs.boxes.shift_clear.Goals as goal

pub loop-step-init : goal.loop-step-init
loop-step-init c =
    let f : SFits w64 c.args.from = search rules in
    rw (to_z-of_z w64 c.args.from f) (walked_from c.args.stand.now c.args.boxes.now c.args.from c.passed-step.result c.requires.from c.requires.known (rw (to_z-of_z w64 c.args.from f) at c.passed-step.ensures.apart))

pub past_if_met-shift-requires-clause-other : goal.past_if_met-shift-requires-clause-other
past_if_met-shift-requires-clause-other c =
    let here = way_within (length c.args.boxes.now) c.args.stand.now.down c.loop-step.step c.loop-step-test.true in
    other_within c.args.boxes.now c.on_the_way-next.result no_box c.requires.within (subst (λ n. n < length c.args.boxes.now) (sym c.on_the_way-next.ensures) here)

pub loop-step-preserved : goal.loop-step-preserved
loop-step-preserved c =
    let f : SFits w64 c.past_if_met-shift.result = search rules in
    rw (to_z-of_z w64 c.past_if_met-shift.result f)
    (walked_more c.args.stand.now c.args.boxes.now (to_z w64 c.loop-step.shift-bits) c.loop-step.step c.on_the_way-next.result c.past_if_met-shift.result c.requires.stand c.requires.within c.requires.sorted
    c.loop-step-test.true c.on_the_way-next.ensures c.loop-step.invariant c.past_if_met-shift.ensures.met c.past_if_met-shift.ensures.apart)

pub returns-clause-least : goal.returns-clause-least
returns-clause-least c = walked_all c.args.stand.now c.args.boxes.now (to_z w64 c.loop-step.shift-bits) c.loop-step.step (omega (arith, c.passed-step.ensures.within)) c.loop-step.invariant
