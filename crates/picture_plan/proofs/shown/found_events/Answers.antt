use Rattle.std.proofs.Common.{◌≡◌, ℕ, length, map, subst, to_z-of_z, rules, arith}
use Rattle.std.proofs.lemmas.Grind.{common_steps}
use Rattle.std.specs.Arc.{arc_value}
use Rattle.picture_plan.specs.ShownEvents.{AreShownPlaces, event_placed_at}
use Rattle.picture_plan.proofs.ShownLemmas.{shown_more}
use Rattle.picture_plan.proofs.shown.found_events.Goals as goal

pub loop-place-preserved : goal.loop-place-preserved
loop-place-preserved c =
    let events = map arc_value c.args.events.now in
    let is : c.event_of.result.now ≡ event_placed_at events c.args.placed.now c.loop-place.place = first_of (search rules, grind (arith, common_steps)) in
    rw (to_z-of_z c.ranges.t)
    (shown_more events c.args.placed.now c.args.t c.loop-place.place c.event_of.result.now c.loop-place.shown.items c.push_shown.new.shown.items
    (rw (to_z-of_z c.ranges.t) at c.loop-place.invariant) is (rw (to_z-of_z c.ranges.t) at c.in_ok-push_shown.ensures))

pub returns : goal.returns
returns c =
    let n : c.loop-place.place ≡ length c.args.placed.now = omega (arith, c.loop-place-test.false, c.loop-place.auto.place-end) in
    subst (λ (k : ℕ). AreShownPlaces (map arc_value c.args.events.now) c.args.placed.now c.args.t k c.loop-place.shown.items) n
    (rw (to_z-of_z c.ranges.t) at c.loop-place.invariant)
