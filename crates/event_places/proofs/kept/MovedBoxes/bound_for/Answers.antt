use Rattle.std.proofs.Common.{refl, rules, SFits, w64}
use Rattle.std.proofs.lemmas.Int.{to_z-of_z}
use Rattle.event_places.specs.Steps.{box_places}
use Rattle.event_places.proofs.KeptLemmas.{covered_bound, tried_again}
use Rattle.event_places.proofs.kept.MovedBoxes.bound_for.Goals as goal

pub shift_clear-self-requires-clause-sorted : goal.shift_clear-self-requires-clause-sorted
shift_clear-self-requires-clause-sorted c = rw c.as_slice.ensures.value c.try_covered.ensures.kept.sorted

pub shift_clear-self-requires-clause-high : goal.shift_clear-self-requires-clause-high
shift_clear-self-requires-clause-high c =
    let f : SFits w64 c.try_covered.new.self.tallest = search rules in
    rw (c.as_slice.ensures.value, to_z-of_z w64 c.try_covered.new.self.tallest f) c.try_covered.ensures.kept.high

pub shift_clear-self-requires-clause-known : goal.shift_clear-self-requires-clause-known
shift_clear-self-requires-clause-known c =
    let f : SFits w64 c.try_covered.new.self.shift = search rules in
    rw (c.as_slice.ensures.value, to_z-of_z w64 c.try_covered.new.self.shift f) c.try_covered.ensures.kept.bound

pub returns-clause-kept : goal.returns-clause-kept
returns-clause-kept c =
    let shift = c.shift_clear-self.result in
    let f : SFits w64 shift = search rules in
    let clear = rw c.as_slice.ensures.value at c.shift_clear-self.ensures.least in
    rw (to_z-of_z w64 shift f)
    (tried_again c.try_covered.new.self _ c.try_covered.ensures.kept refl refl refl refl c.try_covered.ensures.kept.tried c.shift_clear-self.ensures.range clear.least)

pub returns-clause-bound : goal.returns-clause-bound
returns-clause-bound c =
    let shift = c.shift_clear-self.result in
    let f : SFits w64 shift = search rules in
    let clear = rw (c.as_slice.ensures.value, c.try_covered.ensures.boxes) at c.shift_clear-self.ensures.least in
    rw (to_z-of_z w64 shift f, to_z-of_z w64 shift f)
    (covered_bound c.args.stand.now c.try_covered.new.self.tried (box_places c.args.self.now.boxes.items) shift c.try_covered.ensures.covers clear.least)
