use Rattle.std.proofs.Common.{◌∷◌, List, rules, subst, sym, SFits, w64}
use Rattle.std.specs.List.Sorted.{IsPermutation}
use Rattle.std.proofs.lemmas.Int.{to_z-of_z}
use Rattle.std.proofs.lemmas.List.Sorted.{IsPermutation-insert}
use Rattle.event_places.specs.Steps.{AreFromLowest}
use Rattle.event_places.specs.declared.placed_boxes.PlacedBox.{PlacedBox}
use Rattle.event_places.proofs.ClearLemmas.{sorted_insert}
use Rattle.event_places.proofs.placed_boxes.add_box.Goals as goal

pub returns-clause-members : goal.returns-clause-members
returns-clause-members c =
    let old = c.args.boxes.now.items in
    subst (λ (z : List PlacedBox). IsPermutation (c.args.one ∷ old) z) (sym c.in_ok-insert.ensures.items) (IsPermutation-insert old c.place_among-place.result c.args.one)

pub returns-clause-sorted : goal.returns-clause-sorted
returns-clause-sorted c =
    let place = c.place_among-place.result in
    let f : SFits w64 c.args.one.place.top = search rules in
    subst AreFromLowest (sym c.in_ok-insert.ensures.items)
    (sorted_insert c.args.boxes.now.items place c.args.one c.requires.sorted (rw c.as_slice.ensures.value at c.place_among-place.ensures.within)
    (rw (c.as_slice.ensures.value, to_z-of_z w64 c.args.one.place.top f) at c.place_among-place.ensures.lower)
    (rw (c.as_slice.ensures.value, to_z-of_z w64 c.args.one.place.top f) at c.place_among-place.ensures.higher))
