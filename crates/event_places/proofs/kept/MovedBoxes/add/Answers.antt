use Rattle.std.proofs.Common.{◌∷◌, ◌≤ℤ◌, refl, rules, SFits, w64}
use Rattle.std.specs.List.Sorted.{IsPermutation}
use Rattle.std.proofs.lemmas.Int.{to_z-of_z}
use Rattle.event_places.specs.Steps.{placed_box}
use Rattle.event_places.proofs.KeptLemmas.{one_more}
use Rattle.event_places.proofs.kept.MovedBoxes.add.Goals as goal

pub returns-clause-kept : goal.returns-clause-kept
returns-clause-kept c =
    let old = c.args.self.now in
    let span = c.args.span.now in
    let first = c.min-self.result in
    let tallest = c.taller-self.result in
    let ff : SFits w64 old.first_end = search rules in
    let fe : SFits w64 span.end = search rules in
    let fh : SFits w64 old.tallest = search rules in
    let fm : SFits w64 first = search rules in
    let fn : SFits w64 tallest = search rules in
    let members : IsPermutation (placed_box span c.args.stand.now c.args.shift ∷ old.boxes.items) c.add_box.new.boxes.items = search rules in
    let not_later : first ≤ℤ old.first_end = simp to_z-of_z at c.min-self.ensures.self_bound in
    let by_end : first ≤ℤ span.end = simp to_z-of_z at c.min-self.ensures.other_bound in
    let not_lower : old.tallest ≤ℤ tallest = simp to_z-of_z at c.taller-self.ensures.old in
    rw (to_z-of_z w64 first fm, to_z-of_z w64 tallest fn)
    (one_more old _ span c.args.stand.now c.args.shift c.requires.kept c.requires.layer members c.in_ok-add_box.ensures.sorted refl not_later by_end not_lower c.taller-self.ensures.new
    c.taller-self.ensures.tallest refl refl)
