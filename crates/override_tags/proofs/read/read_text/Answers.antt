use Rattle.std.proofs.Common.{◌≡◌, ◌+◌, ◌-◌, ◌<◌, [], ◌∷◌, ◌++◌, length, refl, arith}
use Rattle.override_tags.specs.Fronts.{part_of}
use Rattle.override_tags.specs.Readings.{more, part_item, IsTextReading}
use Rattle.override_tags.proofs.PlaceLemmas.{items_cut}
use Rattle.override_tags.proofs.RangeLemmas.{items_held}
use Rattle.override_tags.proofs.ReadLemmas.{items_joined, items_none, items_whole}
use Rattle.override_tags.proofs.read.read_text.Goals as goal

pub loop-found-preserved : goal.loop-found-preserved
loop-found-preserved c =
    let inv = c.loop-found.invariant in
    let found = c.in-Some.found in
    let from = c.loop-found.from in
    let text = c.args.text.now in
    let to = length text - length found.rest.now in
    let part = part_of found.kind in
    let added = c.in_ok-add_part.ensures in
    let shorter : length found.rest.now < length c.loop-found.rest.now = c.in-Some.ensures.shorter in
    let place : to + length found.rest.now ≡ from + length c.loop-found.rest.now = omega arith in
    record {
      before = λ tail items. items_joined text c.loop-found.items.items c.add_part.new.items.items added.0 tail (part_item from to part) added.2
          (inv.before (part_item from to part ∷ (added.0 ++ tail)) (more from to c.loop-found.rest.now part found.rest.now added.0 tail c.in-Some.ensures.front place added.1 items));
      place = omega arith;
      closes = c.in-Some.ensures.closes;
      utf8 = c.in-Some.ensures.text;
    }

whole : (c : goal.In_default) → IsTextReading c.args.text.now c.loop-found.items.items
whole c =
    items_whole c.args.text.now c.loop-found.items.items
    (c.loop-found.invariant.before [] (items_none c.loop-found.from c.loop-found.rest.now c.in_default.ensures.none))

pub returns-clause-reading : goal.returns-clause-reading
returns-clause-reading c = whole c

pub returns-clause-held : goal.returns-clause-held
returns-clause-held c = items_held (whole c)

pub returns-clause-cuts : goal.returns-clause-cuts
returns-clause-cuts c = items_cut (whole c) c.args.text.now (omega arith) refl c.utf8.text
