use Rattle.std.proofs.Common.{◌∙◌, [], w32}
use Rattle.std.proofs.lemmas.Int.{to_z-of_z}
use Rattle.std.proofs.lemmas.List.Elements.{All-cons, All-nil}
use Rattle.std.specs.Arc.{arc_value}
use Rattle.mask_cover.specs.Sums.{IsPlaceableMask}
use Rattle.value_tests.proofs.PlacedLemmas.{placeable}
use Rattle.value_tests.proofs.values.moved.Goals as goal

pub made_composite-requires-clause-masks : goal.made_composite-requires-clause-masks
made_composite-requires-clause-masks c =
    let mask = arc_value c.args.mask.now in
    let part = c.dot_part-part in
    let dx = part.ensures.dx ∙ to_z-of_z w32 c.args.dx c.ranges.dx in
    let dy = part.ensures.dy ∙ to_z-of_z w32 c.args.dy c.ranges.dy in
    rw (c.from_ref-parts.ensures.value, c.from_ref-masks.ensures.value)
    (All-cons IsPlaceableMask (mask, part.result.dx, part.result.dy) [] (placeable mask part.result.dx part.result.dy c.args.dx c.args.dy c.requires.mask dx dy c.requires.dx c.requires.dy) (All-nil IsPlaceableMask))
