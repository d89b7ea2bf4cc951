use Rattle.std.proofs.lemmas.Result.{on_ok_weaker}
use Rattle.blend.specs.Areas.{placed_of}
use Rattle.plain_images.proofs.ListingLemmas.{part_cuttable, rect_kept, rect_turned}
use Rattle.plain_images.proofs.PaneLemmas.{both_part}
use Rattle.plain_images.proofs.listing.add_in_rect.Goals as goal

pub add_around-requires-clause-part : goal.add_around-requires-clause-part
add_around-requires-clause-part c = rw c.both-part.ensures (both_part c.args.pane c.args.rect)

pub add_pane-requires : goal.add_pane-requires
add_pane-requires c = part_cuttable (placed_of c.args.placed) _ c.args.pane (rw c.both-part.ensures (both_part c.args.pane c.args.rect)) c.requires

pub returns-then-inverse : goal.returns-then-inverse
returns-then-inverse c =
    on_ok_weaker c.add_around.result
    (rect_turned (placed_of c.args.placed) c.args.pane c.args.rect c.both-part.result c.args.inverse c.args.colour _ _ c.if-inverse.true c.both-part.ensures) c.add_around.ensures

pub returns-else-inverse : goal.returns-else-inverse
returns-else-inverse c =
    on_ok_weaker c.add_pane.result
    (rect_kept (placed_of c.args.placed) c.args.pane c.args.rect c.both-part.result c.args.inverse c.args.colour _ _ c.if-inverse.false c.both-part.ensures) c.add_pane.ensures
