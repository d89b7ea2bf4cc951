use Rattle.std.proofs.Common.{◌≡◌, ◌∙◌, ap}
use Rattle.std.proofs.lemmas.Result.{on_ok_weaker}
use Rattle.blend.specs.Areas.{placed_of}
use Rattle.plain_images.specs.Panes.{both_panes, box_pane}
use Rattle.plain_images.proofs.ListingLemmas.{clip_kept, clip_turned, part_cuttable}
use Rattle.plain_images.proofs.PaneLemmas.{both_part}
use Rattle.plain_images.proofs.listing.add_under_clip.Goals as goal

pub add_pane-requires-else-inverse : goal.add_pane-requires-else-inverse
add_pane-requires-else-inverse c = part_cuttable (placed_of c.args.placed) _ c.args.pane (rw c.both-part.ensures (both_part c.args.pane c.box_pane.result)) c.requires

pub returns-then-inverse : goal.returns-then-inverse
returns-then-inverse c =
    on_ok_weaker c.add_pane.result (clip_turned (placed_of c.args.placed) (placed_of c.args.over) c.args.pane c.args.inverse c.args.colour _ _ c.if-inverse.true) c.add_pane.ensures

pub returns-else-inverse : goal.returns-else-inverse
returns-else-inverse c =
    let over = c.args.over in
    let part_is : c.both-part.result ≡ both_panes c.args.pane (box_pane over.mask.now over.x over.y) = c.both-part.ensures ∙ ap (both_panes c.args.pane) c.box_pane.ensures in
    on_ok_weaker c.add_pane-else-inverse.result
    (clip_kept (placed_of c.args.placed) (placed_of over) c.args.pane c.both-part.result c.args.inverse c.args.colour _ _ c.if-inverse.false part_is) c.add_pane-else-inverse.ensures
