use Rattle.std.proofs.Common.{sym}
use Rattle.std.proofs.lemmas.Result.{on_ok_weaker}
use Rattle.blend.specs.Areas.{placed_of}
use Rattle.plain_images.proofs.ListingLemmas.{around_empty, around_some}
use Rattle.plain_images.proofs.PaneLemmas.{sides}
use Rattle.plain_images.proofs.listing.add_around.Goals as goal

pub add_beside-requires-clause-some : goal.add_beside-requires-clause-some
add_beside-requires-clause-some c = sides c.args.hole (sym c.if-is_empty.ensures)

pub returns-then-is_empty : goal.returns-then-is_empty
returns-then-is_empty c =
    on_ok_weaker c.add_pane.result (around_empty (placed_of c.args.placed) c.args.pane c.args.hole c.args.colour _ _ (sym c.if-is_empty.ensures)) c.add_pane.ensures

pub returns-else-is_empty : goal.returns-else-is_empty
returns-else-is_empty c =
    on_ok_weaker c.add_beside.result (around_some (placed_of c.args.placed) c.args.pane c.args.hole c.args.colour _ _ (sym c.if-is_empty.ensures)) c.add_beside.ensures
