use Rattle.std.proofs.Common.{subst}
use Rattle.std.specs.Prelude.{OnOk}
use Rattle.blend.specs.Blending.{Image}
use Rattle.player.specs.Listing.{AddsDraw}
use Rattle.player.proofs.listing.add_draw.Goals as goal

pub returns-clause-added : goal.returns-clause-added
returns-clause-added c =
    subst (λ (image : Image). OnOk c.add_image.result (AddsDraw c.args.size.now image c.args.images.now.items c.add_image.new.images.items)) c.in_ok-image.ensures.value c.add_image.ensures
