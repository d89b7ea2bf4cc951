use Rattle.std.proofs.Common.{List, ◌∷◌, [], refl, sym, subst}
use Rattle.blend.specs.Areas.{placed_of}
use Rattle.plain_images.specs.Cutting.{clip_stencil}
use Rattle.plain_images.specs.Listing.{AddsPanes}
use Rattle.plain_images.specs.declared.plain.PlainImage.{PlainImage}
use Rattle.plain_images.proofs.ListingLemmas.{adds_cut, adds_empty}
use Rattle.plain_images.proofs.PaneLemmas.{sides}
use Rattle.plain_images.proofs.listing.add_pane.Goals as goal

pub cut_mask-requires-clause-some : goal.cut_mask-requires-clause-some
cut_mask-requires-clause-some c = sides c.args.pane (sym c.if-is_empty.ensures)

pub returns-then-is_empty : goal.returns-then-is_empty
returns-then-is_empty c = adds_empty (placed_of c.args.placed) (clip_stencil c.args.clip) c.args.pane c.args.colour c.args.plains.now.items (sym c.if-is_empty.ensures)

pub returns : goal.returns
returns c =
    subst (λ (z : List PlainImage). AddsPanes (placed_of c.args.placed) (clip_stencil c.args.clip) (c.args.pane ∷ []) c.args.colour c.args.plains.now.items z) (sym c.in_ok-push.ensures.items)
    (adds_cut (placed_of c.args.placed) (clip_stencil c.args.clip) c.args.pane c.args.colour c.args.plains.now.items _ (sym c.if-is_empty.ensures) refl c.in_ok-mask.ensures)
