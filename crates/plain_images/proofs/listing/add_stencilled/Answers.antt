use Rattle.std.proofs.Common.{subst, w32, arith, rules}
use Rattle.std.specs.Prelude.{OnOk}
use Rattle.std.proofs.lemmas.Int.{ints, to_z-of_z}
use Rattle.std.proofs.lemmas.Result.{on_ok_weaker}
use Rattle.ass_num.specs.Masks.{MaskValue}
use Rattle.blend.specs.Areas.{placed_of}
use Rattle.blend.specs.Blending.{Drawn}
use Rattle.plain_images.specs.Listing.{AddsPanes}
use Rattle.plain_images.specs.PlainImages.{stencil_panes}
use Rattle.plain_images.proofs.ListingLemmas.{clip_same, rect_same}
use Rattle.plain_images.proofs.listing.add_stencilled.Goals as goal

pub returns-in-Free : goal.returns-in-Free
returns-in-Free g c = rw c.in-Free.is c.add_pane.ensures

pub returns-in-Rect : goal.returns-in-Rect
returns-in-Rect g c =
    let r = c.in-Rect in
    rw r.is
    (on_ok_weaker c.add_in_rect.result
    (rect_same (placed_of c.args.placed) c.args.pane _ r.inverse c.args.colour _ _ r.x1 r.y1 r.x2 r.y2
    (omega (arith, ints)) (omega (arith, ints)) (omega (arith, ints)) (omega (arith, ints)))
    c.add_in_rect.ensures)

pub returns-in-Drawn : goal.returns-in-Drawn
returns-in-Drawn g c =
    let r = c.in-Drawn in
    rw r.is
    (subst
    (λ (m : MaskValue). OnOk c.add_under_clip.result (AddsPanes (placed_of c.args.placed) (Drawn m r.x r.y r.inverse) (stencil_panes (Drawn m r.x r.y r.inverse) c.args.pane) c.args.colour c.args.plains.now.items c.add_under_clip.new.plains.items))
    c.as_mask.ensures
    (on_ok_weaker c.add_under_clip.result
    (clip_same (placed_of c.args.placed) c.args.pane c.as_mask.result.now _ _ r.x r.y r.inverse c.args.colour _ _ (to_z-of_z w32 r.x (search rules)) (to_z-of_z w32 r.y (search rules)))
    c.add_under_clip.ensures))
