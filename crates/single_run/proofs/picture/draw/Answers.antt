use Rattle.std.proofs.Common.{inl, refl, subst, sym}
use Rattle.frame_images.specs.FrameImages.{IsFormattedImage}
use Rattle.run_status.specs.declared.status.Which.TheVariants.{Frames}
use Rattle.single_run.proofs.PieceLemmas.{pieces_more}
use Rattle.single_run.proofs.Runs.{shown_more, shown_nothing}
use Rattle.single_run.proofs.picture.draw.Goals as goal

pub returns-in-Ok-clause-shown : goal.returns-in-Ok-clause-shown
returns-in-Ok-clause-shown g c =
    let may = IsFormattedImage c.args.frame.now.format c.args.inputs.script c.args.inputs.fonts c.args.frame.now.at c.args.frame.now.view in
    shown_more c.show.result _ _ _ may (λ bytes is. subst may (sym is) (subst may (sym c.as_slice.ensures.value) c.in-Ok.ensures)) c.show.ensures.shown

pub returns-in-Err-clause-shown : goal.returns-in-Err-clause-shown
returns-in-Err-clause-shown g c = shown_nothing _ _

pub returns-in-Ok-clause-pieces : goal.returns-in-Ok-clause-pieces
returns-in-Ok-clause-pieces g c =
    let may = IsFormattedImage c.args.frame.now.format c.args.inputs.script c.args.inputs.fonts c.args.frame.now.at c.args.frame.now.view in
    pieces_more Frames c.show.result _ may _ _ (λ bytes is. subst may (sym is) (subst may (sym c.as_slice.ensures.value) c.in-Ok.ensures)) c.show.ensures.pieces

pub returns-in-Err-clause-pieces : goal.returns-in-Err-clause-pieces
returns-in-Err-clause-pieces g c = inl refl
