use Rattle.std.proofs.Common.{◌≡◌, ◌∙◌, IfOk, ap, subst}
use Rattle.ass_script.specs.Scripts.{ScriptValue}
use Rattle.ass_script.specs.declared.script.Header.{Header}
use Rattle.play_model.specs.Images.{play_form}
use Rattle.run_words.specs.Forms.{image_form}
use Rattle.run_words.specs.declared.job.ImageForm.{ImageForm}
use Rattle.play_workers.specs.FrameImages.{IsImageOfFrame}
use Rattle.play_workers.specs.Stages.{play_on}
use Rattle.play_workers.proofs.Painted.{image_written}
use Rattle.play_workers.proofs.painter.image_of.Goals as goal

pub returns : goal.returns
returns g c history t is =
    let stage = c.args.stage.now in
    let frame = c.args.frame.now in
    let format = stage.job.format in
    let form : c.image_form-form.result ≡ play_form (play_on stage) =
    c.image_form-form.ensures ∙ ap (λ (h : Header). image_form format h.matrix) c.header.ensures
    ∙ ap (λ (s : ScriptValue). image_form format s.header.matrix) c.deref.ensures in
    image_written (play_on stage) stage.renderer.script c.requires.stage.same_script history t frame is c.image_in.result
    (subst (λ (f : ImageForm). IfOk c.image_in.result (λ image. IsImageOfFrame f frame image.items)) form c.image_in.ensures)
