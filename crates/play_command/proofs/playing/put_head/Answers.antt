use Rattle.std.proofs.Common.{◌∙◌, sym, ap, subst}
use Rattle.ass_io.specs.declared.sink.Put.TheVariants as put
use Rattle.ass_script.specs.declared.script.Header.{Header}
use Rattle.play_model.specs.Heads.{head_in}
use Rattle.play_rounds.specs.Outputs.{ArePut}
use Rattle.play_rounds.proofs.Puts.{nothing_written}
use Rattle.run_words.specs.Forms.{image_form}
use Rattle.run_words.specs.declared.job.ImageForm.{ImageForm}
use Rattle.play_command.proofs.playing.put_head.Goals as goal

pub returns-in-Image : goal.returns-in-Image
returns-in-Image g c =
    let state = g.F.Sink.state c.args.frames.now in
    let job = c.args.job.now in
    subst (λ (f : ImageForm). ArePut (head_in f job.size job.instants.rate) put.Done state state)
    (sym c.in-Image.is ∙ c.image_form.ensures ∙ ap (λ (h : Header). image_form job.format h.matrix) c.header.ensures) (nothing_written state state state)

pub returns-in-Video : goal.returns-in-Video
returns-in-Video g c =
    let job = c.args.job.now in
    subst (λ (f : ImageForm). ArePut (head_in f job.size job.instants.rate) c.put_stream_head.result (g.F.Sink.state c.args.frames.now) (g.F.Sink.state c.put_stream_head.new.frames))
    (sym c.in-Video.is ∙ c.image_form.ensures ∙ ap (λ (h : Header). image_form job.format h.matrix) c.header.ensures) c.put_stream_head.ensures
