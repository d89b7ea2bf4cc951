-- Public: how images are written.
use Rattle.ass_script.specs.declared.matrix.ScriptMatrix.{ScriptMatrix}
use Rattle.run_words.specs.declared.job.ImageForm.{ImageForm}
use Rattle.run_words.specs.declared.job.ImageForm.TheVariants as form
use Rattle.run_words.specs.declared.job.PlayFormat.{PlayFormat}
use Rattle.run_words.specs.declared.job.PlayFormat.TheVariants.{Image, Video}
use Rattle.y4m_text.specs.Forms.{form_for}

-- how the images of a play are written, by what its script says of its matrix
abbrev pub image_form : PlayFormat → ScriptMatrix → ImageForm
image_form (Image format) said = form.Image format
image_form (Video choice) said = form.Video (form_for choice said)
