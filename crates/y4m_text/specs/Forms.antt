-- Public: the form of a script's video.
use Rattle.std.specs.Prelude.{unwrap_or}
use Rattle.ass_script.specs.declared.matrix.ColourRange.TheVariants.{Limited}
use Rattle.ass_script.specs.declared.matrix.ColourMatrix.TheVariants.{Bt601}
use Rattle.ass_script.specs.declared.matrix.ScriptMatrix.{ScriptMatrix}
use Rattle.ass_script.specs.declared.matrix.ScriptMatrix.TheVariants.{Unconverted, Unsaid, Video}
use Rattle.ass_script.specs.declared.matrix.VideoColours.{VideoColours}
use Rattle.y4m_text.specs.declared.form.VideoChoice.{VideoChoice}
use Rattle.y4m_text.specs.declared.form.VideoForm.{VideoForm}

abbrev pub usual_colours : VideoColours
usual_colours = record { matrix = Bt601; range = Limited }

-- the colours of the video for which a script is, which players take for the usual ones where it names none
abbrev pub colours_said : ScriptMatrix → VideoColours
colours_said Unsaid = usual_colours
colours_said Unconverted = usual_colours
colours_said (Video colours) = colours

-- the form that is asked for: its colours, or else those for which the script is
abbrev pub form_for : VideoChoice → ScriptMatrix → VideoForm
form_for choice said = record { colours = unwrap_or choice.colours (colours_said said); sampling = choice.sampling }
