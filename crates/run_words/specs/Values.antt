-- Public: whether the text of a value is of its rule (docs/PROGRAM.md).
use Rattle.std.specs.Prelude.{ℕ, ◌||◌, Bool, true, List, Option, Some, None, is_some, if◌then◌else◌, codes}
use Rattle.std.specs.Str.{bytes_eq}
use Rattle.ass_script.specs.Matrices.{video_colours_named}
use Rattle.value_texts.specs.Values.{aspect_in, content_in, letters_in, number_within, rate_in, size_in, storage_in}
use Rattle.run_words.specs.declared.argument.Kind.{Kind}
use Rattle.run_words.specs.declared.argument.Kind.TheVariants.{Number, FrameSize, VideoSize, PixelShape, PictureRect, LettersRule, PlayMode, PictureFormat, ColourRule, ChromaSampling, FramesInSeconds, WrittenForm, Alone, FileName}
use Rattle.run_words.specs.declared.job.FrameFormat.{FrameFormat}
use Rattle.run_words.specs.declared.job.FrameFormat.TheVariants.{Ppm, Pam, Rgba}
use Rattle.run_words.specs.declared.job.Mode.{Mode}
use Rattle.run_words.specs.declared.report_words.ReportForm.{ReportForm}
use Rattle.run_words.specs.declared.report_words.ReportForm.TheVariants.{Text, Json, Silent}
use Rattle.run_words.specs.declared.job.Mode.TheVariants.{Live, Settled}
use Rattle.y4m_text.specs.declared.form.Sampling.{Sampling}
use Rattle.y4m_text.specs.declared.form.Sampling.TheVariants.{Yuv420, Yuv444}

-- the mode that a text is
abbrev pub mode_in : List ℕ → Option Mode
mode_in text = if bytes_eq text (codes "live") then Some Live else (if bytes_eq text (codes "settled") then Some Settled else None)

-- the format that a text is
abbrev pub format_in : List ℕ → Option FrameFormat
format_in text =
    if bytes_eq text (codes "ppm") then Some Ppm else (if bytes_eq text (codes "pam") then Some Pam else (if bytes_eq text (codes "rgba") then Some Rgba else None))

-- the form of a report that a text is
abbrev pub form_in : List ℕ → Option ReportForm
form_in text =
    if bytes_eq text (codes "text") then Some Text else (if bytes_eq text (codes "json") then Some Json else (if bytes_eq text (codes "none") then Some Silent else None))

-- the format of a video
abbrev pub is_video_word : List ℕ → Bool
is_video_word text = bytes_eq text (codes "y4m")

abbrev pub is_format : List ℕ → Bool
is_format text = is_video_word text || is_some (format_in text)

-- `script`, or a name of a video's colours
abbrev pub is_colour_rule : List ℕ → Bool
is_colour_rule text = bytes_eq text (codes "script") || is_some (video_colours_named text)

abbrev pub sampling_in : List ℕ → Option Sampling
sampling_in text = if bytes_eq text (codes "420") then Some Yuv420 else (if bytes_eq text (codes "444") then Some Yuv444 else None)

-- The text is of the rule of its kind.
abbrev pub is_of_kind : Kind → List ℕ → Bool
is_of_kind (Number least most) text = is_some (number_within least most text)
is_of_kind FrameSize text = is_some (size_in text)
is_of_kind VideoSize text = is_some (storage_in text)
is_of_kind PixelShape text = is_some (aspect_in text)
is_of_kind PictureRect text = is_some (content_in text)
is_of_kind LettersRule text = is_some (letters_in text)
is_of_kind PlayMode text = is_some (mode_in text)
is_of_kind PictureFormat text = is_format text
is_of_kind ColourRule text = is_colour_rule text
is_of_kind ChromaSampling text = is_some (sampling_in text)
is_of_kind FramesInSeconds text = is_some (rate_in text)
is_of_kind WrittenForm text = is_some (form_in text)
is_of_kind Alone text = true
is_of_kind FileName text = true
