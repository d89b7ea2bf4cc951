-- Public: what a command is asked for, by what was found for its arguments.
use Rattle.std.specs.Prelude.{◌≡◌, ℕ, pos, Bool, true, false, not, ◌&&◌, ◌||◌, if◌then◌else◌, is_some, List, [], Option, Some, None, Result, Ok, Err, find, unwrap_or, option_and_then, codes}
use Rattle.std.specs.List.{list_any}
use Rattle.std.specs.Option.{option_map_or}
use Rattle.std.specs.Str.{bytes_eq}
use Rattle.ass_num.specs.declared.size.Size.{Size}
use Rattle.ass_script.specs.Matrices.{video_colours_named}
use Rattle.frame_rate.specs.Instants.{counted_instants, instants_before}
use Rattle.frame_rate.specs.Rates.{step_rate}
use Rattle.frame_rate.specs.declared.instants.Instants.{Instants}
use Rattle.frame_rate.specs.declared.rate.FrameRate.{FrameRate}
use Rattle.frame_view.specs.FrameViews.{plain_frame}
use Rattle.frame_view.specs.Limits.{whole_letter_scale}
use Rattle.frame_view.specs.declared.view.FrameView.{FrameView}
use Rattle.frame_view.specs.declared.view.LetterWidth.TheVariants.{Canvas}
use Rattle.clap.specs.Walk.{Row, all_of, first_of}
use Rattle.run_words.specs.Arguments.{argument_name, argument_kind, shown_name}
use Rattle.run_words.specs.Commands.{arguments_of, sharing_arguments}
use Rattle.run_words.specs.Limits.{usual_batch, usual_budget}
use Rattle.value_texts.specs.Values.{aspect_in, content_in, letters_in, number_within, rate_in, size_in, storage_in}
use Rattle.run_words.specs.Values.{format_in, is_of_kind, is_video_word, mode_in, sampling_in}
use Rattle.run_words.specs.declared.argument.Argument.{Argument}
use Rattle.run_words.specs.declared.argument.Argument.TheVariants as argument
use Rattle.run_words.specs.declared.argument.Kind.{Kind}
use Rattle.run_words.specs.declared.argument.Kind.TheVariants.{Number}
use Rattle.run_words.specs.declared.command.Command.{Command}
use Rattle.run_words.specs.declared.command.Command.TheVariants as command
use Rattle.run_words.specs.declared.job.ChangesJob.{ChangesJob}
use Rattle.run_words.specs.declared.job.FrameFormat.{FrameFormat}
use Rattle.run_words.specs.declared.job.FrameFormat.TheVariants.{Ppm}
use Rattle.run_words.specs.declared.job.FrameJob.{FrameJob}
use Rattle.run_words.specs.declared.job.Job.{Job}
use Rattle.run_words.specs.declared.job.Job.TheVariants.{Check, Frame, Play, Stills, Selftest, Changes, Write}
use Rattle.run_words.specs.declared.job.Mode.{Mode}
use Rattle.run_words.specs.declared.job.Mode.TheVariants.{Settled}
use Rattle.run_words.specs.declared.job.PlayFormat.{PlayFormat}
use Rattle.run_words.specs.declared.job.PlayFormat.TheVariants.{Image, Video}
use Rattle.run_words.specs.declared.job.PlayJob.{PlayJob}
use Rattle.run_words.specs.declared.job.ScriptSource.{ScriptSource}
use Rattle.run_words.specs.declared.job.StillsJob.{StillsJob}
use Rattle.run_words.specs.declared.job.WordsFault.{WordsFault}
use Rattle.run_words.specs.declared.job.WordsFault.TheVariants.{Value}
use Rattle.y4m_text.specs.declared.form.Sampling.{Sampling}
use Rattle.y4m_text.specs.declared.form.Sampling.TheVariants.{Yuv420}
use Rattle.y4m_text.specs.declared.form.VideoChoice.{VideoChoice}

-- the text that was found for an argument
abbrev pub text_at : List Row → Argument → Option (List ℕ)
text_at rows argument = first_of (argument_name argument) rows

-- An argument that isn't given is of its rule.
abbrev pub fits : List Row → Argument → Bool
fits rows argument = option_map_or (is_of_kind (argument_kind argument)) (text_at rows argument) true

-- the first argument of a command of which the text isn't of its rule
abbrev pub first_bad : List Row → Command → Option Argument
first_bad rows command = find (λ argument. not (fits rows argument)) (arguments_of command)

abbrev pub number_by : Kind → Option (List ℕ) → ℕ → ℕ
number_by (Number least most) text absent = unwrap_or (option_and_then (number_within least most) text) absent
number_by _ text absent = absent

-- the number of an argument, or what stands for it where it isn't given
abbrev pub number_at : List Row → Argument → ℕ → ℕ
number_at rows argument absent = number_by (argument_kind argument) (text_at rows argument) absent

abbrev pub smallest_size : Size
smallest_size = record { w = 1; h = 1 }

-- the size of the frames, which is always given
abbrev pub size_at : List Row → Size
size_at rows = unwrap_or (option_and_then size_in (text_at rows argument.Size)) smallest_size

-- what the frames are to the script
abbrev pub frame_at : List Row → FrameView
frame_at rows = record {
  size = size_at rows;
  content = option_and_then content_in (text_at rows argument.Content);
  storage = option_and_then storage_in (text_at rows argument.Storage);
  aspect = option_and_then aspect_in (text_at rows argument.Aspect);
  letters = unwrap_or (option_and_then letters_in (text_at rows argument.Letters)) Canvas;
  scale = number_at rows argument.Scale whole_letter_scale;
  bars = false;
}

abbrev pub format_at : List Row → FrameFormat
format_at rows = unwrap_or (option_and_then format_in (text_at rows argument.Format)) Ppm

abbrev pub sampling_at : List Row → Sampling
sampling_at rows = unwrap_or (option_and_then sampling_in (text_at rows argument.Chroma)) Yuv420

-- what is asked for in a video: the colours that a name means, or else those for which the script is
abbrev pub video_at : List Row → VideoChoice
video_at rows = record { colours = option_and_then video_colours_named (text_at rows argument.Matrix); sampling = sampling_at rows }

-- the rate of the instants, or that of their step
abbrev pub rate_at : List Row → FrameRate
rate_at rows = unwrap_or (option_and_then rate_in (text_at rows argument.Rate)) (step_rate (number_at rows argument.Step 1))

-- so many instants, or those that come before the end
abbrev pub instants_at : List Row → Instants
instants_at rows =
    if is_some (text_at rows argument.Frames) then counted_instants (rate_at rows) (number_at rows argument.From 0) (number_at rows argument.Frames 1)
    else instants_before (rate_at rows) (number_at rows argument.From 0) (number_at rows argument.To 0)

abbrev pub is_just_one : Option (List ℕ) → Option (List ℕ) → Bool
is_just_one None (Some rate) = true
is_just_one (Some step) None = true
is_just_one _ _ = false

-- Just one of a step and a rate is told, and just one of an end and a number of frames.
abbrev pub is_paced : List Row → Bool
is_paced rows =
    is_just_one (text_at rows argument.Step) (text_at rows argument.Rate) && is_just_one (text_at rows argument.To) (text_at rows argument.Frames)

-- The option that stands alone is there.
abbrev pub is_told : List Row → Argument → Bool
is_told rows argument = option_map_or (λ text. bytes_eq text (codes "true")) (text_at rows argument) false

-- Something is told of how the work of a play is shared out.
abbrev pub is_shared_out : List Row → Bool
is_shared_out rows = list_any (λ argument. is_some (text_at rows argument)) sharing_arguments

-- Images are asked for as a video.
abbrev pub is_video : List Row → Bool
is_video rows = option_map_or is_video_word (text_at rows argument.Format) false

-- how the frames of a play are written
abbrev pub play_format_at : List Row → PlayFormat
play_format_at rows = if is_video rows then Video (video_at rows) else Image (format_at rows)

-- A matrix and a sampling are told of a video alone.
abbrev pub is_video_apart : List Row → Bool
is_video_apart rows = is_video rows || (not (is_some (text_at rows argument.Matrix)) && not (is_some (text_at rows argument.Chroma)))

-- Changed images are no video and the work of their play isn't shared out, and the images of no other play are cropped.
abbrev pub are_stills_apart : List Row → Bool
are_stills_apart rows = if is_told rows argument.Changed then not (is_shared_out rows) && not (is_video rows) else not (is_told rows argument.Crop)

-- A list of changed images is made of whole frames.
abbrev pub is_index_apart : List Row → Bool
is_index_apart rows = not (is_some (text_at rows argument.Index)) || (is_told rows argument.Changed && not (is_told rows argument.Crop))

-- What is told to a command goes together.
abbrev pub goes_together : List Row → Command → Bool
goes_together rows command.Play = is_paced rows && are_stills_apart rows && is_index_apart rows && is_video_apart rows
goes_together rows command.Frame = not (is_video rows)
goes_together rows command.Changes = is_paced rows
goes_together rows _ = true

abbrev pub mode_at : List Row → Mode
mode_at rows = unwrap_or (option_and_then mode_in (text_at rows argument.Mode)) Settled

-- the name of the script, which is always given
abbrev pub script_at : List Row → List ℕ
script_at rows = unwrap_or (text_at rows argument.Script) []

abbrev pub source_at : List Row → ScriptSource
source_at rows = record { name = script_at rows; own_fonts = is_told rows argument.ScriptFonts }

-- the names of the fonts, in the order of the words
abbrev pub fonts_at : List Row → List (List ℕ)
fonts_at rows = unwrap_or (all_of (argument_name argument.Fonts) rows) []

abbrev pub budget_at : List Row → ℕ
budget_at rows = number_at rows argument.Budget usual_budget

-- what a `play` is asked for
abbrev pub play_of : List Row → PlayJob
play_of rows = record {
  instants = instants_at rows;
  size = size_at rows;
  feeders = number_at rows argument.Feeders 1;
  renderers = number_at rows argument.Renderers 1;
  batch = number_at rows argument.Batch usual_batch;
  again = number_at rows argument.Again 0;
  times = number_at rows argument.Times 1;
  ahead = number_at rows argument.Ahead 0;
  bands = number_at rows argument.Bands 1;
  format = play_format_at rows;
  budget = budget_at rows;
  mode = mode_at rows;
}

-- what a `play` of changed images is asked for
abbrev pub stills_of : List Row → StillsJob
stills_of rows = record {
  instants = instants_at rows;
  size = size_at rows;
  format = format_at rows;
  crop = is_told rows argument.Crop;
  budget = budget_at rows;
}

-- the job of a `play`
abbrev pub play_job : List Row → Job
play_job rows =
    if is_told rows argument.Changed then Stills (stills_of rows) (source_at rows) (fonts_at rows) else Play (play_of rows) (source_at rows) (fonts_at rows)

-- what a `frame` is asked for
abbrev pub frame_of : List Row → FrameJob
frame_of rows = record { at = number_at rows argument.At 0; view = frame_at rows; format = format_at rows; budget = budget_at rows }

-- what a `changes` is asked for
abbrev pub changes_of : List Row → ChangesJob
changes_of rows = record { instants = instants_at rows; view = frame_at rows; budget = budget_at rows }

-- the job of a command
abbrev pub job_for : List Row → Command → Job
job_for rows command.Check = Check (source_at rows) (fonts_at rows)
job_for rows command.Frame = Frame (frame_of rows) (source_at rows) (fonts_at rows)
job_for rows command.Play = play_job rows
job_for rows command.Selftest = Selftest (number_at rows argument.Seed 0) (number_at rows argument.Events 1) (number_at rows argument.Workers 1)
job_for rows command.Changes = Changes (changes_of rows) (source_at rows) (fonts_at rows)
job_for rows command.Write = Write (pos (number_at rows argument.Later 0)) (pos (number_at rows argument.Earlier 0)) (script_at rows)

abbrev pub unless_bad : Option Argument → Job → Result Job WordsFault
unless_bad None job = Ok job
unless_bad (Some argument) job = Err (Value (shown_name argument))

-- the job of a command, or the first of its arguments of which the text isn't of its rule
abbrev pub command_reading : List Row → Command → Result Job WordsFault
command_reading rows command = unless_bad (first_bad rows command) (job_for rows command)

-- ---- laws

-- Of a frame that has none of these words nothing but its size is known.
abbrev pub PlainFramesStay : Type 0
PlainFramesStay =
    (rows : List Row) → text_at rows argument.Content ≡ None → text_at rows argument.Storage ≡ None → text_at rows argument.Aspect ≡ None
    → text_at rows argument.Letters ≡ None → text_at rows argument.Scale ≡ None → frame_at rows ≡ plain_frame (size_at rows)

-- Frames of which no format is said are pixmaps.
abbrev pub PlainFormatsStay : Type 0
PlainFormatsStay =
    (rows : List Row) → text_at rows argument.Format ≡ None → ((frame_of rows).format ≡ Ppm) × ((play_of rows).format ≡ Image Ppm) × ((stills_of rows).format ≡ Ppm)

-- Where no rate is said, instants stand a step apart.
abbrev pub StepsStay : Type 0
StepsStay = (rows : List Row) → text_at rows argument.Rate ≡ None → (instants_at rows).rate ≡ step_rate (number_at rows argument.Step 1)
