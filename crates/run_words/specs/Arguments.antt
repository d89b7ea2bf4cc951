-- Public: the arguments of the commands: the name of each, whether it is needed, and what its value has to be.
use Rattle.std.specs.Prelude.{ℕ, Bool, true, false, ◌++◌, List, codes, if◌then◌else◌}
use Rattle.ass_num.specs.Limits.{max_instant}
use Rattle.frame_view.specs.Limits.{max_letter_scale}
use Rattle.run_words.specs.Limits.{max_ahead, max_asked_frames, max_bands, max_batch, max_budget, max_events, max_seed, max_times, max_workers}
use Rattle.run_words.specs.declared.argument.Argument.{Argument}
use Rattle.run_words.specs.declared.argument.Argument.TheVariants.{At, From, To, Frames, Step, Rate, Size, Storage, Aspect, Content, Letters, Scale, Format, Matrix, Chroma, Changed, Crop, Feeders, Renderers, Batch, Again, Times, Ahead, Bands, Budget, Mode, Report, ReportTo, Index, Progress, QuietPipe, ScriptFonts, Workers, Later, Earlier, Script, Fonts, Seed, Events}
use Rattle.run_words.specs.declared.argument.Kind.{Kind}
use Rattle.run_words.specs.declared.argument.Kind.TheVariants.{Number, FrameSize, VideoSize, PixelShape, PictureRect, LettersRule, PlayMode, PictureFormat, ColourRule, ChromaSampling, FramesInSeconds, WrittenForm, Alone, FileName}

abbrev pub argument_name : Argument → List ℕ
argument_name At = codes "at"
argument_name From = codes "from"
argument_name To = codes "to"
argument_name Frames = codes "frames"
argument_name Step = codes "step"
argument_name Rate = codes "rate"
argument_name Size = codes "size"
argument_name Storage = codes "storage"
argument_name Aspect = codes "aspect"
argument_name Content = codes "content"
argument_name Letters = codes "letters"
argument_name Scale = codes "scale"
argument_name Format = codes "format"
argument_name Matrix = codes "matrix"
argument_name Chroma = codes "chroma"
argument_name Changed = codes "changed"
argument_name Crop = codes "crop"
argument_name Feeders = codes "feeders"
argument_name Renderers = codes "renderers"
argument_name Batch = codes "batch"
argument_name Again = codes "again"
argument_name Times = codes "times"
argument_name Ahead = codes "ahead"
argument_name Bands = codes "bands"
argument_name Budget = codes "budget"
argument_name Mode = codes "mode"
argument_name Report = codes "report"
argument_name ReportTo = codes "report-to"
argument_name Index = codes "index"
argument_name Progress = codes "progress"
argument_name QuietPipe = codes "quiet-pipe"
argument_name ScriptFonts = codes "script-fonts"
argument_name Workers = codes "workers"
argument_name Later = codes "later"
argument_name Earlier = codes "earlier"
argument_name Script = codes "SCRIPT"
argument_name Fonts = codes "FONT"
argument_name Seed = codes "SEED"
argument_name Events = codes "EVENTS"

-- The argument stands by its place among the words. All others are options, `--name VALUE`.
abbrev pub is_positional : Argument → Bool
is_positional Script = true
is_positional Fonts = true
is_positional Seed = true
is_positional Events = true
is_positional _ = false

-- The argument is an option that has no value.
abbrev pub stands_alone : Argument → Bool
stands_alone Changed = true
stands_alone Crop = true
stands_alone ScriptFonts = true
stands_alone Progress = true
stands_alone QuietPipe = true
stands_alone _ = false

-- A command that takes the argument needs it.
abbrev pub is_required : Argument → Bool
is_required At = true
is_required From = true
is_required Size = true
is_required argument = is_positional argument

-- what the value has to be
abbrev pub argument_kind : Argument → Kind
argument_kind At = Number 0 max_instant
argument_kind From = Number 0 max_instant
argument_kind To = Number 0 max_instant
argument_kind Frames = Number 1 max_asked_frames
argument_kind Step = Number 1 max_instant
argument_kind Rate = FramesInSeconds
argument_kind Size = FrameSize
argument_kind Storage = VideoSize
argument_kind Aspect = PixelShape
argument_kind Content = PictureRect
argument_kind Letters = LettersRule
argument_kind Scale = Number 0 max_letter_scale
argument_kind Format = PictureFormat
argument_kind Matrix = ColourRule
argument_kind Chroma = ChromaSampling
argument_kind Changed = Alone
argument_kind Crop = Alone
argument_kind Feeders = Number 1 max_workers
argument_kind Renderers = Number 1 max_workers
argument_kind Batch = Number 1 max_batch
argument_kind Again = Number 0 max_batch
argument_kind Times = Number 1 max_times
argument_kind Ahead = Number 0 max_ahead
argument_kind Bands = Number 1 max_bands
argument_kind Budget = Number 0 max_budget
argument_kind Mode = PlayMode
argument_kind Report = WrittenForm
argument_kind ReportTo = FileName
argument_kind Index = FileName
argument_kind Progress = Alone
argument_kind QuietPipe = Alone
argument_kind ScriptFonts = Alone
argument_kind Workers = Number 1 max_workers
argument_kind Later = Number 0 max_instant
argument_kind Earlier = Number 0 max_instant
argument_kind Script = FileName
argument_kind Fonts = FileName
argument_kind Seed = Number 0 max_seed
argument_kind Events = Number 1 max_events

-- the last number of a kind
abbrev pub most_in : Kind → ℕ
most_in (Number least most) = most
most_in _ = 0

-- the last number that the value may be
abbrev pub most_of : Argument → ℕ
most_of argument = most_in (argument_kind argument)

-- the argument as a refusal names it
abbrev pub shown_name : Argument → List ℕ
shown_name argument = if is_positional argument then argument_name argument else codes "--" ++ argument_name argument
