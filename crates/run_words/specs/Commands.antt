-- Public: the commands, and the arguments that each takes (docs/PROGRAM.md).
use Rattle.std.specs.Prelude.{ℕ, List, [], ◌∷◌, ◌++◌, codes}
use Rattle.run_words.specs.declared.argument.Argument.{Argument}
use Rattle.run_words.specs.declared.argument.Argument.TheVariants as argument
use Rattle.run_words.specs.declared.command.Command.{Command}
use Rattle.run_words.specs.declared.command.Command.TheVariants.{Check, Frame, Play, Selftest, Changes, Write}

abbrev pub commands : List Command
commands = Check ∷ Frame ∷ Play ∷ Selftest ∷ Changes ∷ Write ∷ []

abbrev pub command_name : Command → List ℕ
command_name Check = codes "check"
command_name Frame = codes "frame"
command_name Play = codes "play"
command_name Selftest = codes "selftest"
command_name Changes = codes "changes"
command_name Write = codes "write"

-- the script, whether the fonts that it holds are used, and the other fonts
abbrev pub file_arguments : List Argument
file_arguments = argument.ScriptFonts ∷ argument.Script ∷ argument.Fonts ∷ []

-- how a run reports, and where
abbrev pub report_arguments : List Argument
report_arguments = argument.Report ∷ argument.ReportTo ∷ []

-- the instants of a play and of a report on changes
abbrev pub instant_arguments : List Argument
instant_arguments = argument.From ∷ argument.To ∷ argument.Frames ∷ argument.Step ∷ argument.Rate ∷ []

-- what a frame is to a script
abbrev pub frame_arguments : List Argument
frame_arguments = argument.Size ∷ argument.Storage ∷ argument.Aspect ∷ argument.Content ∷ argument.Letters ∷ argument.Scale ∷ []

-- what shares out the work of a play
abbrev pub sharing_arguments : List Argument
sharing_arguments =
    argument.Feeders ∷ argument.Renderers ∷ argument.Batch ∷ argument.Again ∷ argument.Times ∷ argument.Ahead ∷ argument.Bands ∷ argument.Mode ∷ []

-- what a command takes: the options in the order in which their values are looked at, and then the positionals
abbrev pub arguments_of : Command → List Argument
arguments_of Check = report_arguments ++ file_arguments
arguments_of Frame = argument.At ∷ frame_arguments ++ argument.Format ∷ argument.Budget ∷ file_arguments
arguments_of Play =
    instant_arguments ++ argument.Size ∷ argument.Feeders ∷ argument.Renderers ∷ argument.Batch ∷ argument.Again
    ∷ argument.Times ∷ argument.Ahead ∷ argument.Bands ∷ argument.Format ∷ argument.Matrix ∷ argument.Chroma ∷ argument.Changed ∷ argument.Crop ∷ argument.Budget ∷ argument.Mode
    ∷ report_arguments ++ argument.Index ∷ argument.Progress ∷ argument.QuietPipe ∷ file_arguments
arguments_of Selftest = argument.Workers ∷ report_arguments ++ argument.Progress ∷ argument.Seed ∷ argument.Events ∷ []
arguments_of Changes = instant_arguments ++ frame_arguments ++ argument.Budget ∷ report_arguments ++ argument.Progress ∷ file_arguments
arguments_of Write = argument.Later ∷ argument.Earlier ∷ argument.Script ∷ []
