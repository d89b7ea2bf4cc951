-- Public: the job that the words of a run ask for, or why they are refused (docs/PROGRAM.md).
use Rattle.std.specs.Prelude.{◌≡◌, ◌↔◌, ℕ, Bool, true, false, ◌&&◌, ◌||◌, List, [], ◌∷◌, codes, is_some, map, Option, Some, None, Result, Ok, Err, IfOk, IfSome, find, if◌then◌else◌, slice_get, string_bytes}
use Rattle.std.specs.Global.{Global}
use Rattle.std.specs.Str.{bytes_eq}
use Rattle.std.specs.declared.string.String.{String}
use Rattle.clap.specs.Simple.{subcommand_of}
use Rattle.clap.specs.Walk.{Row}
use Rattle.run_words.specs.Asked.{command_reading, goes_together}
use Rattle.run_words.specs.Commands.{command_name, commands}
use Rattle.run_words.specs.Grammar.{is_taken, words_app}
use Rattle.run_words.specs.declared.command.Command.{Command}
use Rattle.run_words.specs.declared.command.Command.TheVariants as command
use Rattle.run_words.specs.declared.job.Job.{Job}
use Rattle.run_words.specs.declared.job.Job.TheVariants.{Check, Frame, Play, Stills, Selftest, Changes, Write, Help, Version}
use Rattle.run_words.specs.declared.job.WordsFault.{WordsFault}
use Rattle.run_words.specs.declared.job.WordsFault.TheVariants.{Usage}
use Rattle.run_words.specs.declared.job.WordsRefusal.{WordsRefusal}
use Rattle.run_words.specs.declared.job.WordsRefusal.TheVariants.{BadWords, OutOfMemory}

-- the bytes of each word
abbrev pub texts : List (String Global) → List (List ℕ)
texts words = map string_bytes words

-- the command that a word names
abbrev pub command_named : List ℕ → Option Command
command_named name = find (λ command. bytes_eq (command_name command) name) commands

abbrev pub reading_in : List Row → Option Command → Result Job WordsFault
reading_in rows None = Err Usage
reading_in rows (Some command) = if goes_together rows command then command_reading rows command else Err Usage

-- the job of the command that was met, by what was found for its arguments
abbrev pub job_in : Option (List ℕ × List Row) → Result Job WordsFault
job_in None = Err Usage
job_in (Some met) = reading_in met.1 (command_named met.0)

-- the job of words that begin with a command: `Usage` where they aren't of its grammar, else the first argument whose value isn't of its rule
abbrev pub command_job : List (List ℕ) → Result Job WordsFault
command_job words = if is_taken words then job_in (subcommand_of words_app words) else Err Usage

abbrev pub is_help : List ℕ → Bool
is_help word = bytes_eq word (codes "--help") || (bytes_eq word (codes "-h") || bytes_eq word (codes "help"))

abbrev pub asked_by : List ℕ → Option Job
asked_by word = if is_help word then Some Help else (if bytes_eq word (codes "--version") then Some Version else None)

-- what a word asks for that stands alone
abbrev pub asked_alone : List (List ℕ) → Option Job
asked_alone (word ∷ []) = asked_by word
asked_alone _ = None

abbrev pub alone_or : Option Job → Result Job WordsFault → Result Job WordsFault
alone_or None reading = reading
alone_or (Some job) reading = Ok job

-- the job that the words ask for
abbrev pub job_of : List (List ℕ) → Result Job WordsFault
job_of words = alone_or (asked_alone words) (command_job words)

-- The answer is the reading, or memory ran out.
abbrev pub IsReading : Result Job WordsFault → Result Job WordsRefusal → Type 0
IsReading reading (Ok job) = reading ≡ Ok job
IsReading reading (Err (BadWords fault)) = reading ≡ Err fault
IsReading reading (Err OutOfMemory) = Unit {0}

abbrev pub named_goes_together : List Row → Option Command → Bool
named_goes_together rows None = true
named_goes_together rows (Some command) = goes_together rows command

abbrev pub met_goes_together : Option (List ℕ × List Row) → Bool
met_goes_together None = true
met_goes_together (Some met) = named_goes_together met.1 (command_named met.0)

-- a word that stands alone, or what `clap` takes and what goes together
abbrev pub is_of_grammar : List (List ℕ) → Bool
is_of_grammar words = is_some (asked_alone words) || (is_taken words && met_goes_together (subcommand_of words_app words))

-- Words are refused as `Usage` exactly where they aren't of the grammar.
abbrev pub UsageIsOfGrammar : Type 0
UsageIsOfGrammar = (words : List (List ℕ)) → (job_of words ≡ Err Usage) ↔ (is_of_grammar words ≡ false)

-- the command that asks for the job, none for what a word asks for alone
abbrev pub command_asked : Job → Option Command
command_asked (Check script fonts) = Some command.Check
command_asked (Frame frame script fonts) = Some command.Frame
command_asked (Play play script fonts) = Some command.Play
command_asked (Stills stills script fonts) = Some command.Play
command_asked (Selftest seed events workers) = Some command.Selftest
command_asked (Changes changes script fonts) = Some command.Changes
command_asked (Write later earlier script) = Some command.Write
command_asked _ = None

-- Words that ask for the job of a command begin with the word that names it.
abbrev pub FirstWordIsCommand : Type 0
FirstWordIsCommand =
    (words : List (List ℕ)) → IfOk (job_of words) (λ job. IfSome (command_asked job) (λ command. slice_get words 0 ≡ Some (command_name command)))
