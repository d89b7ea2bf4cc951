-- Public: the work that words ask for, as far as it waits for nobody.
use Rattle.std.specs.Prelude.{◌≡◌, ◌⊎◌, Bool, true, false, ◌&&◌, if◌then◌else◌, ℕ, ◌<◌, nat_le, nat_lt, List, [], ◌∷◌, length, Option, Some, None, Result, Ok, Err, option_map}
use Rattle.ass_events.specs.Events.{is_time}
use Rattle.bdf_font.specs.Limits.{max_fonts}
use Rattle.run_status.specs.declared.inputs.Inputs.{Inputs}
use Rattle.run_words.specs.Jobs.{IsChangesJob, IsFrameJob, IsStills}
use Rattle.run_words.specs.Words.{job_of}
use Rattle.run_words.specs.declared.job.Job.{Job}
use Rattle.run_words.specs.declared.job.Job.TheVariants as job
use Rattle.run_words.specs.declared.job.ScriptSource.{ScriptSource}
use Rattle.run_words.specs.declared.job.WordsFault.{WordsFault}
use Rattle.run_words.specs.declared.job.WordsFault.TheVariants.{Usage}
use Rattle.run_status.specs.declared.status.Status.{Status}
use Rattle.run_status.specs.declared.status.Status.TheVariants.{BadWords, OutOfMemory, TooLarge}
use Rattle.run_status.specs.declared.status.What.TheVariants.{Frames}
use Rattle.ass_events.specs.LineLaws.{HasShortLines}
use Rattle.text_layout.specs.Fonts.{IsLayoutFontSet}
use Rattle.single_run.specs.declared.work.Task.{Task}
use Rattle.single_run.specs.declared.work.Task.TheVariants.{Changes, Check, Frame, Stills, Write}
use Rattle.single_run.specs.declared.work.Work.{Work}
use Rattle.single_run.specs.declared.work.WriteTask.{WriteTask}

-- a task in fonts, of which words name one at least
abbrev pub task_in : Task → List (List ℕ) → Option Task
task_in task [] = None
task_in task (font ∷ fonts) = Some task

abbrev pub work_with : ScriptSource → List (List ℕ) → Task → Work
work_with script fonts task = record { task = task; script = script; fonts = fonts }

-- the work of a job that waits for nobody, where words can ask for it
abbrev pub work_of : Job → Option Work
work_of (job.Check script fonts) = Some (work_with script fonts Check)
work_of (job.Frame frame script fonts) = option_map (work_with script fonts) (task_in (Frame frame) fonts)
work_of (job.Changes changes script fonts) = option_map (work_with script fonts) (task_in (Changes changes) fonts)
work_of (job.Stills stills script fonts) = option_map (work_with script fonts) (task_in (Stills stills) fonts)
work_of (job.Write later earlier script) = Some (work_with (record { name = script; own_fonts = false }) [] (Write (record { later = later; earlier = earlier })))
work_of _ = None

-- the most pictures that a task compares
abbrev pub max_frames : ℕ
max_frames = 1000000

-- how many pictures a task compares
abbrev pub compared : Task → ℕ
compared (Changes changes) = changes.instants.count
compared (Stills stills) = stills.instants.count
compared _ = 0

-- whether it compares too many; too many fonts are told before
abbrev pub is_too_long : Work → Bool
is_too_long work = nat_le (length work.fonts) max_fonts && nat_lt max_frames (compared work.task)

abbrev pub limited : Work → Result (Option Work) Status
limited work = if is_too_long work then Err (TooLarge Frames max_frames) else Ok (Some work)

abbrev pub limited_in : Option Work → Result (Option Work) Status
limited_in None = Err (BadWords Usage)
limited_in (Some work) = limited work

-- In a play and in a selftest threads wait for one another, and to tell of the program is no work.
abbrev pub work_in : Result Job WordsFault → Result (Option Work) Status
work_in (Err fault) = Err (BadWords fault)
work_in (Ok (job.Play play script fonts)) = Ok None
work_in (Ok (job.Selftest seed events workers)) = Ok None
work_in (Ok job.Help) = Ok None
work_in (Ok job.Version) = Ok None
work_in (Ok job) = limited_in (work_of job)

-- the work that the words of a run ask for, none where that is a play, a selftest or what the program tells of itself, or the status that they ask for
abbrev pub work_asked : List (List ℕ) → Result (Option Work) Status
work_asked words = work_in (job_of words)

-- The answer is what is asked for, or memory ran out.
abbrev pub IsWorkRead : Result (Option Work) Status → Result (Option Work) Status → Type 0
IsWorkRead asked answer = (answer ≡ asked) ⊎ (answer ≡ Err OutOfMemory)

-- Events may be that much later and that much earlier.
pub record IsWriteTask (write : WriteTask) : Type 0 where
  pub later : is_time write.later ≡ true
  pub earlier : is_time write.earlier ≡ true

-- The numbers of a task are within their limits, and a picture has a font at least.
abbrev pub IsTaskIn : List (List ℕ) → Task → Type 0
IsTaskIn fonts Check = Unit {0}
IsTaskIn fonts (Frame frame) = IsFrameJob frame × (0 < length fonts)
IsTaskIn fonts (Changes changes) = IsChangesJob changes × (0 < length fonts)
IsTaskIn fonts (Stills stills) = IsStills stills × (0 < length fonts)
IsTaskIn fonts (Write write) = IsWriteTask write

abbrev pub IsWork : Work → Type 0
IsWork work = IsTaskIn work.fonts work.task

-- What a task needs of what is read for it: events have short texts, and a picture is laid out in 1 to 64 fonts.
abbrev pub AreInputsOf : Task → Inputs → Type 0
AreInputsOf Check inputs = Unit {0}
AreInputsOf (Frame frame) inputs = IsFrameJob frame × HasShortLines inputs.script × IsLayoutFontSet inputs.fonts
AreInputsOf (Changes changes) inputs = IsChangesJob changes × HasShortLines inputs.script × IsLayoutFontSet inputs.fonts
AreInputsOf (Stills stills) inputs = IsStills stills × HasShortLines inputs.script × IsLayoutFontSet inputs.fonts
AreInputsOf (Write write) inputs = IsWriteTask write × HasShortLines inputs.script
