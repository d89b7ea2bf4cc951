-- The numbers of jobs are within their limits.
use Rattle.std.proofs.Common.{◌≡◌, ℕ, ◌≤◌, Bool, true, false, cond, List, Option, Some, None, Result, Ok, Err, IfOk, ◌∙◌, ap, refl, subst, sym, arith}
use Rattle.std.specs.Prelude.{IfSome, is_some, option_and_then, pos, unwrap_or}
use Rattle.std.proofs.lemmas.Int.{ints}
use Rattle.ass_num.specs.Limits.{max_frame_side, max_instant}
use Rattle.frame_rate.specs.Instants.{AreInstants, counted_instants, instants_before}
use Rattle.frame_rate.specs.Rates.{IsFrameRate, step_rate}
use Rattle.frame_rate.proofs.InstantLemmas.{before_are_instants, counted_are_instants}
use Rattle.frame_view.specs.FrameViews.{IsAspect, IsContentRect, IsFrameView, IsStorage}
use Rattle.frame_view.specs.Limits.{max_layout_side, max_letter_scale, whole_letter_scale}
use Rattle.clap.specs.Walk.{Row}
use Rattle.clap.specs.Simple.{subcommand_of}
use Rattle.value_texts.specs.Values.{IsNumberBetween, aspect_in, content_in, number_within, rate_in, size_in, storage_in}
use Rattle.value_texts.proofs.RangeLemmas.{AreSides, aspect_within, between, content_within, given, or_absent, rate_within, sides_within, step_within, storage_within}
use Rattle.run_words.specs.Limits.{max_ahead, max_bands, max_batch, max_budget, max_events, max_seed, max_times, max_workers, usual_batch, usual_budget}
use Rattle.run_words.specs.Asked.{budget_at, first_bad, fonts_at, frame_at, goes_together, instants_at, is_told, job_for, number_at, play_job, play_of, rate_at, size_at, smallest_size, source_at, stills_of, text_at, unless_bad}
use Rattle.run_words.specs.Grammar.{is_taken, words_app}
use Rattle.run_words.specs.Jobs.{IsFrame, IsJob, IsMoment, IsPlay, IsStills}
use Rattle.run_words.specs.Words.{IsReading, alone_or, asked_alone, command_job, command_named, job_in, job_of, reading_in}
use Rattle.run_words.specs.declared.argument.Argument.{Argument}
use Rattle.run_words.specs.declared.argument.Argument.TheVariants as argument
use Rattle.run_words.specs.declared.command.Command.{Command}
use Rattle.run_words.specs.declared.command.Command.TheVariants.{Check, Frame, Play, Selftest, Changes, Write}
use Rattle.run_words.specs.declared.job.Job.{Job}
use Rattle.run_words.specs.declared.job.Job.TheVariants.{Stills}
use Rattle.run_words.specs.declared.job.Job.TheVariants as job
use Rattle.run_words.specs.declared.job.WordsFault.{WordsFault}
use Rattle.run_words.specs.declared.job.WordsFault.TheVariants.{Usage}
use Rattle.run_words.specs.declared.job.WordsRefusal.{WordsRefusal}
use Rattle.run_words.proofs.ReadingLemmas.{alone_holds, or_holds, unless_holds}

size_range : (rows : List Row) → IsFrame (size_at rows)
size_range rows =
    or_absent (AreSides max_frame_side) (option_and_then size_in (text_at rows argument.Size)) smallest_size ((omega arith, omega arith), (omega arith, omega arith))
    (given (AreSides max_frame_side) size_in (text_at rows argument.Size) (sides_within max_frame_side))

frame_within : (rows : List Row) → IsFrameView (frame_at rows)
frame_within rows =
    let size = size_range rows in
    record {
      size = record { wide = size.0.1; high = size.1.1 };
      content = given IsContentRect content_in (text_at rows argument.Content) content_within;
      storage = given IsStorage storage_in (text_at rows argument.Storage) (λ text. storage_within (storage_in text) (sides_within max_layout_side text));
      aspect = given IsAspect aspect_in (text_at rows argument.Aspect) aspect_within;
      scale = (between 0 max_letter_scale (text_at rows argument.Scale) whole_letter_scale (omega arith) (omega arith)).1;
    }

moment : (n : ℕ) → IsNumberBetween 0 max_instant n → IsMoment (pos n)
moment n h = (omega (arith, ints), omega (arith, ints))

-- what stands for an instant that isn't said is the first one
instant_within : (rows : List Row) (argument : Argument) → number_at rows argument 0 ≡ unwrap_or (option_and_then (number_within 0 max_instant) (text_at rows argument)) 0 → number_at rows argument 0 ≤ max_instant
instant_within rows argument is = let most = (between 0 max_instant (text_at rows argument) 0 (omega arith) (omega arith)).1 in rw is most

pub rate_range : (rows : List Row) → IsFrameRate (rate_at rows)
rate_range rows =
    or_absent IsFrameRate (option_and_then rate_in (text_at rows argument.Rate)) (step_rate (number_at rows argument.Step 1))
    (step_within (number_at rows argument.Step 1) (between 1 max_instant (text_at rows argument.Step) 1 (omega arith) (omega arith)))
    (given IsFrameRate rate_in (text_at rows argument.Rate) rate_within)

instants_within : (rows : List Row) → AreInstants (instants_at rows)
instants_within rows = cases (is_some (text_at rows argument.Frames))
  where
    first : number_at rows argument.From 0 ≤ max_instant
    first = instant_within rows argument.From refl

    cases : (b : Bool) → AreInstants (cond b (counted_instants (rate_at rows) (number_at rows argument.From 0) (number_at rows argument.Frames 1)) (instants_before (rate_at rows) (number_at rows argument.From 0) (number_at rows argument.To 0)))
    cases true = counted_are_instants (rate_at rows) (number_at rows argument.From 0) (number_at rows argument.Frames 1) first (rate_range rows)
    cases false = before_are_instants (rate_at rows) (number_at rows argument.From 0) (number_at rows argument.To 0) first (rate_range rows) (instant_within rows argument.To refl)

budget_at_most : (rows : List Row) → budget_at rows ≤ max_budget
budget_at_most rows = (between 0 max_budget (text_at rows argument.Budget) usual_budget (omega arith) (omega arith)).1

play_within : (rows : List Row) → IsPlay (play_of rows)
play_within rows = record {
  instants = instants_within rows;
  size = size_range rows;
  feeders = between 1 max_workers (text_at rows argument.Feeders) 1 (omega arith) (omega arith);
  renderers = between 1 max_workers (text_at rows argument.Renderers) 1 (omega arith) (omega arith);
  batch = between 1 max_batch (text_at rows argument.Batch) usual_batch (omega arith) (omega arith);
  again = (between 0 max_batch (text_at rows argument.Again) 0 (omega arith) (omega arith)).1;
  times = between 1 max_times (text_at rows argument.Times) 1 (omega arith) (omega arith);
  ahead = (between 0 max_ahead (text_at rows argument.Ahead) 0 (omega arith) (omega arith)).1;
  bands = between 1 max_bands (text_at rows argument.Bands) 1 (omega arith) (omega arith);
  budget = budget_at_most rows;
}

stills_within : (rows : List Row) → IsStills (stills_of rows)
stills_within rows = record { instants = instants_within rows; size = size_range rows; budget = budget_at_most rows }

play_job_within : (rows : List Row) → IsJob (play_job rows)
play_job_within rows = cases (is_told rows argument.Changed)
  where
    cases : (b : Bool) → IsJob (cond b (Stills (stills_of rows) (source_at rows) (fonts_at rows)) (job.Play (play_of rows) (source_at rows) (fonts_at rows)))
    cases true = stills_within rows
    cases false = play_within rows

job_within : (rows : List Row) (command : Command) → IsJob (job_for rows command)
job_within rows Check = tt
job_within rows Frame = (record { at = instant_within rows argument.At refl; view = frame_within rows; budget = budget_at_most rows }, size_range rows)
job_within rows Play = play_job_within rows
job_within rows Selftest = (
  (between 0 max_seed (text_at rows argument.Seed) 0 (omega arith) (omega arith)).1,
  between 1 max_events (text_at rows argument.Events) 1 (omega arith) (omega arith),
  between 1 max_workers (text_at rows argument.Workers) 1 (omega arith) (omega arith),
)
job_within rows Changes = (record { instants = instants_within rows; view = frame_within rows; budget = budget_at_most rows }, size_range rows)
job_within rows Write = (
  moment _ (between 0 max_instant (text_at rows argument.Later) 0 (omega arith) (omega arith)),
  moment _ (between 0 max_instant (text_at rows argument.Earlier) 0 (omega arith) (omega arith)),
)

reading_within : (rows : List Row) (command : Option Command) → IfOk (reading_in rows command) IsJob
reading_within rows None = tt
reading_within rows (Some command) = cases (goes_together rows command)
  where
    cases : (b : Bool) → IfOk (cond b (unless_bad (first_bad rows command) (job_for rows command)) (Err Usage)) IsJob
    cases true = unless_holds IsJob (first_bad rows command) (job_for rows command) (job_within rows command)
    cases false = tt

pub met_within : (met : Option (List ℕ × List Row)) → IfOk (job_in met) IsJob
met_within None = tt
met_within (Some met) = reading_within met.1 (command_named met.0)

command_within : (words : List (List ℕ)) → IfOk (command_job words) IsJob
command_within words = cases (is_taken words)
  where
    cases : (b : Bool) → IfOk (cond b (job_in (subcommand_of words_app words)) (Err Usage)) IsJob
    cases true = met_within (subcommand_of words_app words)
    cases false = tt

-- The job of words has numbers within their limits.
pub words_within : (words : List (List ℕ)) → IfOk (job_of words) IsJob
words_within words = or_holds IsJob (asked_alone words) (command_job words) (alone_holds IsJob tt tt words) (command_within words)

-- And so has what is read.
pub read_within : (reading : Result Job WordsFault) (read : Result Job WordsRefusal) → IsReading reading read → IfOk reading IsJob → IfOk read IsJob
read_within reading (Ok job) same h = subst (λ r. IfOk r IsJob) same h
read_within reading (Err refusal) same h = tt

-- ---- a word that stands alone

pub alone_read : (words : List (List ℕ)) (alone : Option Job) (job : Job) → alone ≡ asked_alone words → alone ≡ Some job → IsReading (job_of words) (Ok job)
alone_read words alone job is some = ap (λ found. alone_or found (command_job words)) (sym is ∙ some)

pub alone_is_job : (words : List (List ℕ)) (alone : Option Job) (job : Job) → alone ≡ asked_alone words → alone ≡ Some job → IsJob job
alone_is_job words alone job is some = subst (λ found. IfSome found IsJob) (sym is ∙ some) (alone_holds IsJob tt tt words)

pub none_alone : (words : List (List ℕ)) (alone : Option Job) → alone ≡ asked_alone words → alone ≡ None → job_of words ≡ command_job words
none_alone words alone is none = ap (λ found. alone_or found (command_job words)) (sym is ∙ none)
