-- What words tell of the report, beside their job.
use Rattle.std.proofs.Common.{◌≡◌, ℕ, Bool, true, false, cond, not, ◌&&◌, ◌||◌, List, Option, Some, None, is_some, Err, IfOk, refl}
use Rattle.clap.specs.Simple.{subcommand_of}
use Rattle.clap.specs.Walk.{Row}
use Rattle.value_texts.proofs.TextLemmas.{both}
use Rattle.run_words.specs.Asked.{first_bad, fonts_at, goes_together, is_told, job_for, play_of, source_at, stills_of, text_at, unless_bad}
use Rattle.run_words.specs.Grammar.{is_taken, words_app}
use Rattle.run_words.specs.ReportWords.{FitsList, ListsFitJobs, PlainReportsStay, options_met, options_of, plain_options}
use Rattle.run_words.specs.Words.{asked_alone, command_job, command_named, job_in, reading_in}
use Rattle.run_words.specs.declared.argument.Argument.TheVariants as argument
use Rattle.run_words.specs.declared.command.Command.{Command}
use Rattle.run_words.specs.declared.command.Command.TheVariants.{Check, Frame, Play, Selftest, Changes, Write}
use Rattle.run_words.specs.declared.job.Job.TheVariants as job
use Rattle.run_words.specs.declared.job.WordsFault.TheVariants.{Usage}
use Rattle.run_words.specs.declared.report_words.ReportOptions.{ReportOptions}
use Rattle.run_words.proofs.ReadingLemmas.{alone_holds, or_holds, unless_holds}

pub plain_stays : PlainReportsStay
plain_stays rows form file list progress quiet = rw (form, file, list, progress, quiet) refl

-- Images that aren't cropped are whole.
whole : (crop : Bool) → not crop ≡ true → crop ≡ false
whole true e = cc
whole false e = refl

play_fits : (rows : List Row) (list : Option (List ℕ)) (changed : Bool) → (not (is_some list) || (changed && not (is_told rows argument.Crop))) ≡ true →
    FitsList list (cond changed (job.Stills (stills_of rows) (source_at rows) (fonts_at rows)) (job.Play (play_of rows) (source_at rows) (fonts_at rows)))
play_fits rows None true e = tt
play_fits rows None false e = refl
play_fits rows (Some name) true e = whole (is_told rows argument.Crop) e
play_fits rows (Some name) false e = cc

job_fits : (rows : List Row) (command : Command) → goes_together rows command ≡ true → FitsList (text_at rows argument.Index) (job_for rows command)
job_fits rows Check e = tt
job_fits rows Frame e = tt
job_fits rows Play e = play_fits rows (text_at rows argument.Index) (is_told rows argument.Changed) (both _ _ (both _ _ e).0).1
job_fits rows Selftest e = tt
job_fits rows Changes e = tt
job_fits rows Write e = tt

reading_fits : (rows : List Row) (command : Option Command) → IfOk (reading_in rows command) (FitsList (text_at rows argument.Index))
reading_fits rows None = tt
reading_fits rows (Some command) = cases (goes_together rows command) refl
  where
    cases : (b : Bool) → goes_together rows command ≡ b → IfOk (cond b (unless_bad (first_bad rows command) (job_for rows command)) (Err Usage)) (FitsList (text_at rows argument.Index))
    cases true e = unless_holds (FitsList (text_at rows argument.Index)) (first_bad rows command) (job_for rows command) (job_fits rows command e)
    cases false e = tt

met_fits : (met : Option (List ℕ × List Row)) → IfOk (job_in met) (FitsList (options_met met).index)
met_fits None = tt
met_fits (Some met) = reading_fits met.1 (command_named met.0)

command_fits : (words : List (List ℕ)) → IfOk (command_job words) (FitsList (options_of words).index)
command_fits words = cases (is_taken words)
  where
    cases : (b : Bool) → IfOk (cond b (job_in (subcommand_of words_app words)) (Err Usage)) (FitsList ((λ (o : ReportOptions). o.index) (cond b (options_met (subcommand_of words_app words)) plain_options)))
    cases true = met_fits (subcommand_of words_app words)
    cases false = tt

pub lists_fit : ListsFitJobs
lists_fit words =
    or_holds (FitsList (options_of words).index) (asked_alone words) (command_job words) (alone_holds (FitsList (options_of words).index) tt tt words) (command_fits words)
