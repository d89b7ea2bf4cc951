-- The work of a job that reports.
use Rattle.std.proofs.Common.{◌≡◌, ℕ, Bool, true, false, cond, List, [], ◌∷◌, Some, None, Ok, Err, refl, subst}
use Rattle.run_status.specs.declared.ending.Ending.{Ending}
use Rattle.run_status.specs.declared.inputs.Inputs.{Inputs}
use Rattle.run_status.specs.declared.status.Status.{Status}
use Rattle.run_status.specs.declared.status.Status.TheVariants.{TooLarge}
use Rattle.run_status.specs.declared.status.What.TheVariants.{Frames}
use Rattle.run_words.specs.declared.job.ChangesJob.{ChangesJob}
use Rattle.run_words.specs.declared.job.Job.{Job}
use Rattle.run_words.specs.declared.job.Job.TheVariants as job
use Rattle.run_words.specs.declared.job.PlayJob.{PlayJob}
use Rattle.run_words.specs.declared.job.ScriptSource.{ScriptSource}
use Rattle.run_words.specs.declared.job.StillsJob.{StillsJob}
use Rattle.run_words.specs.declared.report_words.ReportForm.{ReportForm}
use Rattle.run_words.specs.declared.report_words.ReportOptions.{ReportOptions}
use Rattle.single_run.specs.Outputs.{kept_view}
use Rattle.single_run.specs.Works.{is_too_long, max_frames, work_in, work_with}
use Rattle.single_run.specs.declared.work.Task.TheVariants as task
use Rattle.single_run.specs.declared.work.Work.{Work}
use Rattle.run_reports.specs.AskedRuns.{IsJobTold, RunSight, reports, telling_of}
use Rattle.run_reports.specs.ChangeStreams.{AreChangesTold, changes_view}
use Rattle.run_reports.specs.StillTales.{AreStillsTold}
use Rattle.run_reports.specs.Tales.{HasShownNothing, IsCheckTale, IsReportTask, IsReportWork, IsTaskTold, IsWorkTold, ToldRun}
use Rattle.run_reports.specs.Telling.{IsTold}
use Rattle.run_reports.specs.declared.tale.Tale.{Tale}

refused_or : (b : Bool) (why : Status) (one work : Work) → cond b (Err why) (Ok (Some one)) ≡ Ok (Some work) → one ≡ work
refused_or true why one work e = absurd cc
refused_or false why one work e = cc

refused_or_some : (b : Bool) (why : Status) (one : Work) → cond b (Err why) (Ok (Some one)) ≡ Ok None → ⊥
refused_or_some true why one e = cc
refused_or_some false why one e = cc

reports_work : (one work : Work) → IsReportTask one.task → cond (is_too_long one) (Err (TooLarge Frames max_frames)) (Ok (Some one)) ≡ Ok (Some work) → IsReportTask work.task
reports_work one work h e = subst (λ (w : Work). IsReportTask w.task) (refused_or (is_too_long one) (TooLarge Frames max_frames) one work e) h

-- it reports too
pub work_reports : (asked : Job) (work : Work) → IsReportWork asked → work_in (Ok asked) ≡ Ok (Some work) → IsReportTask work.task
work_reports (job.Check script fonts) work h e = reports_work (work_with script fonts task.Check) work tt e
work_reports (job.Changes changes script []) work h e = absurd cc
work_reports (job.Changes changes script (font ∷ fonts)) work h e = reports_work (work_with script (font ∷ fonts) (task.Changes changes)) work tt e
work_reports (job.Frame frame script fonts) work h e = absurd h
work_reports (job.Play play script fonts) work h e = absurd h
work_reports (job.Stills stills script []) work h e = absurd cc
work_reports (job.Stills stills script (font ∷ fonts)) work h e = reports_work (work_with script (font ∷ fonts) (task.Stills stills)) work tt e
work_reports (job.Selftest seed events workers) work h e = absurd h
work_reports (job.Write later earlier script) work h e = absurd h
work_reports job.Help work h e = absurd h
work_reports job.Version work h e = absurd h

-- it is done by nobody else
pub work_is_done : (asked : Job) → IsReportWork asked → work_in (Ok asked) ≡ Ok None → ⊥
work_is_done (job.Check script fonts) h e = refused_or_some (is_too_long (work_with script fonts task.Check)) (TooLarge Frames max_frames) (work_with script fonts task.Check) e
work_is_done (job.Changes changes script []) h e = cc
work_is_done (job.Changes changes script (font ∷ fonts)) h e =
    let work = work_with script (font ∷ fonts) (task.Changes changes) in
    refused_or_some (is_too_long work) (TooLarge Frames max_frames) work e
work_is_done (job.Frame frame script fonts) h e = h
work_is_done (job.Play play script fonts) h e = h
work_is_done (job.Stills stills script []) h e = cc
work_is_done (job.Stills stills script (font ∷ fonts)) h e =
    let work = work_with script (font ∷ fonts) (task.Stills stills) in
    refused_or_some (is_too_long work) (TooLarge Frames max_frames) work e
work_is_done (job.Selftest seed events workers) h e = h
work_is_done (job.Write later earlier script) h e = h
work_is_done job.Help h e = h
work_is_done job.Version h e = h

-- ---- what was told of it

module _ (run : ToldRun) (inputs : Inputs) (ending : Ending) (form : ReportForm) (is : form ≡ run.form) where
  pub check_told : (tale : Tale) → HasShownNothing run → IsCheckTale form inputs tale → IsTold form tale run.report.before run.report.now ending → IsTaskTold run task.Check inputs ending
  check_told tale nothing came told = (
    nothing,
    (tale, subst (λ (f : ReportForm). IsCheckTale f inputs tale) is came, subst (λ (f : ReportForm). IsTold f tale run.report.before run.report.now ending) is told),
  )

  pub changes_told : (changes : ChangesJob) → HasShownNothing run →
      AreChangesTold (changes_view form inputs.script inputs.fonts changes.instants changes.view) run.report.before run.report.now ending → IsTaskTold run (task.Changes changes) inputs ending
  changes_told changes nothing told = (
    nothing,
    subst (λ (f : ReportForm). AreChangesTold (changes_view f inputs.script inputs.fonts changes.instants changes.view) run.report.before run.report.now ending) is told,
  )

  pub stills_told : (stills : StillsJob) → AreStillsTold form run.fault run.list (kept_view stills inputs) run.frames run.index run.report.before run.report.now ending →
      IsTaskTold run (task.Stills stills) inputs ending
  stills_told stills told = subst (λ (f : ReportForm). AreStillsTold f run.fault run.list (kept_view stills inputs) run.frames run.index run.report.before run.report.now ending) is told

-- ---- which jobs are work

pub report_work : (asked : Job) → reports asked ≡ true → ((play : PlayJob) (script : ScriptSource) (fonts : List (List ℕ)) → asked ≡ job.Play play script fonts → ⊥) →
    ((seed events workers : ℕ) → asked ≡ job.Selftest seed events workers → ⊥) → IsReportWork asked
report_work (job.Check script fonts) some play selftest = tt
report_work (job.Changes changes script fonts) some play selftest = tt
report_work (job.Stills stills script fonts) some play selftest = tt
report_work (job.Play one script fonts) some play selftest = absurd (play one script fonts refl)
report_work (job.Selftest seed events workers) some play selftest = absurd (selftest seed events workers refl)
report_work (job.Frame frame script fonts) some play selftest = absurd cc
report_work (job.Write later earlier script) some play selftest = absurd cc
report_work job.Help some play selftest = absurd cc
report_work job.Version some play selftest = absurd cc

pub work_told : (options : ReportOptions) (asked : Job) (run : RunSight) (ending : Ending) → IsReportWork asked → IsWorkTold run.told run.log (telling_of options run) (work_in (Ok asked)) ending →
    IsJobTold options asked run ending
work_told options (job.Check script fonts) run ending h told = told
work_told options (job.Changes changes script fonts) run ending h told = told
work_told options (job.Stills stills script fonts) run ending h told = told
work_told options (job.Play play script fonts) run ending h told = absurd h
work_told options (job.Selftest seed events workers) run ending h told = absurd h
work_told options (job.Frame frame script fonts) run ending h told = absurd h
work_told options (job.Write later earlier script) run ending h told = absurd h
work_told options job.Help run ending h told = absurd h
work_told options job.Version run ending h told = absurd h
