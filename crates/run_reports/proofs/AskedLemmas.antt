-- From what words tell, and how a run went, to what the run is by its words.
use Rattle.std.proofs.Common.{◌≡◌, inl, inr, ℕ, ◌∙◌, Bool, true, false, not, ◌&&◌, if◌then◌else◌, List, [], ◌∷◌, ◌++◌, Option, Some, None, Result, Ok, Err, refl, sym, subst}
use Rattle.ass_io.specs.Fetched.{Told}
use Rattle.ass_io.specs.Fetches.{FetchChange, LoggedFetch, fetch_change}
use Rattle.ass_io.specs.Sinks.{SinkState}
use Rattle.play_command.proofs.RunLemmas.{play_wanting, same_job, selftest_wanting}
use Rattle.play_command.proofs.TextLemmas.{text_run_wanting}
use Rattle.play_command.specs.WordRuns.{IsRunOfWords}
use Rattle.run_status.specs.declared.ending.Ending.{Ending}
use Rattle.run_status.specs.declared.ending.Ending.TheVariants.{As}
use Rattle.run_status.specs.declared.status.Status.{Status}
use Rattle.run_status.specs.declared.status.Status.TheVariants.{OutOfMemory}
use Rattle.run_words.specs.Jobs.{IsJob}
use Rattle.run_words.specs.ReportWords.{is_plain, options_of}
use Rattle.run_words.specs.Words.{job_of}
use Rattle.run_words.specs.declared.job.Job.{Job}
use Rattle.run_words.specs.declared.job.WordsFault.{WordsFault}
use Rattle.run_words.specs.declared.report_words.ReportForm.TheVariants.{Text}
use Rattle.run_words.specs.declared.report_words.ReportOptions.{ReportOptions}
use Rattle.single_run.proofs.PieceLemmas.{not_done, other_pieces_after}
use Rattle.single_run.proofs.Runs.{keeps, memory_told, memory_worked, run_after}
use Rattle.single_run.specs.Outcomes.{IsMemoryReported, memory_line, out_of_memory}
use Rattle.single_run.specs.Runs.{SinkChange, sink_change}
use Rattle.single_run.specs.Works.{work_in}
use Rattle.run_reports.specs.AskedJobs.{IsAskedOtherwise, IsToldOtherwise, reported}
use Rattle.run_reports.specs.AskedRuns.{IsAskedRun, IsRunOtherwise, asks_otherwise, reports}
use Rattle.run_reports.specs.Telling.{IsMemorySaid}
use Rattle.run_reports.specs.declared.asked.AskedJob.{AskedJob}

-- ---- what words ask for

nothing_else : (a b : Bool) → b ≡ true → (a && not b) ≡ false
nothing_else true true e = refl
nothing_else true false e = absurd cc
nothing_else false b e = refl

something_else : (a b : Bool) → a ≡ true → b ≡ false → (a && not b) ≡ true
something_else true false e f = refl
something_else true true e f = absurd cc
something_else false b e f = absurd cc

nothing_at_all : (a b : Bool) → a ≡ false → (a && not b) ≡ false
nothing_at_all false b e = refl
nothing_at_all true b e = absurd cc

plain_in : (options : ReportOptions) (reading : Result Job WordsFault) → is_plain options ≡ true → asks_otherwise options reading ≡ false
plain_in options (Ok job) plain = nothing_else (reports job) (is_plain options) plain
plain_in options (Err fault) plain = refl

module _ (words : List (List ℕ)) where
  -- the job has no report
  pub asked_unreported : (job : Job) → job_of words ≡ Ok job → reports job ≡ false → asks_otherwise (options_of words) (job_of words) ≡ false
  asked_unreported job asked none =
      subst (λ (r : Result Job WordsFault). asks_otherwise (options_of words) r ≡ false) (sym asked) (nothing_at_all (reports job) (is_plain (options_of words)) none)

  -- there is no job
  pub asked_nothing : (fault : WordsFault) → job_of words ≡ Err fault → asks_otherwise (options_of words) (job_of words) ≡ false
  asked_nothing fault refused = subst (λ (r : Result Job WordsFault). asks_otherwise (options_of words) r ≡ false) (sym refused) refl

  module _ (options : ReportOptions) (are : options ≡ options_of words) where
    -- nothing is told of the report
    pub asked_plainly : is_plain options ≡ true → asks_otherwise (options_of words) (job_of words) ≡ false
    asked_plainly plain = subst (λ (o : ReportOptions). asks_otherwise o (job_of words) ≡ false) are (plain_in options (job_of words) plain)

    module _ (job : Job) (told : is_plain options ≡ false) (asked : job_of words ≡ Ok job) (within : IsJob job) where
      -- the report is to be told otherwise
      asked_more : reports job ≡ true → IsToldOtherwise words (record { job = job; options = options })
      asked_more some = record {
        job = asked;
        options = are;
        otherwise = something_else (reports job) (is_plain (options_of words)) some (subst (λ (o : ReportOptions). is_plain o ≡ false) are told);
        reports = some;
        within = within;
      }

      asked_where : (some : Bool) → reports job ≡ some → IsAskedOtherwise words (if some then Some (record { job = job; options = options }) else None)
      asked_where true e = asked_more e
      asked_where false e = asked_unreported job asked e

      -- the report is to be told otherwise, where there is one
      pub asked_reported : (found : Option AskedJob) → found ≡ reported job options → IsAskedOtherwise words found
      asked_reported found is = subst (λ (a : Option AskedJob). IsAskedOtherwise words a) (sym is) (asked_where (reports job) refl)

-- ---- what is a run of the words

module _ (told : List ℕ → Told) (log : FetchChange) (words : List (List ℕ)) (frames index report : SinkChange) (is_closed : Bool) (ending : Ending) where
  -- the report is told by default
  pub plain_run : (status : Status) → asks_otherwise (options_of words) (job_of words) ≡ false → index.now ≡ index.before → ending ≡ As status →
      IsRunOfWords told log words frames report status → IsAskedRun told log words frames index report is_closed ending
  plain_run status plain same is run = record {
    plain = λ e. (same, record { status = status; as_is = is; run = run });
    otherwise = λ asked of_words e.
        let wrong : false ≡ true = sym plain ∙ subst (λ (r : Result Job WordsFault). asks_otherwise (options_of words) r ≡ true) (sym of_words) e in absurd cc;
  }

  -- the report is told otherwise
  pub otherwise_run : (asked : AskedJob) → IsToldOtherwise words asked → IsRunOtherwise told log asked.options asked.job frames index report is_closed ending →
      IsAskedRun told log words frames index report is_closed ending
  otherwise_run asked so run = record {
    plain = λ e.
        let wrong : true ≡ false = sym so.otherwise ∙ subst (λ (r : Result Job WordsFault). asks_otherwise (options_of words) r ≡ false) so.job e in absurd cc;
    otherwise = λ other of_words e. inr (
        subst (λ (j : Job). IsRunOtherwise told log (options_of words) j frames index report is_closed ending) (same_job (job_of words) asked.job other so.job of_words)
        (subst (λ (o : ReportOptions). IsRunOtherwise told log o asked.job frames index report is_closed ending) so.options run)
        );
  }

-- ---- memory runs out for the words

module _ (told : List ℕ → Told) (log : List LoggedFetch) (words : List (List ℕ)) (frames : SinkState) (report : SinkChange)
    (reported : IsMemoryReported report.before.held report.now.held report.before.faults report.now.faults) (asked : report.now.asked ≡ report.before.asked ++ memory_line ∷ []) where
  -- it may do so by default too
  memory_run : IsRunOfWords told (fetch_change log log) words (sink_change frames frames) report OutOfMemory
  memory_run = record {
    refused = λ why refused. record {
      answered = inr refl;
      fetched = refl;
      shown = keeps frames.held;
      reported = reported;
      pieces_shown = refl;
      pieces_told = other_pieces_after why out_of_memory OutOfMemory report.before.asked report.now.asked
          (λ done. not_done (job_of words) (subst (λ (s : Status). work_in (job_of words) ≡ Err s) done refused)) (inr refl) (inl refl) asked;
    };
    work = λ work e. run_after told (fetch_change log log) work (sink_change frames frames) report out_of_memory OutOfMemory (memory_worked told log work frames) (inl refl) reported asked;
    play = λ job script fonts e. play_wanting told log job script fonts frames report OutOfMemory refl reported asked;
    selftest = λ seed events workers e. selftest_wanting seed events report OutOfMemory refl reported asked;
    selftest_fetched = λ seed events workers e. refl;
    text = λ job text e own. text_run_wanting text frames report OutOfMemory refl reported asked;
    text_fetched = λ job text e own. refl;
  }

pub wanting_run : (told : List ℕ → Told) (log : List LoggedFetch) (words : List (List ℕ)) (frames index : SinkState) (report : SinkChange) (is_closed : Bool) (ending : Ending) →
    IsMemorySaid Text report.before report.now ending → IsAskedRun told (fetch_change log log) words (sink_change frames frames) (sink_change index index) report is_closed ending
wanting_run told log words frames index report is_closed ending (answer, put, is) = record {
  plain = λ e. (
    refl,
    record {
      status = OutOfMemory;
      as_is = is;
      run = memory_run told log words frames report (memory_told answer report.before.held report.now.held report.before.faults report.now.faults put.put put.counted) put.asked;
    },
  );
  otherwise = λ asked of_words e. inl (record { nothing = (refl, refl, refl); said = (answer, put, is) });
}
