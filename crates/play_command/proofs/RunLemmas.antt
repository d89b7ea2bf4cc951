-- From what is to be reported to the end of a run.
use Rattle.std.proofs.Common.{◌≡◌, ◌⊎◌, inl, inr, ℕ, Bool, true, false, cond, List, [], ◌++◌, length, Option, Some, None, Result, Ok, Err, refl, sym, ap, subst, ◌∙◌, arith, String, Global, string_bytes}
use Rattle.std.specs.Io.KnownBytes.{Appends}
use Rattle.std.proofs.lemmas.Bool.{cases_lt}
use Rattle.ass_num.specs.Causes.{Rose}
use Rattle.ass_io.specs.Fetched.{Told}
use Rattle.ass_io.specs.Fetches.{FetchChange, LoggedFetch, fetch_change}
use Rattle.ass_io.specs.Sinks.{SinkState}
use Rattle.ass_io.specs.Written.{AppendsFront}
use Rattle.ass_script.specs.Scripts.{ScriptValue}
use Rattle.bdf_font.specs.Limits.{max_fonts}
use Rattle.single_run.proofs.Ends.{ended}
use Rattle.single_run.proofs.PieceLemmas.{IsTellable, ended_told, memory_either, some_told, told_after, told_line}
use Rattle.single_run.proofs.Runs.{answered_after, done_before, fault_or_decided, found_before, keeps, reported_as}
use Rattle.single_run.specs.Outcomes.{ArePiecesFinished, ArePiecesTold, IsEnded, IsOrFault, IsOrMemory, IsReportable, IsReported, IsStatusReadCounted, IsWriteCounted, out_of_memory, text_to_report}
use Rattle.single_run.specs.Runs.{SinkChange, sink_change}
use Rattle.single_run.specs.declared.outcome.Outcome.{Outcome}
use Rattle.single_run.specs.declared.outcome.Outcome.TheVariants.{Ended, Found}
use Rattle.single_run.specs.Works.{is_too_long, limited_in, max_frames, work_asked, work_in, work_of}
use Rattle.single_run.specs.declared.work.Work.{Work}
use Rattle.run_status.proofs.FetchLemmas.{nothing_fetched}
use Rattle.run_status.specs.Laws.{AreTold, FilesDecide, IsReadDecided}
use Rattle.run_status.specs.declared.inputs.Inputs.{Inputs}
use Rattle.play_model.specs.Plays.{PlayView}
use Rattle.run_words.specs.Words.{job_of}
use Rattle.run_words.specs.declared.job.Job.{Job}
use Rattle.run_words.specs.declared.job.Job.TheVariants.{Changes, Check, Frame, Help, Play, Selftest, Stills, Version, Write}
use Rattle.run_words.specs.declared.job.PlayJob.{PlayJob}
use Rattle.run_words.specs.declared.job.WordsFault.{WordsFault}
use Rattle.run_status.specs.declared.status.Status.{Status}
use Rattle.run_status.specs.declared.status.Status.TheVariants as status
use Rattle.run_status.specs.declared.status.What.TheVariants.{Fonts, Frames as images}
use Rattle.run_status.specs.declared.status.Which.TheVariants.{Frames, Report}
use Rattle.play_report.specs.Reports.{summary_text}
use Rattle.play_command.proofs.SelftestLemmas.{wanting}
use Rattle.play_command.proofs.TextLemmas.{text_wanting}
use Rattle.play_command.specs.PlayRuns.{AreFetchedUnless, AreReadUnless, DecidesPlay, IsPlayAsked, IsPlayPut, IsPlayRun, IsPlayText, IsStreamFront, IsStreamOutput, front_pieces, output_pieces, play_refusal, status_read, view_of}
use Rattle.play_command.specs.SelftestRuns.{DecidesSelftest, IsSelftestRead, IsSelftestReport, IsSelftestRun}
use Rattle.play_command.specs.Working.{IsJobWorked, IsPlayShown, IsPlayWorked, IsSelftestWorked, IsLeftByCalm, IsShownAfter, IsSpoken}
use Rattle.run_words.specs.declared.job.ScriptSource.{ScriptSource}
use Rattle.play_command.specs.declared.help.TheConstants.{HELP}
use Rattle.play_command.specs.declared.own_text.TheConstants.{VERSION}

-- ---- what words ask for

-- The words of a play and of a selftest ask for no work that waits for nobody.
pub play_left : (words : List (List ℕ)) (job : PlayJob) (script : ScriptSource) (fonts : List (List ℕ)) → job_of words ≡ Ok (Play job script fonts) → work_asked words ≡ Ok None
play_left words job script fonts e = ap work_in e

pub selftest_left : (words : List (List ℕ)) (seed events workers : ℕ) → job_of words ≡ Ok (Selftest seed events workers) → work_asked words ≡ Ok None
selftest_left words seed events workers e = ap work_in e

pub left_no_work : (asked : Result (Option Work) Status) → asked ≡ Ok None → (work : Work) → asked ≡ Ok (Some work) → ⊥
left_no_work asked left work e = let wrong : Ok None ≡ Ok (Some work) = sym left ∙ e in cc

pub refused_no_work : (asked : Result (Option Work) Status) (why : Status) → asked ≡ Err why → (work : Work) → asked ≡ Ok (Some work) → ⊥
refused_no_work asked why refused work e = let wrong : Err why ≡ Ok (Some work) = sym refused ∙ e in cc

pub left_not_refused : (asked : Result (Option Work) Status) (why : Status) → asked ≡ Ok None → asked ≡ Err why → ⊥
left_not_refused asked why left e = let wrong : Ok None ≡ Err why = sym left ∙ e in cc

too_long_or_some : (b : Bool) (why : Status) (work : Work) → cond b (Err why) (Ok (Some work)) ≡ Ok None → ⊥
too_long_or_some true why work e = cc
too_long_or_some false why work e = cc

limited_is_some : (work : Option Work) → limited_in work ≡ Ok None → ⊥
limited_is_some None e = cc
limited_is_some (Some work) e = too_long_or_some (is_too_long work) (status.TooLarge images max_frames) work e

-- No other job is left.
is_left : (job : Job) → work_in (Ok job) ≡ Ok None → IsLeftByCalm job
is_left (Play job script fonts) e = tt
is_left (Selftest seed events workers) e = tt
is_left (Check script fonts) e = absurd (limited_is_some (work_of (Check script fonts)) e)
is_left (Frame frame script fonts) e = absurd (limited_is_some (work_of (Frame frame script fonts)) e)
is_left (Changes changes script fonts) e = absurd (limited_is_some (work_of (Changes changes script fonts)) e)
is_left (Stills stills script fonts) e = absurd (limited_is_some (work_of (Stills stills script fonts)) e)
is_left Help e = tt
is_left Version e = tt
is_left (Write later earlier script) e = absurd (limited_is_some (work_of (Write later earlier script)) e)

pub job_left : (words : List (List ℕ)) (job : Job) → job_of words ≡ Ok job → work_asked words ≡ Ok None → IsLeftByCalm job
job_left words job e left = is_left job (sym (ap work_in e) ∙ left)

-- Words ask for one job.
pub same_job : (reading : Result Job WordsFault) (one other : Job) → reading ≡ Ok one → reading ≡ Ok other → one ≡ other
same_job reading one other a b = let whole : Ok one ≡ Ok other = sym a ∙ b in cc

pub not_selftest : (play : PlayJob) (script : ScriptSource) (fonts : List (List ℕ)) (seed events workers : ℕ) → Play play script fonts ≡ Selftest seed events workers → ⊥
not_selftest play script fonts seed events workers e = cc

-- ---- what the report got

abbrev IsToldBy : SinkChange → Status → List ℕ → Type 0
IsToldBy report answer text = IsReported answer report.before.held report.now.held report.before.faults report.now.faults (λ t. t ≡ text)

abbrev IsFinishedBy : SinkChange → Outcome → Status → Type 0
IsFinishedBy report outcome answer = ArePiecesFinished outcome answer report.before.asked report.now.asked

-- ---- a play

module _ (play : PlayView) (frames report : SinkChange) (answer : Status) where
  found_put : (bytes : List ℕ) (text : String Global) (stream : IsStreamOutput play bytes (string_bytes text)) → Appends frames.before.held frames.now.held bytes →
      frames.now.asked ≡ frames.before.asked ++ output_pieces play bytes (string_bytes text) stream → IsOrMemory status.Done answer ⊎ (answer ≡ status.WriteFault Report) → IsToldBy report answer (string_bytes text) →
      IsFinishedBy report (Found text) answer → IsPlayPut play frames report answer
  found_put bytes text stream appended pieces (inl (inl done)) told finished =
      let t : IsToldBy report status.Done (string_bytes text) = subst (λ s. IsToldBy report s (string_bytes text)) done told in
      let f : IsFinishedBy report (Found text) status.Done = subst (λ s. IsFinishedBy report (Found text) s) done finished in
      subst (λ s. IsPlayPut play frames report s) (sym done)
      (bytes, string_bytes text, stream, appended, subst (λ x. Appends report.before.held report.now.held x) t.1 t.2, t.3, pieces, f)
  found_put bytes text stream appended pieces (inl (inr memory)) told finished =
      let t : IsToldBy report status.OutOfMemory (string_bytes text) = subst (λ s. IsToldBy report s (string_bytes text)) memory told in
      let f : IsFinishedBy report (Found text) status.OutOfMemory = subst (λ s. IsFinishedBy report (Found text) s) memory finished in
      subst (λ s. IsPlayPut play frames report s) (sym memory)
      (bytes, inr (string_bytes text, stream), appended, t, pieces, some_told (IsPlayText play) report.before.asked report.now.asked (string_bytes text) (inl (stream.shown, stream.output)) f)
  found_put bytes text stream appended pieces (inr fault) told finished =
      let t : IsToldBy report (status.WriteFault Report) (string_bytes text) = subst (λ s. IsToldBy report s (string_bytes text)) fault told in
      let f : IsFinishedBy report (Found text) (status.WriteFault Report) = subst (λ s. IsFinishedBy report (Found text) s) fault finished in
      subst (λ s. IsPlayPut play frames report s) (sym fault)
      (bytes, string_bytes text, stream, appended, subst (λ x. AppendsFront report.before.held report.now.held x) t.1 t.2, t.3, t.4, pieces, f)

  fault_put : (bytes : List ℕ) (front : IsStreamFront play bytes) → Appends frames.before.held frames.now.held bytes → frames.now.asked ≡ frames.before.asked ++ front_pieces play bytes front →
      IsOrMemory (status.WriteFault Frames) answer → IsToldBy report answer [] → IsFinishedBy report (Ended (status.WriteFault Frames)) answer → IsPlayPut play frames report answer
  fault_put bytes front appended pieces (inl fault) told finished =
      subst (λ s. IsPlayPut play frames report s) (sym fault)
      (bytes, front, appended, subst (λ s. IsToldBy report s []) fault told, pieces, subst (λ s. IsFinishedBy report (Ended (status.WriteFault Frames)) s) fault finished)
  fault_put bytes front appended pieces (inr memory) told finished =
      let t : IsToldBy report status.OutOfMemory [] = subst (λ s. IsToldBy report s []) memory told in
      let f : IsFinishedBy report (Ended (status.WriteFault Frames)) status.OutOfMemory = subst (λ s. IsFinishedBy report (Ended (status.WriteFault Frames)) s) memory finished in
      subst (λ s. IsPlayPut play frames report s) (sym memory)
      (bytes, inl front, appended, t, pieces, told_line (IsPlayText play) report.before.asked report.now.asked (status.WriteFault Frames) f)

  put : (outcome : Outcome) → IsPlayShown play frames outcome → IsEnded outcome answer → IsToldBy report answer (text_to_report outcome) → IsFinishedBy report outcome answer →
      IsPlayPut play frames report answer
  put (Found text) h e told f = found_put h.0 text h.1 h.2 h.3 e told f
  put (Ended (status.WriteFault Frames)) h e told f = fault_put h.0 h.1 h.2 h.3 e told f
  put (Ended status.OutOfMemory) h e told f =
      let memory = memory_either answer e in
      let t : IsToldBy report status.OutOfMemory [] = subst (λ s. IsToldBy report s []) memory told in
      subst (λ s. IsPlayPut play frames report s) (sym memory) (h.0, h.1, h.2, t, h.3, inl f)
  put (Ended status.Done) h e told f = absurd h
  put (Ended (status.BadWords why)) h e told f = absurd h
  put (Ended (status.NoSuchFile name)) h e told f = absurd h
  put (Ended (status.ReadFault name)) h e told f = absurd h
  put (Ended (status.BadScript cause)) h e told f = absurd h
  put (Ended (status.BadFont index fault)) h e told f = absurd h
  put (Ended (status.WriteFault Report)) h e told f = absurd h
  put (Ended (status.TooLarge what limit)) h e told f = absurd h
  put (Ended (status.Unwritable order field)) h e told f = absurd h

tellable : (why : Status) → IsReportable (Ended why) → IsSpoken (Ended why) → IsTellable Report why
tellable status.Done r s = absurd s
tellable (status.BadWords why) r s = tt
tellable (status.NoSuchFile name) r s = tt
tellable (status.ReadFault name) r s = tt
tellable (status.BadScript cause) r s = tt
tellable (status.BadFont index fault) r s = tt
tellable (status.WriteFault Frames) r s = tt
tellable (status.WriteFault Report) r s = absurd r
tellable (status.TooLarge what limit) r s = tt
tellable status.OutOfMemory r s = tt
tellable (status.Unwritable order field) r s = tt

-- the line of a refusal
abbrev IsLineTold : SinkChange → Status → Type 0
IsLineTold report answer = ArePiecesTold Report answer (λ text. text ≡ []) report.before.asked report.now.asked

refused_told : (why answer : Status) (report : SinkChange) → IsReportable (Ended why) → IsSpoken (Ended why) → IsEnded (Ended why) answer → IsFinishedBy report (Ended why) answer → IsLineTold report answer
refused_told why answer report r s e f = ended_told (λ text. text ≡ []) report.before.asked report.now.asked Report why answer (tellable why r s) e f

asked : (job : PlayJob) (reading : Result Inputs Status) (frames report : SinkChange) (outcome : Outcome) (answer : Status) → IsShownAfter job reading frames outcome → IsReportable outcome → IsSpoken outcome →
    IsEnded outcome answer → IsToldBy report answer (text_to_report outcome) → IsFinishedBy report outcome answer → IsPlayAsked job reading frames report answer
asked job (Ok inputs) frames report outcome answer h r s e told f = (h.0, put (view_of job inputs) frames report answer outcome h.1 e told f)
asked job (Err why) frames report outcome answer h r s e told f = elim h.0 [
  | inl same ↦ (
      let end : IsEnded (Ended why) answer = subst (λ (o : Outcome). IsEnded o answer) same e in (
        ended why answer end,
        h.1,
        subst (λ (o : Outcome). IsToldBy report answer (text_to_report o)) same told,
        h.2,
        refused_told why answer report (subst IsReportable same r) (subst IsSpoken same s) end (subst (λ (o : Outcome). IsFinishedBy report o answer) same f),
      )
      )
  | inr memory ↦ (
      let end : IsEnded out_of_memory answer = subst (λ (o : Outcome). IsEnded o answer) memory e in (
        inr (memory_either answer end),
        h.1,
        subst (λ (o : Outcome). IsToldBy report answer (text_to_report o)) memory told,
        h.2,
        refused_told status.OutOfMemory answer report tt tt end (subst (λ (o : Outcome). IsFinishedBy report o answer) memory f),
      )
      )
]

-- A play and what is reported of it are a run.
pub play_run : (told : List ℕ → Told) (log : FetchChange) (job : PlayJob) (script : ScriptSource) (fonts : List (List ℕ)) (frames report : SinkChange) (outcome : Outcome) (answer : Status) →
    IsPlayWorked told log job script fonts frames outcome → IsReportable outcome → IsSpoken outcome → IsEnded outcome answer → IsToldBy report answer (text_to_report outcome) →
    IsFinishedBy report outcome answer → IsPlayRun told log job script fonts frames report answer
play_run told log job script fonts frames report outcome answer worked r s e tells f = record {
  reading = worked.reading;
  read = worked.read;
  fetched = worked.fetched;
  asked = asked job worked.reading frames report outcome answer worked.shown r s e tells f;
}

-- Memory may be wanting before any file is fetched.
unread : (refusal : Option Status) (told : List ℕ → Told) (log : List LoggedFetch) (script : ScriptSource) (fonts : List (List ℕ)) →
    (why : Status) × AreReadUnless refusal told script fonts (Err why) × AreFetchedUnless refusal script fonts (fetch_change log log) (Err why)
unread (Some why) told log script fonts = (why, refl, (refl, refl))
unread None told log script fonts = elim (cases_lt max_fonts (length fonts)) [
  | inl many ↦ (status.TooLarge Fonts max_fonts, inr (many, refl), inr (many, refl, refl))
  | inr few ↦ (status.OutOfMemory, inl (few, inl tt), inl (few, nothing_fetched script fonts log))
]

pub play_wanting : (told : List ℕ → Told) (log : List LoggedFetch) (job : PlayJob) (script : ScriptSource) (fonts : List (List ℕ)) (state : SinkState) (report : SinkChange) (answer : Status) →
    answer ≡ status.OutOfMemory → IsToldBy report answer [] → IsFinishedBy report out_of_memory answer → IsPlayRun told (fetch_change log log) job script fonts (sink_change state state) report answer
play_wanting told log job script fonts state report answer memory tells f =
    let reading = unread (play_refusal job fonts) told log script fonts in
    record { reading = Err reading.0; read = reading.1; fetched = reading.2; asked = (inr memory, keeps state.held, tells, refl, refused_told status.OutOfMemory answer report tt tt (inl memory) f) }

-- It may be wanting for the words too.
pub job_wanting : (told : List ℕ → Told) (log : List LoggedFetch) (job : Job) (state : SinkState) → IsLeftByCalm job → IsJobWorked told (fetch_change log log) job (sink_change state state) out_of_memory
job_wanting told log (Play play script fonts) state left =
    let reading = unread (play_refusal play fonts) told log script fonts in
    record { reading = Err reading.0; read = reading.1; fetched = reading.2; shown = (inr refl, keeps state.held, refl) }
job_wanting told log (Selftest seed events workers) state left = wanting summary_text seed events (Err status.OutOfMemory) (inr refl)
job_wanting told log (Check script fonts) state left = absurd left
job_wanting told log (Frame frame script fonts) state left = absurd left
job_wanting told log (Changes changes script fonts) state left = absurd left
job_wanting told log (Stills stills script fonts) state left = absurd left
job_wanting told log Help state left = text_wanting HELP.now state
job_wanting told log Version state left = text_wanting VERSION.now state
job_wanting told log (Write later earlier script) state left = absurd left

-- ---- what decides a play

read_one : FilesDecide → (refusal : Option Status) (told : List ℕ → Told) (script : ScriptSource) (fonts : List (List ℕ)) (one other : Result Inputs Status) → AreTold told script fonts →
    IsReadDecided one → IsReadDecided other → AreReadUnless refusal told script fonts one → AreReadUnless refusal told script fonts other → one ≡ other
read_one law (Some why) told script fonts one other known d f h k = h ∙ sym k
read_one law None told script fonts one other known d f h k = law told script fonts one other known d f h k

put_done : (play : PlayView) (frames report : SinkChange) (answer : Status) → IsPlayPut play frames report answer → IsWriteCounted answer frames.before.faults frames.now.faults →
    (Rose frames.before.faults frames.now.faults → ⊥) → (Rose report.before.faults report.now.faults → ⊥) → IsOrMemory status.Done answer
put_done play frames report status.Done h written shows reports = inl refl
put_done play frames report (status.WriteFault Frames) h written shows reports = absurd (shows written.0)
put_done play frames report (status.WriteFault Report) h written shows reports = absurd (reports h.5)
put_done play frames report status.OutOfMemory h written shows reports = inr refl
put_done play frames report (status.BadWords why) h written shows reports = absurd h
put_done play frames report (status.NoSuchFile name) h written shows reports = absurd h
put_done play frames report (status.ReadFault name) h written shows reports = absurd h
put_done play frames report (status.BadScript cause) h written shows reports = absurd h
put_done play frames report (status.BadFont index fault) h written shows reports = absurd h
put_done play frames report (status.TooLarge what limit) h written shows reports = absurd h
put_done play frames report (status.Unwritable order field) h written shows reports = absurd h

asked_status : (job : PlayJob) (reading : Result Inputs Status) (frames report : SinkChange) (answer : Status) → IsPlayAsked job reading frames report answer →
    IsWriteCounted answer frames.before.faults frames.now.faults → (Rose frames.before.faults frames.now.faults → ⊥) → (Rose report.before.faults report.now.faults → ⊥) →
    IsOrMemory (status_read reading) answer
asked_status job (Ok inputs) frames report answer h written shows reports = put_done (view_of job inputs) frames report answer h.1 written shows reports
asked_status job (Err why) frames report answer h written shows reports = h.0

without_fault : (name : List ℕ) (answer : Status) (before now : ℕ) → (Rose before now → ⊥) → IsStatusReadCounted answer before now → IsOrMemory (status.ReadFault name) answer → answer ≡ status.OutOfMemory
without_fault name answer before now stays counted (inl fault) = absurd (stays (subst (λ s. IsStatusReadCounted s before now) fault counted).0)
without_fault name answer before now stays counted (inr memory) = memory

-- Files that are told decide a play without a fault.
pub play_decides : FilesDecide → (told : List ℕ → Told) (log : FetchChange) (job : PlayJob) (script : ScriptSource) (fonts : List (List ℕ)) (frames report : SinkChange) (before now : ℕ) (answer : Status) →
    IsPlayRun told log job script fonts frames report answer → IsStatusReadCounted answer before now → IsWriteCounted answer frames.before.faults frames.now.faults →
    (Rose before now → ⊥) → (Rose frames.before.faults frames.now.faults → ⊥) → (Rose report.before.faults report.now.faults → ⊥) → DecidesPlay told job script fonts answer
play_decides law told log job script fonts frames report before now answer run counted written stays shows reports = λ reading known read decided.
    let says : (r : Result Inputs Status) → run.reading ≡ r → IsOrMemory (status_read r) answer =
    λ r same. asked_status job r frames report answer (subst (λ x. IsPlayAsked job x frames report answer) same run.asked) written shows reports in
    elim (fault_or_decided run.reading) [
      | inl found ↦ says reading (read_one law (play_refusal job fonts) told script fonts run.reading reading known found decided run.read read)
      | inr (inl (name, fault)) ↦ inr (without_fault name answer before now stays counted (says (Err (status.ReadFault name)) fault))
      | inr (inr memory) ↦ inr (memory_either answer (says (Err status.OutOfMemory) memory))
    ]

-- ---- a selftest

pub selftest_run : (seed events : ℕ) (report : SinkChange) (outcome : Outcome) (answer : Status) → IsSelftestWorked seed events outcome → IsEnded outcome answer →
    IsToldBy report answer (text_to_report outcome) → IsFinishedBy report outcome answer → IsSelftestRun seed events report answer
selftest_run seed events report outcome answer worked e tells f = record {
  reading = worked.reading;
  read = worked.read;
  answered = answered_after Report (status_read worked.reading) outcome answer worked.own worked.answered e;
  reported = reported_as answer _ _ _ _ (text_to_report outcome) (IsSelftestReport seed events worked.reading)
      (λ done. worked.text (done_before outcome answer e done))
      (λ fault. worked.text (found_before Report outcome answer worked.own e fault)) tells;
  pieces = told_after (IsSelftestReport seed events worked.reading) report.before.asked report.now.asked Report outcome answer worked.text worked.own e f;
}

pub selftest_wanting : (seed events : ℕ) (report : SinkChange) (answer : Status) → answer ≡ status.OutOfMemory → IsToldBy report answer [] → IsFinishedBy report out_of_memory answer →
    IsSelftestRun seed events report answer
selftest_wanting seed events report answer memory tells f = record {
  reading = Err status.OutOfMemory;
  read = inr refl;
  answered = inl (inl memory);
  reported = tells;
  pieces = ended_told (IsSelftestReport seed events (Err status.OutOfMemory)) report.before.asked report.now.asked Report status.OutOfMemory answer tt (inl memory) f;
}

pub reading_one : (seed events : ℕ) (one other : Result ScriptValue Status) → IsReadDecided other → IsSelftestRead seed events one → IsSelftestRead seed events other →
    (one ≡ other) ⊎ (one ≡ Err status.OutOfMemory)
reading_one seed events one other decided (inr memory) k = inr memory
reading_one seed events one other decided h (inr memory) = absurd (subst (λ (r : Result ScriptValue Status). IsReadDecided r) memory decided)
reading_one seed events one other decided (inl (inl h)) (inl (inl k)) = inl (h.1 ∙ sym k.1)
reading_one seed events one other decided (inl (inl h)) (inl (inr k)) = absurd (omega (arith, h.0, k.0))
reading_one seed events one other decided (inl (inr h)) (inl (inl k)) = absurd (omega (arith, h.0, k.0))
reading_one seed events one other decided (inl (inr h)) (inl (inr k)) = inl (h.1 ∙ sym k.1)

reported_well : (seed events : ℕ) (report : SinkChange) (answer : Status) (run : IsSelftestRun seed events report answer) → (Rose report.before.faults report.now.faults → ⊥) →
    IsOrMemory (status_read run.reading) answer
reported_well seed events report answer run reports = cases run.answered
  where
    cases : IsOrFault Report (status_read run.reading) answer → IsOrMemory (status_read run.reading) answer
    cases (inl h) = h
    cases (inr (done, fault)) =
        absurd (reports (subst (λ s. IsReported s report.before.held report.now.held report.before.faults report.now.faults (IsSelftestReport seed events run.reading)) fault run.reported).3)

-- The generated script decides a selftest whose report didn't fail.
pub selftest_decides : (seed events : ℕ) (report : SinkChange) (answer : Status) → IsSelftestRun seed events report answer → (Rose report.before.faults report.now.faults → ⊥) →
    DecidesSelftest seed events answer
selftest_decides seed events report answer run reports = λ reading read decided.
    let says = reported_well seed events report answer run reports in
    elim (reading_one seed events run.reading reading decided run.read read) [
      | inl same ↦ subst (λ (r : Result ScriptValue Status). IsOrMemory (status_read r) answer) same says
      | inr memory ↦ inr (memory_either answer (subst (λ (r : Result ScriptValue Status). IsOrMemory (status_read r) answer) memory says))
    ]
