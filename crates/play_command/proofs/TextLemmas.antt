-- What the program tells of itself, up to the end of a run.
use Rattle.std.proofs.Common.{◌≡◌, inl, inr, ℕ, List, [], Some, None, Ok, ◌∙◌, refl, sym, ap, subst, arith}
use Rattle.ass_io.specs.Fetched.{Told}
use Rattle.ass_io.specs.Fetches.{FetchChange}
use Rattle.ass_io.specs.Sinks.{SinkState}
use Rattle.single_run.proofs.PieceLemmas.{pieces_after, told_after}
use Rattle.single_run.proofs.Runs.{answered_after, keeps, reported_as, shown_after}
use Rattle.single_run.specs.Outcomes.{ArePiecesFinished, ArePiecesShown, IsEnded, IsOrFault, IsReportable, IsReported, IsShown, IsStatusReadCounted, SuitsSink, out_of_memory, status_if_put, text_to_report}
use Rattle.single_run.specs.Runs.{SinkChange, sink_change}
use Rattle.single_run.specs.Works.{work_asked, work_in}
use Rattle.single_run.specs.declared.outcome.Outcome.{Outcome}
use Rattle.single_run.specs.declared.outcome.Outcome.TheVariants.{Ended, Found}
use Rattle.run_words.specs.Words.{job_of}
use Rattle.run_words.specs.declared.job.Job.{Job}
use Rattle.run_words.specs.declared.job.Job.TheVariants.{Changes, Check, Frame, Help, Play, Selftest, Stills, Version, Write}
use Rattle.run_status.specs.declared.status.Status.{Status}
use Rattle.run_status.specs.declared.status.Status.TheVariants as status
use Rattle.run_status.specs.declared.status.Which.TheVariants.{Frames, Report}
use Rattle.play_command.specs.OwnTexts.{IsTextRun, IsTextWorked, own_text}
use Rattle.play_command.specs.Working.{IsJobWorked}
use Rattle.play_command.specs.declared.help.TheConstants.{HELP}
use Rattle.play_command.specs.declared.own_text.TheConstants.{VERSION}

-- ---- the text

suits_frames : (why : Status) → (why ≡ status.WriteFault Report → ⊥) → SuitsSink Frames (Ended why)
suits_frames status.Done own = tt
suits_frames (status.BadWords why) own = tt
suits_frames (status.NoSuchFile name) own = tt
suits_frames (status.ReadFault name) own = tt
suits_frames (status.BadScript cause) own = tt
suits_frames (status.BadFont index fault) own = tt
suits_frames (status.WriteFault Frames) own = tt
suits_frames (status.WriteFault Report) own = absurd (own refl)
suits_frames (status.TooLarge what limit) own = tt
suits_frames status.OutOfMemory own = tt
suits_frames (status.Unwritable order field) own = tt

pub shown_is_worked : (text : List ℕ) (old new : SinkState) (why : Status) → IsOrFault Frames status.Done why → IsShown why old.held new.held (λ bytes. bytes ≡ text)
    → ArePiecesShown Frames why (λ bytes. bytes ≡ text) old.asked new.asked → (why ≡ status.WriteFault Report → ⊥) → IsTextWorked text (sink_change old new) (Ended why)
shown_is_worked text old new why answered shown pieces own = record { answered = answered; shown = shown; pieces = pieces; own = suits_frames why own }

-- No file is read for it.
reads_none : (why : Status) (n : ℕ) → IsOrFault Frames status.Done why → IsStatusReadCounted why n n
reads_none why n (inl (inl done)) = subst (λ s. IsStatusReadCounted s n n) (sym done) refl
reads_none why n (inl (inr memory)) = subst (λ s. IsStatusReadCounted s n n) (sym memory) (omega arith)
reads_none why n (inr (done, fault)) = subst (λ s. IsStatusReadCounted s n n) (sym fault) refl

pub text_reads_none : (text : List ℕ) (frames : SinkChange) (outcome : Outcome) (n : ℕ) → IsTextWorked text frames outcome → IsStatusReadCounted (status_if_put outcome) n n
text_reads_none text frames outcome n worked = reads_none (status_if_put outcome) n worked.answered

reportable : (outcome : Outcome) → SuitsSink Frames outcome → IsReportable outcome
reportable (Found text) own = absurd own
reportable (Ended status.Done) own = tt
reportable (Ended (status.BadWords why)) own = tt
reportable (Ended (status.NoSuchFile name)) own = tt
reportable (Ended (status.ReadFault name)) own = tt
reportable (Ended (status.BadScript cause)) own = tt
reportable (Ended (status.BadFont index fault)) own = tt
reportable (Ended (status.WriteFault Frames)) own = tt
reportable (Ended (status.WriteFault Report)) own = absurd own
reportable (Ended (status.TooLarge what limit)) own = tt
reportable (Ended status.OutOfMemory) own = tt
reportable (Ended (status.Unwritable order field)) own = tt

pub text_reportable : (text : List ℕ) (frames : SinkChange) (outcome : Outcome) → IsTextWorked text frames outcome → IsReportable outcome
text_reportable text frames outcome worked = reportable outcome worked.own

-- ---- what words ask for

-- Words that ask for a text of the program ask for no work.
text_left : (job : Job) (text : List ℕ) → own_text job ≡ Some text → work_in (Ok job) ≡ Ok None
text_left Help text e = refl
text_left Version text e = refl
text_left (Check script fonts) text e = cc
text_left (Frame frame script fonts) text e = cc
text_left (Play play script fonts) text e = cc
text_left (Stills stills script fonts) text e = cc
text_left (Selftest seed events workers) text e = cc
text_left (Changes changes script fonts) text e = cc
text_left (Write later earlier script) text e = cc

pub words_left : (words : List (List ℕ)) (job : Job) (text : List ℕ) → job_of words ≡ Ok job → own_text job ≡ Some text → work_asked words ≡ Ok None
words_left words job text asked told = ap work_in asked ∙ text_left job text told

pub text_worked : (told : List ℕ → Told) (log : FetchChange) (job : Job) (text : List ℕ) (frames : SinkChange) (outcome : Outcome) → own_text job ≡ Some text → IsJobWorked told log job frames outcome
    → IsTextWorked text frames outcome
text_worked told log Help text frames outcome e worked = let is : HELP.now ≡ text = cc in subst (λ t. IsTextWorked t frames outcome) is worked
text_worked told log Version text frames outcome e worked = let is : VERSION.now ≡ text = cc in subst (λ t. IsTextWorked t frames outcome) is worked
text_worked told log (Check script fonts) text frames outcome e worked = cc
text_worked told log (Frame frame script fonts) text frames outcome e worked = cc
text_worked told log (Play play script fonts) text frames outcome e worked = cc
text_worked told log (Stills stills script fonts) text frames outcome e worked = cc
text_worked told log (Selftest seed events workers) text frames outcome e worked = cc
text_worked told log (Changes changes script fonts) text frames outcome e worked = cc
text_worked told log (Write later earlier script) text frames outcome e worked = cc

-- Memory may be wanting before the text is put.
pub text_wanting : (text : List ℕ) (state : SinkState) → IsTextWorked text (sink_change state state) out_of_memory
text_wanting text state = record { answered = inl (inr refl); shown = inl (keeps state.held); pieces = inl refl; own = tt }

-- ---- the end of the run

nothing_found : (outcome : Outcome) → SuitsSink Frames outcome → text_to_report outcome ≡ []
nothing_found (Ended why) own = refl
nothing_found (Found text) own = absurd own

pub text_run : (text : List ℕ) (frames report : SinkChange) (outcome : Outcome) (answer : Status) → IsTextWorked text frames outcome → IsEnded outcome answer
    → IsReported answer report.before.held report.now.held report.before.faults report.now.faults (λ line. line ≡ text_to_report outcome)
    → ArePiecesFinished outcome answer report.before.asked report.now.asked → IsTextRun text frames report answer
text_run text frames report outcome answer worked ended reported finished =
    let none = nothing_found outcome worked.own in
    record {
      answered = answered_after Frames status.Done outcome answer worked.own worked.answered ended;
      shown = shown_after Frames (λ bytes. bytes ≡ text) outcome answer frames.before.held frames.now.held (λ e. cc) worked.own ended worked.shown;
      pieces_shown = pieces_after (λ bytes. bytes ≡ text) frames.before.asked frames.now.asked Frames outcome answer worked.own ended worked.pieces;
      reported = reported_as answer _ _ _ _ (text_to_report outcome) (λ line. line ≡ []) (λ done. none) (λ fault. none) reported;
      pieces_told = told_after (λ line. line ≡ []) report.before.asked report.now.asked Frames outcome answer (λ done. none) worked.own ended finished;
    }

-- Where memory ran out for the words.
pub text_run_wanting : (text : List ℕ) (state : SinkState) (report : SinkChange) (answer : Status) → answer ≡ status.OutOfMemory
    → IsReported answer report.before.held report.now.held report.before.faults report.now.faults (λ line. line ≡ [])
    → ArePiecesFinished out_of_memory answer report.before.asked report.now.asked → IsTextRun text (sink_change state state) report answer
text_run_wanting text state report answer memory reported finished =
    text_run text (sink_change state state) report out_of_memory answer (text_wanting text state) (inr memory) reported finished
