-- How the parts of a run make the whole.
use Rattle.std.proofs.Common.{◌≡◌, ◌⊎◌, inl, inr, ℕ, ◌≤◌, List, [], ◌++◌, length, slice_index_or, Option, Some, None, Result, Ok, Err, refl, sym, ap, subst, ◌∙◌, ◌∷◌, append-nil, append_assoc, arith}
use Rattle.std.specs.Io.KnownBytes.{Appends, Keeps}
use Rattle.std.proofs.KnownBytes.{Keeps-trans}
use Rattle.std.proofs.lemmas.Bool.{cases_lt}
use Rattle.ass_num.specs.Causes.{Rose}
use Rattle.ass_io.specs.Fetches.{FetchChange, LoggedFetch, fetch_change}
use Rattle.ass_io.specs.Fetched.{Told}
use Rattle.ass_io.specs.Sinks.{SinkState}
use Rattle.ass_io.specs.Written.{AppendsFront, IsPut, IsPutCounted}
use Rattle.ass_io.specs.declared.sink.Put.{Put}
use Rattle.ass_io.specs.declared.sink.Put.TheVariants as put
use Rattle.run_status.specs.Files.{Asks, AsksFonts, AsksScript, IsAnswered}
use Rattle.run_status.specs.Fetches.{AreFetched}
use Rattle.run_status.specs.Inputs.{AreRead}
use Rattle.run_status.proofs.FetchLemmas.{nothing_fetched}
use Rattle.run_status.specs.Laws.{FilesDecide, IsReadDecided}
use Rattle.run_status.specs.declared.inputs.Inputs.{Inputs}
use Rattle.run_words.specs.declared.job.ScriptSource.{ScriptSource}
use Rattle.single_run.specs.declared.work.Work.{Work}
use Rattle.single_run.specs.declared.work.Task.{Task}
use Rattle.single_run.specs.declared.work.Task.TheVariants.{Changes, Check, Frame, Stills, Write}
use Rattle.run_status.specs.Statuses.{status_line}
use Rattle.run_status.specs.declared.status.Status.{Status}
use Rattle.run_status.specs.declared.status.Status.TheVariants as status
use Rattle.run_status.specs.declared.status.What.TheVariants.{Fonts}
use Rattle.run_status.specs.declared.status.Which.{Which}
use Rattle.run_status.specs.declared.status.Which.TheVariants.{Frames, Report}
use Rattle.track_write.specs.declared.refusal.WriteRefusal.{WriteRefusal}
use Rattle.track_write.specs.declared.refusal.WriteRefusal.TheVariants.{OutOfMemory, Unwritable}
use Rattle.single_run.specs.Outcomes.{ArePiecesFinished, ArePiecesShown, ArePiecesTold, IsEnded, IsOrFault, IsOrMemory, SuitsSink, IsStatusReadCounted, IsMemoryReported, IsReportable, IsReported, IsShown, IsWriteCounted, out_of_memory, status_if_put, text_to_report}
use Rattle.single_run.specs.Outputs.{AreKeptOf, ArePiecesOf, IsAnswerOf, IsFramesAsked, IsReportAsked, IsShownOf, SuitsTask, kept_view, rewritten, sink_of, status_asked, task_status, written_status}
use Rattle.single_run.specs.StillOutputs.{SuitsStills}
use Rattle.still_images.specs.Stills.{Still}
use Rattle.single_run.specs.Runs.{Decides, IsJobRun, IsTaskDone, IsWorked, SinkChange, sink_change}
use Rattle.single_run.specs.declared.outcome.Outcome.{Outcome}
use Rattle.single_run.specs.declared.outcome.Outcome.TheVariants.{Ended, Found}
use Rattle.single_run.proofs.Ends.{ended}
use Rattle.single_run.proofs.PieceLemmas.{ended_told, pieces_after, stills_tellable, told_after}
use Rattle.single_run.proofs.StillLemmas.{either_after, held_after, kept_after}

-- ---- what sinks got

pub keeps : (held : Option (List ℕ)) → Keeps held held
keeps None = tt
keeps (Some bytes) = refl

pub appends_none : (held : Option (List ℕ)) → Appends held held []
appends_none None = tt
appends_none (Some bytes) = sym (append-nil bytes)

keeps_appended : (old new : Option (List ℕ)) → Appends old new [] → Keeps old new
keeps_appended None new h = tt
keeps_appended (Some xs) None h = h
keeps_appended (Some xs) (Some ys) h = h ∙ append-nil xs

front_by_all : (old new : Option (List ℕ)) (piece : List ℕ) → Appends old new piece → AppendsFront old new piece
front_by_all old new piece h = (piece, [], sym (append-nil piece), h)

-- Where nothing may be all, nothing is shown.
pub shown_none : (answer : Status) (held : Option (List ℕ)) (may : List ℕ → Type 0) → may [] → IsShown answer held held may
shown_none status.Done held may m = ([], m, appends_none held)
shown_none (status.NoSuchFile name) held may m = keeps held
shown_none (status.ReadFault name) held may m = keeps held
shown_none (status.BadScript cause) held may m = keeps held
shown_none (status.BadFont index fault) held may m = keeps held
shown_none (status.WriteFault Frames) held may m = ([], m, front_by_all held held [] (appends_none held))
shown_none (status.WriteFault Report) held may m = keeps held
shown_none (status.TooLarge what limit) held may m = keeps held
shown_none status.OutOfMemory held may m = inl (keeps held)
shown_none (status.BadWords why) held may m = keeps held
shown_none (status.Unwritable order field) held may m = keeps held

-- What was shown may be a part where memory runs out.
shown_front : (answer : Status) (old new : Option (List ℕ)) (may : List ℕ → Type 0) → IsShown answer old new may → IsShown status.OutOfMemory old new may
shown_front status.Done old new may h = inr (h.0, h.1, front_by_all old new h.0 h.2)
shown_front (status.NoSuchFile name) old new may h = inl h
shown_front (status.ReadFault name) old new may h = inl h
shown_front (status.BadScript cause) old new may h = inl h
shown_front (status.BadFont index fault) old new may h = inl h
shown_front (status.WriteFault Frames) old new may h = inr h
shown_front (status.WriteFault Report) old new may h = inl h
shown_front (status.TooLarge what limit) old new may h = inl h
shown_front status.OutOfMemory old new may h = h
shown_front (status.BadWords why) old new may h = inl h
shown_front (status.Unwritable order field) old new may h = inl h

-- What is shown of bytes that may be shown is so of all bytes that may be.
pub shown_more : (answer : Status) (old new : Option (List ℕ)) (may more : List ℕ → Type 0) → ((bytes : List ℕ) → may bytes → more bytes) → IsShown answer old new may → IsShown answer old new more
shown_more status.Done old new may more each h = (h.0, each h.0 h.1, h.2)
shown_more (status.NoSuchFile name) old new may more each h = h
shown_more (status.ReadFault name) old new may more each h = h
shown_more (status.BadScript cause) old new may more each h = h
shown_more (status.BadFont index fault) old new may more each h = h
shown_more (status.WriteFault Frames) old new may more each h = (h.0, each h.0 h.1, h.2)
shown_more (status.WriteFault Report) old new may more each h = h
shown_more (status.TooLarge what limit) old new may more each h = h
shown_more status.OutOfMemory old new may more each (inl h) = inl h
shown_more status.OutOfMemory old new may more each (inr h) = inr (h.0, each h.0 h.1, h.2)
shown_more (status.BadWords why) old new may more each h = h
shown_more (status.Unwritable order field) old new may more each h = h

-- What a put leaves is so of its piece alone.
pub shown_whole : (old new : Option (List ℕ)) (piece : List ℕ) → Appends old new piece → IsShown status.Done old new (λ bytes. bytes ≡ piece)
shown_whole old new piece h = (piece, refl, h)

pub shown_part : (old new : Option (List ℕ)) (piece : List ℕ) → AppendsFront old new piece → IsShown (status.WriteFault Frames) old new (λ bytes. bytes ≡ piece)
shown_part old new piece h = (piece, refl, h)

pub shown_kept : (old new : Option (List ℕ)) (piece : List ℕ) → Keeps old new → IsShown status.OutOfMemory old new (λ bytes. bytes ≡ piece)
shown_kept old new piece h = inl h

-- The same of the report.
pub told_whole : (old new : Option (List ℕ)) (before now : ℕ) (text : List ℕ) → Appends old new text → now ≡ before → IsReported status.Done old new before now (λ t. t ≡ text)
told_whole old new before now text h same = (text, refl, h, same)

pub told_part : (old new : Option (List ℕ)) (before now : ℕ) (text : List ℕ) → AppendsFront old new text → Rose before now → before ≤ now → IsReported (status.WriteFault Report) old new before now (λ t. t ≡ text)
told_part old new before now text h rose rises = (text, refl, h, rose, rises)

pub told_nothing : (held : Option (List ℕ)) (faults : ℕ) → IsReported status.Done held held faults faults (λ t. t ≡ [])
told_nothing held faults = ([], refl, appends_none held, refl)

-- What is put where memory runs out.
pub memory_told : (answer : Put) (old new : Option (List ℕ)) (before now : ℕ) → IsPut answer old new (status_line status.OutOfMemory) → IsPutCounted answer before now → IsMemoryReported old new before now
memory_told put.Done old new before now h same = inl (h, same)
memory_told put.Failed old new before now h rose = inr (inl (h, rose.0, rose.1))
memory_told put.OutOfMemory old new before now h same = inr (inr (h, same))

kept_appends : (old mid new : Option (List ℕ)) (piece : List ℕ) → Keeps old mid → Appends mid new piece → Appends old new piece
kept_appends None mid new piece k a = tt
kept_appends (Some xs) None new piece k a = absurd k
kept_appends (Some xs) (Some ys) None piece k a = absurd a
kept_appends (Some xs) (Some ys) (Some zs) piece k a = a ∙ ap (λ l. l ++ piece) k

-- It's so too behind a put that wanted memory.
pub memory_behind : (old mid new : Option (List ℕ)) (before between now : ℕ) → Keeps old mid → between ≡ before → IsMemoryReported mid new between now → IsMemoryReported old new before now
memory_behind old mid new before between now k same (inl (h, e)) = inl (kept_appends old mid new (status_line status.OutOfMemory) k h, e ∙ same)
memory_behind old mid new before between now k same (inr (inl ((front, rest, split, h), rose, le))) =
    inr (inl ((front, rest, split, kept_appends old mid new front k h), subst (λ n. Rose n now) same rose, omega (arith, same, le)))
memory_behind old mid new before between now k same (inr (inr (h, e))) = inr (inr (Keeps-trans old mid new k h, e ∙ same))

-- Its piece comes behind the one whose put wanted memory.
pub asked_behind : (old mid new : List (List ℕ)) (first last : List ℕ) → mid ≡ old ++ first ∷ [] → new ≡ mid ++ last ∷ [] → new ≡ old ++ first ∷ last ∷ []
asked_behind old mid new first last one two = two ∙ (ap (λ l. l ++ last ∷ []) one ∙ append_assoc old (first ∷ []) (last ∷ []))

-- Words that ask for no work have nothing to report.
nothing_to_report : (asked : Result (Option Work) Status) (outcome : Outcome) → ((why : Status) → asked ≡ Err why → (outcome ≡ Ended why) ⊎ (outcome ≡ out_of_memory)) →
    (asked ≡ Ok None → outcome ≡ out_of_memory) → ((work : Work) → asked ≡ Ok (Some work) → ⊥) → text_to_report outcome ≡ []
nothing_to_report (Err why) outcome other left none = elim (other why refl) [
  | inl is ↦ ap text_to_report is
  | inr is ↦ ap text_to_report is
]
nothing_to_report (Ok None) outcome other left none = ap text_to_report (left refl)
nothing_to_report (Ok (Some work)) outcome other left none = absurd (none work refl)

-- Of such words the report gets nothing but a line.
pub other_reported : (asked : Result (Option Work) Status) (outcome : Outcome) (answer : Status) (old new : Option (List ℕ)) (before now : ℕ) →
    ((why : Status) → asked ≡ Err why → (outcome ≡ Ended why) ⊎ (outcome ≡ out_of_memory)) → (asked ≡ Ok None → outcome ≡ out_of_memory) →
    ((work : Work) → asked ≡ Ok (Some work) → ⊥) →
    IsReported answer old new before now (λ text. text ≡ text_to_report outcome) → IsReported answer old new before now (λ text. text ≡ [])
other_reported asked outcome answer old new before now other left none h =
    subst (λ (t : List ℕ). IsReported answer old new before now (λ text. text ≡ t)) (nothing_to_report asked outcome other left none) h

-- Where memory runs out, nothing may be shown.
pub shown_nothing : (held : Option (List ℕ)) (may : List ℕ → Type 0) → IsShown status.OutOfMemory held held may
shown_nothing held may = inl (keeps held)

-- ---- refusals by the files

-- The status says why a file isn't read.
abbrev pub IsRefusal : Status → Type 0
IsRefusal status.Done = ⊥
IsRefusal (status.WriteFault which) = ⊥
IsRefusal (status.BadWords why) = ⊥
IsRefusal (status.Unwritable order field) = ⊥
IsRefusal _ = Unit {0}

answered_kind : {Value : Type 0} (asks : Asks Value) (told : Told) (name : List ℕ) (answer : Status) → IsAnswered asks told name (Err answer) → IsRefusal answer
answered_kind asks told name status.Done h = h
answered_kind asks told name (status.NoSuchFile other) h = tt
answered_kind asks told name (status.ReadFault other) h = tt
answered_kind asks told name (status.BadScript cause) h = tt
answered_kind asks told name (status.BadFont index fault) h = tt
answered_kind asks told name (status.WriteFault which) h = h
answered_kind asks told name (status.TooLarge what limit) h = tt
answered_kind asks told name status.OutOfMemory h = tt
answered_kind asks told name (status.BadWords why) h = h
answered_kind asks told name (status.Unwritable order field) h = h

pub read_kind : (told : List ℕ → Told) (script : ScriptSource) (fonts : List (List ℕ)) (answer : Status) → AreRead told script fonts (Err answer) → IsRefusal answer
read_kind told script fonts answer (inl (few, inl h)) = answered_kind (AsksScript script.own_fonts script.name) (told script.name) script.name answer h
read_kind told script fonts answer (inl (few, inr (read, first, inl (before, within, are, h)))) =
    let name = slice_index_or fonts (length before) [] in
    answered_kind (AsksFonts (length before) name) (told name) name answer (h [])
read_kind told script fonts answer (inl (few, inr (read, first, inr (files, are, many, e)))) = subst IsRefusal (sym e) tt
read_kind told script fonts answer (inr (many, e)) = let same : answer ≡ status.TooLarge Fonts 64 = cc in subst IsRefusal (sym same) tt

own_refusal : (sink : Which) (answer : Status) → IsRefusal answer → SuitsSink sink (Ended answer)
own_refusal sink status.Done h = absurd h
own_refusal Report (status.NoSuchFile other) h = tt
own_refusal Report (status.ReadFault other) h = tt
own_refusal Report (status.BadScript cause) h = tt
own_refusal Report (status.BadFont index fault) h = tt
own_refusal Report (status.TooLarge what limit) h = tt
own_refusal Report status.OutOfMemory h = tt
own_refusal Frames (status.NoSuchFile other) h = tt
own_refusal Frames (status.ReadFault other) h = tt
own_refusal Frames (status.BadScript cause) h = tt
own_refusal Frames (status.BadFont index fault) h = tt
own_refusal Frames (status.TooLarge what limit) h = tt
own_refusal Frames status.OutOfMemory h = tt
own_refusal sink (status.WriteFault which) h = absurd h
own_refusal sink (status.BadWords why) h = absurd h
own_refusal sink (status.Unwritable order field) h = absurd h

-- A refusal asks the frames sink for nothing.
pub nothing_put : (sink : Which) (answer : Status) (may : List ℕ → Type 0) (asked : List (List ℕ)) → IsRefusal answer → ArePiecesShown sink answer may asked asked
nothing_put sink status.Done may asked h = absurd h
nothing_put sink (status.NoSuchFile name) may asked h = refl
nothing_put sink (status.ReadFault name) may asked h = refl
nothing_put sink (status.BadScript cause) may asked h = refl
nothing_put sink (status.BadFont index fault) may asked h = refl
nothing_put sink (status.WriteFault which) may asked h = absurd h
nothing_put sink (status.TooLarge what limit) may asked h = refl
nothing_put Report status.OutOfMemory may asked h = refl
nothing_put Frames status.OutOfMemory may asked h = inl refl
nothing_put sink (status.BadWords why) may asked h = absurd h
nothing_put sink (status.Unwritable order field) may asked h = absurd h

stills_refusal : (answer : Status) → IsRefusal answer → SuitsStills (Ended answer)
stills_refusal status.Done h = absurd h
stills_refusal (status.NoSuchFile other) h = tt
stills_refusal (status.ReadFault other) h = tt
stills_refusal (status.BadScript cause) h = tt
stills_refusal (status.BadFont index fault) h = tt
stills_refusal (status.WriteFault which) h = absurd h
stills_refusal (status.TooLarge what limit) h = tt
stills_refusal status.OutOfMemory h = tt
stills_refusal (status.BadWords why) h = absurd h
stills_refusal (status.Unwritable order field) h = absurd h

-- ---- the same of each task

suits_refusal : (task : Task) (answer : Status) → IsRefusal answer → SuitsTask task (Ended answer)
suits_refusal Check answer h = own_refusal Report answer h
suits_refusal (Frame frame) answer h = own_refusal Frames answer h
suits_refusal (Changes changes) answer h = own_refusal Report answer h
suits_refusal (Stills stills) answer h = stills_refusal answer h
suits_refusal (Write write) answer h = own_refusal Frames answer h

module _ (answer refusal : Status) where
  none_kept : (task : Task) → AreKeptOf task (Err refusal) answer []
  none_kept Check = refl
  none_kept (Frame frame) = refl
  none_kept (Changes changes) = refl
  none_kept (Stills stills) = refl
  none_kept (Write write) = refl

  pieces_refused : (task : Task) (asked : List (List ℕ)) → IsRefusal answer → ArePiecesOf task (Err refusal) [] answer asked asked
  pieces_refused Check asked h = nothing_put Report answer (IsFramesAsked Check (Err refusal)) asked h
  pieces_refused (Frame frame) asked h = nothing_put Frames answer (IsFramesAsked (Frame frame) (Err refusal)) asked h
  pieces_refused (Changes changes) asked h = nothing_put Report answer (IsFramesAsked (Changes changes) (Err refusal)) asked h
  pieces_refused (Stills stills) asked h = refl
  pieces_refused (Write write) asked h = nothing_put Frames answer (IsFramesAsked (Write write) (Err refusal)) asked h

  shown_refused : (task : Task) (held : Option (List ℕ)) → IsShownOf task (Err refusal) [] answer held held
  shown_refused Check held = shown_none answer held (IsFramesAsked Check (Err refusal)) refl
  shown_refused (Frame frame) held = shown_none answer held (IsFramesAsked (Frame frame) (Err refusal)) refl
  shown_refused (Changes changes) held = shown_none answer held (IsFramesAsked (Changes changes) (Err refusal)) refl
  shown_refused (Stills stills) held = keeps held
  shown_refused (Write write) held = shown_none answer held (IsFramesAsked (Write write) (Err refusal)) refl

  -- A task whose inputs are refused puts nothing.
  refused_done : (task : Task) (state : SinkState) → IsRefusal answer → IsTaskDone task (Err refusal) (sink_change state state) (Ended answer)
  refused_done task state h = record {
    kept = [];
    are_kept = none_kept task;
    shown = shown_refused task state.held;
    pieces = pieces_refused task state.asked h;
    text = λ done. refl;
  }

-- A task for one sink answers so of that one, and one for both of either.
pub answer_or : (task : Task) (wanted answer : Status) → IsOrMemory wanted answer → IsAnswerOf task wanted answer
answer_or Check wanted answer h = inl h
answer_or (Frame frame) wanted answer h = inl h
answer_or (Changes changes) wanted answer h = inl h
answer_or (Stills stills) wanted answer h = inl (inl h)
answer_or (Write write) wanted answer h = inl h

sink_for : (task : Task) (wanted answer : Status) → IsAnswerOf task wanted answer → (sink : Which) × IsOrFault sink wanted answer
sink_for Check wanted answer h = (Report, h)
sink_for (Frame frame) wanted answer h = (Frames, h)
sink_for (Changes changes) wanted answer h = (Report, h)
sink_for (Stills stills) wanted answer (inl h) = (Frames, h)
sink_for (Stills stills) wanted answer (inr h) = (Report, h)
sink_for (Write write) wanted answer h = (Frames, h)

-- A job whose files are refused.
pub refused_worked : (told : List ℕ → Told) (log : FetchChange) (work : Work) (answer : Status) (state : SinkState) →
    AreRead told work.script work.fonts (Err answer) → AreFetched work.script work.fonts log (Err answer) → IsWorked told log work (sink_change state state) (Ended answer)
refused_worked told log work answer state read fetched = record {
  reading = Err answer;
  read = read;
  fetched = fetched;
  answered = answer_or work.task answer answer (inl refl);
  done = refused_done answer answer work.task state (read_kind told work.script work.fonts answer read);
  own = suits_refusal work.task answer (read_kind told work.script work.fonts answer read);
}

-- A job for which memory ran out before its files were read.
pub memory_worked : (told : List ℕ → Told) (log : List LoggedFetch) (work : Work) (state : SinkState) → IsWorked told (fetch_change log log) work (sink_change state state) out_of_memory
memory_worked told log work state = elim (cases_lt 64 (length work.fonts)) [
  | inl many ↦ record {
    reading = Err (status.TooLarge Fonts 64);
    read = inr (many, refl);
    fetched = inr (many, refl, refl);
    answered = answer_or work.task (status.TooLarge Fonts 64) status.OutOfMemory (inr refl);
    done = refused_done status.OutOfMemory (status.TooLarge Fonts 64) work.task state tt;
    own = suits_refusal work.task status.OutOfMemory tt;
  }
  | inr few ↦ record {
    reading = Err status.OutOfMemory;
    read = inl (few, inl tt);
    fetched = inl (few, nothing_fetched work.script work.fonts log);
    answered = answer_or work.task status.OutOfMemory status.OutOfMemory (inl refl);
    done = refused_done status.OutOfMemory status.OutOfMemory work.task state tt;
    own = suits_refusal work.task status.OutOfMemory tt;
  }
]

-- ---- from an outcome to the run

pub answered_after : (sink : Which) (wanted : Status) (outcome : Outcome) (answer : Status) → SuitsSink sink outcome →
    IsOrFault sink wanted (status_if_put outcome) → IsEnded outcome answer → IsOrFault sink wanted answer
answered_after sink wanted (Ended before) answer own asked h = elim (ended before answer h) [
  | inl same ↦ subst (IsOrFault sink wanted) (sym same) asked
  | inr memory ↦ inl (inr memory)
]
answered_after Frames wanted (Found text) answer own asked ended = absurd own
answered_after Report wanted (Found text) answer own asked (inl (inl done)) = subst (IsOrFault Report wanted) (sym done) asked
answered_after Report wanted (Found text) answer own asked (inl (inr memory)) = inl (inr memory)
answered_after Report wanted (Found text) answer own (inl (inl done)) (inr fault) = inr (sym done, fault)
answered_after Report wanted (Found text) answer own (inl (inr memory)) (inr fault) = absurd cc
answered_after Report wanted (Found text) answer own (inr (done, other)) (inr fault) = absurd cc

pub shown_after : (sink : Which) (may : List ℕ → Type 0) (outcome : Outcome) (answer : Status) (old new : Option (List ℕ)) → (sink ≡ Report → (bytes : List ℕ) → may bytes → bytes ≡ []) →
    SuitsSink sink outcome → IsEnded outcome answer → IsShown (status_if_put outcome) old new may → IsShown answer old new may
shown_after sink may (Ended before) answer old new none own e h = elim (ended before answer e) [
  | inl same ↦ subst (λ s. IsShown s old new may) (sym same) h
  | inr memory ↦ subst (λ s. IsShown s old new may) (sym memory) (shown_front before old new may h)
]
shown_after Frames may (Found text) answer old new none own ended h = absurd own
shown_after Report may (Found text) answer old new none own (inl (inl done)) h = subst (λ s. IsShown s old new may) (sym done) h
shown_after Report may (Found text) answer old new none own (inl (inr memory)) h = subst (λ s. IsShown s old new may) (sym memory) (shown_front status.Done old new may h)
shown_after Report may (Found text) answer old new none own (inr fault) h =
    let kept = keeps_appended old new (subst (Appends old new) (none refl h.0 h.1) h.2) in
    subst (λ s. IsShown s old new may) (sym fault) kept

-- ---- the same of each task

frames_alone : {A : Type 0} → Frames ≡ Report → A
frames_alone is = absurd cc

answer_of : (task : Task) (wanted : Status) (outcome : Outcome) (answer : Status) → SuitsTask task outcome → IsAnswerOf task wanted (status_if_put outcome) → IsEnded outcome answer → IsAnswerOf task wanted answer
answer_of Check wanted outcome answer own asked e = answered_after Report wanted outcome answer own asked e
answer_of (Frame frame) wanted outcome answer own asked e = answered_after Frames wanted outcome answer own asked e
answer_of (Changes changes) wanted outcome answer own asked e = answered_after Report wanted outcome answer own asked e
answer_of (Stills stills) wanted outcome answer own asked e = either_after wanted outcome answer asked e
answer_of (Write write) wanted outcome answer own asked e = answered_after Frames wanted outcome answer own asked e

module _ (kept : List Still) (outcome : Outcome) (answer : Status) (e : IsEnded outcome answer) where
  kept_of : (task : Task) (reading : Result Inputs Status) → AreKeptOf task reading (status_if_put outcome) kept → AreKeptOf task reading answer kept
  kept_of Check reading h = h
  kept_of (Frame frame) reading h = h
  kept_of (Changes changes) reading h = h
  kept_of (Stills stills) (Ok inputs) h = kept_after (kept_view stills inputs) kept outcome answer e h
  kept_of (Stills stills) (Err refusal) h = h
  kept_of (Write write) reading h = h

  shown_of : (task : Task) (reading : Result Inputs Status) (old new : Option (List ℕ)) → SuitsTask task outcome → IsShownOf task reading kept (status_if_put outcome) old new → IsShownOf task reading kept answer old new
  shown_of Check (Ok inputs) old new own h = shown_after Report (IsFramesAsked Check (Ok inputs)) outcome answer old new (λ is bytes none. none) own e h
  shown_of Check (Err refusal) old new own h = shown_after Report (IsFramesAsked Check (Err refusal)) outcome answer old new (λ is bytes none. none) own e h
  shown_of (Frame frame) reading old new own h = shown_after Frames (IsFramesAsked (Frame frame) reading) outcome answer old new (λ is bytes may. frames_alone is) own e h
  shown_of (Changes changes) (Ok inputs) old new own h = shown_after Report (IsFramesAsked (Changes changes) (Ok inputs)) outcome answer old new (λ is bytes none. none) own e h
  shown_of (Changes changes) (Err refusal) old new own h = shown_after Report (IsFramesAsked (Changes changes) (Err refusal)) outcome answer old new (λ is bytes none. none) own e h
  shown_of (Stills stills) (Ok inputs) old new own h = held_after (kept_view stills inputs) kept outcome answer e old new h
  shown_of (Stills stills) (Err refusal) old new own h = h
  shown_of (Write write) reading old new own h = shown_after Frames (IsFramesAsked (Write write) reading) outcome answer old new (λ is bytes may. frames_alone is) own e h

  pieces_of : (task : Task) (reading : Result Inputs Status) (old new : List (List ℕ)) → SuitsTask task outcome → ArePiecesOf task reading kept (status_if_put outcome) old new → ArePiecesOf task reading kept answer old new
  pieces_of Check reading old new own h = pieces_after (IsFramesAsked Check reading) old new Report outcome answer own e h
  pieces_of (Frame frame) reading old new own h = pieces_after (IsFramesAsked (Frame frame) reading) old new Frames outcome answer own e h
  pieces_of (Changes changes) reading old new own h = pieces_after (IsFramesAsked (Changes changes) reading) old new Report outcome answer own e h
  pieces_of (Stills stills) (Ok inputs) old new own h = h
  pieces_of (Stills stills) (Err refusal) old new own h = h
  pieces_of (Write write) reading old new own h = pieces_after (IsFramesAsked (Write write) reading) old new Frames outcome answer own e h

told_of : (task : Task) (may : List ℕ → Type 0) (old new : List (List ℕ)) (outcome : Outcome) (answer : Status) → (status_if_put outcome ≡ status.Done → may (text_to_report outcome)) → SuitsTask task outcome →
    IsEnded outcome answer → ArePiecesFinished outcome answer old new → ArePiecesTold (sink_of task) answer may old new
told_of Check may old new outcome answer said own e h = told_after may old new Report outcome answer said own e h
told_of (Frame frame) may old new outcome answer said own e h = told_after may old new Frames outcome answer said own e h
told_of (Changes changes) may old new outcome answer said own e h = told_after may old new Report outcome answer said own e h
told_of (Stills stills) may old new (Ended why) answer said own e h = ended_told may old new Report why answer (stills_tellable why own) e h
told_of (Stills stills) may old new (Found text) answer said own e h = told_after may old new Report (Found text) answer said tt e h
told_of (Write write) may old new outcome answer said own e h = told_after may old new Frames outcome answer said own e h

-- What was reported counts where all is done or the report failed; it may be reported then.
pub reported_as : (answer : Status) (old new : Option (List ℕ)) (before now : ℕ) (text : List ℕ) (may : List ℕ → Type 0) →
    (answer ≡ status.Done → may text) → (answer ≡ status.WriteFault Report → may text) →
    IsReported answer old new before now (λ t. t ≡ text) → IsReported answer old new before now may
reported_as status.Done old new before now text may d f h = (text, d refl, subst (λ t. Appends old new t) h.1 h.2, h.3)
reported_as (status.NoSuchFile name) old new before now text may d f h = h
reported_as (status.ReadFault name) old new before now text may d f h = h
reported_as (status.BadScript cause) old new before now text may d f h = h
reported_as (status.BadFont index fault) old new before now text may d f h = h
reported_as (status.WriteFault Frames) old new before now text may d f h = h
reported_as (status.WriteFault Report) old new before now text may d f h = (text, f refl, subst (λ t. AppendsFront old new t) h.1 h.2, h.3, h.4)
reported_as (status.TooLarge what limit) old new before now text may d f h = h
reported_as status.OutOfMemory old new before now text may d f h = h
reported_as (status.BadWords why) old new before now text may d f h = h
reported_as (status.Unwritable order field) old new before now text may d f h = h

pub done_before : (outcome : Outcome) (answer : Status) → IsEnded outcome answer → answer ≡ status.Done → status_if_put outcome ≡ status.Done
done_before (Ended before) answer e done = elim (ended before answer e) [
  | inl same ↦ sym same ∙ done
  | inr memory ↦ absurd cc
]
done_before (Found text) answer e done = refl

pub found_before : (sink : Which) (outcome : Outcome) (answer : Status) → SuitsSink sink outcome → IsEnded outcome answer → answer ≡ status.WriteFault Report → status_if_put outcome ≡ status.Done
found_before sink (Ended before) answer own e fault = elim (ended before answer e) [
  | inl same ↦ let equal : before ≡ status.WriteFault Report = cc in absurd (subst (λ s. SuitsSink sink (Ended s)) equal own)
  | inr memory ↦ absurd cc
]
found_before sink (Found text) answer own e fault = refl

found_stills : (outcome : Outcome) (answer : Status) → SuitsStills outcome → IsEnded outcome answer → answer ≡ status.WriteFault Report → status_if_put outcome ≡ status.Done
found_stills (Ended before) answer own e fault = elim (ended before answer e) [
  | inl same ↦ let equal : before ≡ status.WriteFault Report = cc in absurd (subst (λ s. SuitsStills (Ended s)) equal own)
  | inr memory ↦ absurd cc
]
found_stills (Found text) answer own e fault = refl

found_of : (task : Task) (outcome : Outcome) (answer : Status) → SuitsTask task outcome → IsEnded outcome answer → answer ≡ status.WriteFault Report → status_if_put outcome ≡ status.Done
found_of Check outcome answer own e fault = found_before Report outcome answer own e fault
found_of (Frame frame) outcome answer own e fault = found_before Frames outcome answer own e fault
found_of (Changes changes) outcome answer own e fault = found_before Report outcome answer own e fault
found_of (Stills stills) outcome answer own e fault = found_stills outcome answer own e fault
found_of (Write write) outcome answer own e fault = found_before Frames outcome answer own e fault

-- A job and what is reported of it are a run.
pub run_after : (told : List ℕ → Told) (log : FetchChange) (work : Work) (frames report : SinkChange) (outcome : Outcome) (answer : Status) →
    IsWorked told log work frames outcome → IsEnded outcome answer →
    IsReported answer report.before.held report.now.held report.before.faults report.now.faults (λ text. text ≡ text_to_report outcome) →
    ArePiecesFinished outcome answer report.before.asked report.now.asked → IsJobRun told log work frames report answer
run_after told log work frames report outcome answer worked ended reported finished = record {
  reading = worked.reading;
  read = worked.read;
  fetched = worked.fetched;
  answered = answer_of work.task _ outcome answer worked.own worked.answered ended;
  kept = worked.done.kept;
  are_kept = kept_of worked.done.kept outcome answer ended work.task worked.reading worked.done.are_kept;
  shown = shown_of worked.done.kept outcome answer ended work.task worked.reading _ _ worked.own worked.done.shown;
  pieces_shown = pieces_of worked.done.kept outcome answer ended work.task worked.reading frames.before.asked frames.now.asked worked.own worked.done.pieces;
  reported = reported_as answer _ _ _ _ (text_to_report outcome) (IsReportAsked work.task worked.reading worked.done.kept)
      (λ done. worked.done.text (done_before outcome answer ended done))
      (λ fault. worked.done.text (found_of work.task outcome answer worked.own ended fault)) reported;
  pieces_told = told_of work.task (IsReportAsked work.task worked.reading worked.done.kept) report.before.asked report.now.asked outcome answer worked.done.text worked.own ended finished;
}

suits_reportable : (sink : Which) (outcome : Outcome) → SuitsSink sink outcome → IsReportable outcome
suits_reportable sink (Found text) h = tt
suits_reportable sink (Ended status.Done) h = tt
suits_reportable sink (Ended (status.NoSuchFile name)) h = tt
suits_reportable sink (Ended (status.ReadFault name)) h = tt
suits_reportable sink (Ended (status.BadScript cause)) h = tt
suits_reportable sink (Ended (status.BadFont index fault)) h = tt
suits_reportable sink (Ended (status.WriteFault Frames)) h = tt
suits_reportable Report (Ended (status.WriteFault Report)) h = h
suits_reportable Frames (Ended (status.WriteFault Report)) h = h
suits_reportable sink (Ended (status.TooLarge what limit)) h = tt
suits_reportable sink (Ended status.OutOfMemory) h = tt
suits_reportable sink (Ended (status.BadWords why)) h = tt
suits_reportable sink (Ended (status.Unwritable order field)) h = tt

stills_reportable : (outcome : Outcome) → SuitsStills outcome → IsReportable outcome
stills_reportable (Found text) h = tt
stills_reportable (Ended status.Done) h = tt
stills_reportable (Ended (status.NoSuchFile name)) h = tt
stills_reportable (Ended (status.ReadFault name)) h = tt
stills_reportable (Ended (status.BadScript cause)) h = tt
stills_reportable (Ended (status.BadFont index fault)) h = tt
stills_reportable (Ended (status.WriteFault Frames)) h = tt
stills_reportable (Ended (status.WriteFault Report)) h = h
stills_reportable (Ended (status.TooLarge what limit)) h = tt
stills_reportable (Ended status.OutOfMemory) h = tt
stills_reportable (Ended (status.BadWords why)) h = tt
stills_reportable (Ended (status.Unwritable order field)) h = tt

-- No task has failed at the report before its end.
pub reportable_of : (task : Task) (outcome : Outcome) → SuitsTask task outcome → IsReportable outcome
reportable_of Check outcome h = suits_reportable Report outcome h
reportable_of (Frame frame) outcome h = suits_reportable Frames outcome h
reportable_of (Changes changes) outcome h = suits_reportable Report outcome h
reportable_of (Stills stills) outcome h = stills_reportable outcome h
reportable_of (Write write) outcome h = suits_reportable Frames outcome h

-- ---- the counts

read_rises : (answer : Status) (before now : ℕ) → IsStatusReadCounted answer before now → before ≤ now
read_rises status.Done before now h = omega (arith, h)
read_rises (status.NoSuchFile name) before now h = omega (arith, h)
read_rises (status.ReadFault name) before now h = h.1
read_rises (status.BadScript cause) before now h = omega (arith, h)
read_rises (status.BadFont index fault) before now h = omega (arith, h)
read_rises (status.WriteFault which) before now h = omega (arith, h)
read_rises (status.TooLarge what limit) before now h = omega (arith, h)
read_rises status.OutOfMemory before now h = h
read_rises (status.BadWords why) before now h = omega (arith, h)
read_rises (status.Unwritable order field) before now h = omega (arith, h)

pub read_after : (outcome : Outcome) (answer : Status) (before now : ℕ) → IsEnded outcome answer → IsStatusReadCounted (status_if_put outcome) before now → IsStatusReadCounted answer before now
read_after (Ended s) answer before now e h = elim (ended s answer e) [
  | inl same ↦ subst (λ s. IsStatusReadCounted s before now) (sym same) h
  | inr memory ↦ subst (λ s. IsStatusReadCounted s before now) (sym memory) (read_rises s before now h)
]
read_after (Found text) answer before now (inl (inl done)) h = subst (λ s. IsStatusReadCounted s before now) (sym done) h
read_after (Found text) answer before now (inl (inr memory)) h = subst (λ s. IsStatusReadCounted s before now) (sym memory) (omega (arith, h))
read_after (Found text) answer before now (inr fault) h = subst (λ s. IsStatusReadCounted s before now) (sym fault) h

written_read : (text : Result (List ℕ) WriteRefusal) (before now : ℕ) → now ≡ before → IsStatusReadCounted (written_status text) before now
written_read (Ok text) before now same = same
written_read (Err (Unwritable order field)) before now same = same
written_read (Err OutOfMemory) before now same = omega (arith, same)

own_read : (task : Task) (inputs : Inputs) (before now : ℕ) → now ≡ before → IsStatusReadCounted (task_status task inputs) before now
own_read Check inputs before now same = same
own_read (Frame frame) inputs before now same = same
own_read (Changes changes) inputs before now same = same
own_read (Stills stills) inputs before now same = same
own_read (Write write) inputs before now same = written_read (rewritten write inputs.script) before now same

read_by : (sink : Which) (task : Task) (inputs : Inputs) (answer : Status) (before now : ℕ) → now ≡ before → IsOrFault sink (task_status task inputs) answer → IsStatusReadCounted answer before now
read_by sink task inputs answer before now same (inl (inl wanted)) = subst (λ s. IsStatusReadCounted s before now) (sym wanted) (own_read task inputs before now same)
read_by sink task inputs answer before now same (inl (inr memory)) = subst (λ s. IsStatusReadCounted s before now) (sym memory) (omega (arith, same))
read_by sink task inputs answer before now same (inr (done, fault)) = subst (λ s. IsStatusReadCounted s before now) (sym fault) same

-- No task fails at a file.
pub read_same : (task : Task) (inputs : Inputs) (answer : Status) (before now : ℕ) → now ≡ before → IsAnswerOf task (task_status task inputs) answer → IsStatusReadCounted answer before now
read_same task inputs answer before now same h =
    let one = sink_for task (task_status task inputs) answer h in
    read_by one.0 task inputs answer before now same one.1

written_rises : (answer : Status) (before now : ℕ) → IsWriteCounted answer before now → before ≤ now
written_rises status.Done before now h = omega (arith, h)
written_rises (status.NoSuchFile name) before now h = omega (arith, h)
written_rises (status.ReadFault name) before now h = omega (arith, h)
written_rises (status.BadScript cause) before now h = omega (arith, h)
written_rises (status.BadFont index fault) before now h = omega (arith, h)
written_rises (status.WriteFault Frames) before now h = h.1
written_rises (status.WriteFault Report) before now h = omega (arith, h)
written_rises (status.TooLarge what limit) before now h = omega (arith, h)
written_rises status.OutOfMemory before now h = h
written_rises (status.BadWords why) before now h = omega (arith, h)
written_rises (status.Unwritable order field) before now h = omega (arith, h)

pub written_after : (outcome : Outcome) (answer : Status) (before now : ℕ) → IsEnded outcome answer → IsWriteCounted (status_if_put outcome) before now → IsWriteCounted answer before now
written_after (Ended s) answer before now e h = elim (ended s answer e) [
  | inl same ↦ subst (λ s. IsWriteCounted s before now) (sym same) h
  | inr memory ↦ subst (λ s. IsWriteCounted s before now) (sym memory) (written_rises s before now h)
]
written_after (Found text) answer before now (inl (inl done)) h = subst (λ s. IsWriteCounted s before now) (sym done) h
written_after (Found text) answer before now (inl (inr memory)) h = subst (λ s. IsWriteCounted s before now) (sym memory) (omega (arith, h))
written_after (Found text) answer before now (inr fault) h = subst (λ s. IsWriteCounted s before now) (sym fault) h

-- ---- refusals leave the frames sink

written_of : (answer : Status) (n : ℕ) → IsRefusal answer → IsWriteCounted answer n n
written_of status.Done n h = absurd h
written_of (status.NoSuchFile name) n h = refl
written_of (status.ReadFault name) n h = refl
written_of (status.BadScript cause) n h = refl
written_of (status.BadFont index fault) n h = refl
written_of (status.WriteFault which) n h = absurd h
written_of (status.TooLarge what limit) n h = refl
written_of status.OutOfMemory n h = omega arith
written_of (status.BadWords why) n h = absurd h
written_of (status.Unwritable order field) n h = absurd h

pub refused_written : (told : List ℕ → Told) (work : Work) (answer : Status) (n : ℕ) → AreRead told work.script work.fonts (Err answer) → IsWriteCounted answer n n
refused_written told work answer n read = written_of answer n (read_kind told work.script work.fonts answer read)

-- ---- what the files decide

abbrev pub IsFault : Result Inputs Status → Type 0
IsFault reading = ((name : List ℕ) × (reading ≡ Err (status.ReadFault name))) ⊎ (reading ≡ Err status.OutOfMemory)

pub fault_or_decided : (reading : Result Inputs Status) → IsReadDecided reading ⊎ IsFault reading
fault_or_decided (Ok inputs) = inl tt
fault_or_decided (Err status.Done) = inl tt
fault_or_decided (Err (status.NoSuchFile name)) = inl tt
fault_or_decided (Err (status.ReadFault name)) = inr (inl (name, refl))
fault_or_decided (Err (status.BadScript cause)) = inl tt
fault_or_decided (Err (status.BadFont index fault)) = inl tt
fault_or_decided (Err (status.WriteFault which)) = inl tt
fault_or_decided (Err (status.TooLarge what limit)) = inl tt
fault_or_decided (Err status.OutOfMemory) = inr (inr refl)
fault_or_decided (Err (status.BadWords why)) = inl tt
fault_or_decided (Err (status.Unwritable order field)) = inl tt

-- A task's sink fails only where its count rises.
sink_rose : (sink : Which) (answer : Status) (frames report : SinkChange) (may : List ℕ → Type 0) → answer ≡ status.WriteFault sink →
    IsWriteCounted answer frames.before.faults frames.now.faults →
    IsReported answer report.before.held report.now.held report.before.faults report.now.faults may →
    Rose frames.before.faults frames.now.faults ⊎ Rose report.before.faults report.now.faults
sink_rose Report answer frames report may fault written reported = inr (subst (λ s. IsReported s report.before.held report.now.held report.before.faults report.now.faults may) fault reported).3
sink_rose Frames answer frames report may fault written reported = inl (subst (λ s. IsWriteCounted s frames.before.faults frames.now.faults) fault written).0

unfailed : (sink : Which) (wanted answer : Status) → (answer ≡ status.WriteFault sink → ⊥) → IsOrFault sink wanted answer → IsOrMemory wanted answer
unfailed sink wanted answer fails (inl h) = h
unfailed sink wanted answer fails (inr (done, fault)) = absurd (fails fault)

unread : (sink : Which) (name : List ℕ) (answer : Status) (before now : ℕ) → (Rose before now → ⊥) → IsStatusReadCounted answer before now →
    IsOrFault sink (status.ReadFault name) answer → answer ≡ status.OutOfMemory
unread sink name answer before now stays counted (inl (inl same)) = absurd (stays (subst (λ s. IsStatusReadCounted s before now) same counted).0)
unread sink name answer before now stays counted (inl (inr memory)) = memory
unread sink name answer before now stays counted (inr (done, fault)) = absurd cc

wanting : (sink : Which) (answer : Status) → IsOrFault sink status.OutOfMemory answer → answer ≡ status.OutOfMemory
wanting sink answer (inl (inl memory)) = memory
wanting sink answer (inl (inr memory)) = memory
wanting sink answer (inr (done, fault)) = absurd cc

-- Files that are told decide a run without a fault.
pub decides : FilesDecide → (told : List ℕ → Told) (log : FetchChange) (work : Work) (frames report : SinkChange) (before now : ℕ) (answer : Status) →
    IsJobRun told log work frames report answer → IsStatusReadCounted answer before now → IsWriteCounted answer frames.before.faults frames.now.faults →
    (Rose before now → ⊥) → (Rose frames.before.faults frames.now.faults → ⊥) → (Rose report.before.faults report.now.faults → ⊥) → Decides told work answer
decides law told log work frames report before now answer run counted written stays shows reports = λ reading known read decided.
    let one = sink_for work.task (status_asked work.task run.reading) answer run.answered in
    elim (fault_or_decided run.reading) [
      | inl found ↦
          let same = law told work.script work.fonts run.reading reading known found decided run.read read in
          let fails : answer ≡ status.WriteFault one.0 → ⊥ = λ fault. elim (sink_rose one.0 answer frames report _ fault written run.reported) [ inl rose ↦ shows rose | inr rose ↦ reports rose ] in
          unfailed one.0 (status_asked work.task reading) answer fails (subst (λ r. IsOrFault one.0 (status_asked work.task r) answer) same one.1)
      | inr (inl (name, fault)) ↦ inr (unread one.0 name answer before now stays counted (subst (λ r. IsOrFault one.0 (status_asked work.task r) answer) fault one.1))
      | inr (inr memory) ↦ inr (wanting one.0 answer (subst (λ r. IsOrFault one.0 (status_asked work.task r) answer) memory one.1))
    ]
