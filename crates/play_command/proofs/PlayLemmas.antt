-- From the end of a play to what is to be reported of it.
use Rattle.std.proofs.Common.{◌≡◌, inl, inr, ℕ, Bool, true, false, cond, List, [], ◌∷◌, ◌++◌, Option, Some, None, Ok, Err, refl, sym, ap, ◌∙◌, append_assoc, subst, arith}
use Rattle.std.specs.Prelude.{IfSome}
use Rattle.std.specs.Io.KnownBytes.{Appends}
use Rattle.std.proofs.KnownBytes.{Appends-trans}
use Rattle.ass_io.specs.Fetched.{Told}
use Rattle.ass_io.specs.Fetches.{FetchChange}
use Rattle.ass_io.specs.Sinks.{SinkState}
use Rattle.single_run.proofs.Runs.{IsRefusal, keeps, read_kind}
use Rattle.single_run.specs.Outcomes.{IsReportable, IsStatusReadCounted, IsWriteCounted, status_if_put}
use Rattle.single_run.specs.Runs.{sink_change}
use Rattle.single_run.specs.declared.outcome.Outcome.{Outcome}
use Rattle.single_run.specs.declared.outcome.Outcome.TheVariants.{Ended, Found}
use Rattle.run_status.specs.Files.{IsAnswerReadCounted}
use Rattle.run_status.specs.declared.inputs.Inputs.{Inputs}
use Rattle.play_model.specs.Plays.{IsPlayable, PlayView}
use Rattle.play_model.specs.Heads.{play_head}
use Rattle.play_report.specs.Reports.{report_text}
use Rattle.play_rounds.specs.Outputs.{AreWritten, IsPlayed}
use Rattle.play_rounds.specs.declared.ends.PlayEnd.{PlayEnd}
use Rattle.play_rounds.specs.declared.ends.PlayEnd.TheVariants as play_end
use Rattle.play_shares.specs.Limits.{max_frames}
use Rattle.run_words.specs.declared.job.PlayJob.{PlayJob}
use Rattle.run_status.specs.declared.status.Status.{Status}
use Rattle.run_status.specs.declared.status.Status.TheVariants as status
use Rattle.run_status.specs.declared.status.What.TheVariants.{Frames as images}
use Rattle.play_command.specs.PlayRuns.{AreReadUnless, IsPlayFetched, IsPlayRead, has_too_many, play_head_bytes, play_refusal, view_of}
use Rattle.play_command.specs.Working.{IsHeadCut, IsHeadedPlay, IsPlayShown, IsPlayWorked, IsPlayedBehind, IsSpoken, IsToldOf}
use Rattle.run_words.specs.declared.job.ScriptSource.{ScriptSource}

-- ---- what is shown

asked_behind : (old behind new xs ys : List (List ℕ)) → behind ≡ old ++ xs → new ≡ behind ++ ys → new ≡ old ++ (xs ++ ys)
asked_behind old behind new xs ys first second = second ∙ ap (λ z. z ++ ys) first ∙ append_assoc old xs ys

module _ (play : PlayView) (old new : SinkState) where
  abbrev IsShownBy : Outcome → Type 0
  IsShownBy outcome = IsPlayShown play (sink_change old new) outcome

  -- behind the head
  behind_held : (behind : SinkState) (bytes : List ℕ) → AreWritten (play_head play) old behind → Appends behind.held new.held bytes → Appends old.held new.held (play_head_bytes play ++ bytes)
  behind_held behind bytes head held = Appends-trans old.held behind.held new.held (play_head_bytes play) bytes head.held held

  shown_behind : (end : PlayEnd) (outcome : Outcome) → IsPlayedBehind play end old new → IsToldOf end outcome → IsShownBy outcome
  shown_behind (play_end.Done report) (Found text) h told = (
    play_head_bytes play ++ h.played.bytes,
    record { shown = h.played.bytes; output = record { report = report; whole = h.played.whole; value = told }; value = refl },
    behind_held h.behind h.played.bytes h.head h.played.held,
    asked_behind old.asked h.behind.asked new.asked (play_head play) h.played.whole.shown.images h.head.asked h.played.asked,
  )
  shown_behind (play_end.Done report) (Ended why) h told =
      subst IsShownBy (sym told) (
        play_head_bytes play ++ h.played.bytes,
        inr (report_text report, record { shown = h.played.bytes; output = record { report = report; whole = h.played.whole; value = refl }; value = refl }),
        behind_held h.behind h.played.bytes h.head h.played.held,
        asked_behind old.asked h.behind.asked new.asked (play_head play) h.played.whole.shown.images h.head.asked h.played.asked,
      )
  shown_behind play_end.WriteFault outcome h told =
      subst IsShownBy (sym told) (
        play_head_bytes play ++ h.played.bytes,
        inr (record { shown = h.played.bytes; front = h.played.front; value = refl }),
        behind_held h.behind h.played.bytes h.head h.played.held,
        asked_behind old.asked h.behind.asked new.asked (play_head play) h.played.front.images h.head.asked h.played.asked,
      )
  shown_behind play_end.OutOfMemory outcome h told =
      subst IsShownBy (sym told) (
        play_head_bytes play ++ h.played.bytes,
        inl (inr (record { shown = h.played.bytes; front = h.played.front; value = refl })),
        behind_held h.behind h.played.bytes h.head h.played.held,
        asked_behind old.asked h.behind.asked new.asked (play_head play) h.played.front.images h.head.asked h.played.asked,
      )

  -- at the head
  shown_cut : (end : PlayEnd) (outcome : Outcome) → IsHeadCut play end old new → IsToldOf end outcome → IsShownBy outcome
  shown_cut (play_end.Done report) outcome cut told = absurd cut
  shown_cut play_end.WriteFault outcome (count, cut) told =
      let held = cut.held in
      subst IsShownBy (sym told) (held.0, inl (record { count = count; rest = held.1; value = held.2 }), held.3, cut.asked)
  shown_cut play_end.OutOfMemory outcome (count, cut) told =
      let held = cut.held in
      subst IsShownBy (sym told) (held.0, inl (inl (record { count = count; rest = held.1; value = held.2 })), held.3, cut.asked)

shown : (play : PlayView) (end : PlayEnd) (outcome : Outcome) (old new : SinkState) → IsHeadedPlay play end old new → IsToldOf end outcome → IsPlayShown play (sink_change old new) outcome
shown play end outcome old new (inl cut) told = shown_cut play old new end outcome cut told
shown play end outcome old new (inr behind) told = shown_behind play old new end outcome behind told

-- A play with what was read for it.
pub played : (told : List ℕ → Told) (log : FetchChange) (job : PlayJob) (script : ScriptSource) (fonts : List (List ℕ)) (inputs : Inputs) (end : PlayEnd) (outcome : Outcome) (old new : SinkState) →
    IsPlayRead told job script fonts (Ok inputs) → IsPlayFetched job script fonts log (Ok inputs) → IsPlayable (view_of job inputs) → IsHeadedPlay (view_of job inputs) end old new → IsToldOf end outcome →
    IsPlayWorked told log job script fonts (sink_change old new) outcome
played told log job script fonts inputs end outcome old new read fetched playable h tells = record {
  reading = Ok inputs;
  read = read;
  fetched = fetched;
  shown = (playable, shown (view_of job inputs) end outcome old new h tells);
}

-- A play whose files are refused.
pub refused : (told : List ℕ → Told) (log : FetchChange) (job : PlayJob) (script : ScriptSource) (fonts : List (List ℕ)) (why : Status) (state : SinkState) →
    IsPlayRead told job script fonts (Err why) → IsPlayFetched job script fonts log (Err why) → IsPlayWorked told log job script fonts (sink_change state state) (Ended why)
refused told log job script fonts why state read fetched = record { reading = Err why; read = read; fetched = fetched; shown = (inl refl, keeps state.held, refl) }

-- ---- counts

faults_played : (play : PlayView) (end : PlayEnd) (outcome : Outcome) (old new : SinkState) → IsPlayed play end old new → IsToldOf end outcome →
    IsWriteCounted (status_if_put outcome) old.faults new.faults
faults_played play (play_end.Done report) (Found text) old new h told = h.faults
faults_played play (play_end.Done report) (Ended why) old new h told =
    subst (λ (o : Outcome). IsWriteCounted (status_if_put o) old.faults new.faults) (sym told) (let same = h.faults in omega (arith, same))
faults_played play play_end.WriteFault outcome old new h told = subst (λ (o : Outcome). IsWriteCounted (status_if_put o) old.faults new.faults) (sym told) h.counted
faults_played play play_end.OutOfMemory outcome old new h told =
    subst (λ (o : Outcome). IsWriteCounted (status_if_put o) old.faults new.faults) (sym told) (let same = h.counted in omega (arith, same))

faults_cut : (play : PlayView) (end : PlayEnd) (outcome : Outcome) (old new : SinkState) → IsHeadCut play end old new → IsToldOf end outcome → IsWriteCounted (status_if_put outcome) old.faults new.faults
faults_cut play (play_end.Done report) outcome old new cut told = absurd cut
faults_cut play play_end.WriteFault outcome old new (count, cut) told = subst (λ (o : Outcome). IsWriteCounted (status_if_put o) old.faults new.faults) (sym told) cut.counted
faults_cut play play_end.OutOfMemory outcome old new (count, cut) told =
    subst (λ (o : Outcome). IsWriteCounted (status_if_put o) old.faults new.faults) (sym told) (let same = cut.counted in omega (arith, same))

pub faults_of : (play : PlayView) (end : PlayEnd) (outcome : Outcome) (old new : SinkState) → IsHeadedPlay play end old new → IsToldOf end outcome →
    IsWriteCounted (status_if_put outcome) old.faults new.faults
faults_of play end outcome old new (inl cut) told = faults_cut play end outcome old new cut told
faults_of play end outcome old new (inr h) told =
    subst (λ n. IsWriteCounted (status_if_put outcome) n new.faults) h.head.faults (faults_played play end outcome h.behind new h.played told)

-- No file was refused in a play, and the report didn't fail yet.
pub read_of : (end : PlayEnd) (outcome : Outcome) (before now : ℕ) → IsToldOf end outcome → now ≡ before → IsStatusReadCounted (status_if_put outcome) before now
read_of (play_end.Done report) (Found text) before now told same = same
read_of (play_end.Done report) (Ended why) before now told same = subst (λ (o : Outcome). IsStatusReadCounted (status_if_put o) before now) (sym told) (omega (arith, same))
read_of play_end.WriteFault outcome before now told same = subst (λ (o : Outcome). IsStatusReadCounted (status_if_put o) before now) (sym told) same
read_of play_end.OutOfMemory outcome before now told same = subst (λ (o : Outcome). IsStatusReadCounted (status_if_put o) before now) (sym told) (omega (arith, same))

pub told_kind : (end : PlayEnd) (outcome : Outcome) → IsToldOf end outcome → IsReportable outcome × IsSpoken outcome
told_kind (play_end.Done report) (Found text) told = (tt, tt)
told_kind (play_end.Done report) (Ended why) told = subst (λ (o : Outcome). IsReportable o × IsSpoken o) (sym told) (tt, tt)
told_kind play_end.WriteFault outcome told = subst (λ (o : Outcome). IsReportable o × IsSpoken o) (sym told) (tt, tt)
told_kind play_end.OutOfMemory outcome told = subst (λ (o : Outcome). IsReportable o × IsSpoken o) (sym told) (tt, tt)

-- ---- files that are refused

-- Nothing was done, and no sink failed.
abbrev pub IsFileWhy : Status → Type 0
IsFileWhy status.Done = ⊥
IsFileWhy (status.WriteFault which) = ⊥
IsFileWhy _ = Unit {0}

file_why : (why : Status) → IsRefusal why → IsFileWhy why
file_why status.Done h = absurd h
file_why (status.BadWords fault) h = tt
file_why (status.NoSuchFile name) h = tt
file_why (status.ReadFault name) h = tt
file_why (status.BadScript cause) h = tt
file_why (status.BadFont index fault) h = tt
file_why (status.WriteFault which) h = absurd h
file_why (status.TooLarge what limit) h = tt
file_why status.OutOfMemory h = tt
file_why (status.Unwritable order field) h = tt

many_or_read : (b : Bool) → IfSome (cond b (Some (status.TooLarge images max_frames)) None) IsFileWhy
many_or_read true = tt
many_or_read false = tt

refusal_why : (job : PlayJob) (fonts : List (List ℕ)) → IfSome (play_refusal job fonts) IsFileWhy
refusal_why job [] = tt
refusal_why job (font ∷ fonts) = many_or_read (has_too_many job (font ∷ fonts))

why_unless : (refusal : Option Status) (told : List ℕ → Told) (script : ScriptSource) (fonts : List (List ℕ)) (why : Status) → IfSome refusal IsFileWhy →
    AreReadUnless refusal told script fonts (Err why) → IsFileWhy why
why_unless (Some asked) told script fonts why is read = let same : why ≡ asked = cc in subst IsFileWhy (sym same) is
why_unless None told script fonts why is read = file_why why (read_kind told script fonts why read)

-- Why the files of a play are refused.
pub play_why : (told : List ℕ → Told) (job : PlayJob) (script : ScriptSource) (fonts : List (List ℕ)) (why : Status) → IsPlayRead told job script fonts (Err why) → IsFileWhy why
play_why told job script fonts why read = why_unless (play_refusal job fonts) told script fonts why (refusal_why job fonts) read

-- Then no sink was asked.
pub why_kind : (why : Status) (n : ℕ) → IsFileWhy why → IsWriteCounted why n n × IsReportable (Ended why) × IsSpoken (Ended why)
why_kind status.Done n h = absurd h
why_kind (status.BadWords fault) n h = (refl, tt, tt)
why_kind (status.NoSuchFile name) n h = (refl, tt, tt)
why_kind (status.ReadFault name) n h = (refl, tt, tt)
why_kind (status.BadScript cause) n h = (refl, tt, tt)
why_kind (status.BadFont index fault) n h = (refl, tt, tt)
why_kind (status.WriteFault which) n h = absurd h
why_kind (status.TooLarge what limit) n h = (refl, tt, tt)
why_kind status.OutOfMemory n h = (omega arith, tt, tt)
why_kind (status.Unwritable order field) n h = (refl, tt, tt)

pub why_read : (why : Status) (before now : ℕ) → IsAnswerReadCounted {Value = Inputs} (Err why) before now → IsStatusReadCounted why before now
why_read status.Done before now h = h
why_read (status.BadWords fault) before now h = h
why_read (status.NoSuchFile name) before now h = h
why_read (status.ReadFault name) before now h = h
why_read (status.BadScript cause) before now h = h
why_read (status.BadFont index fault) before now h = h
why_read (status.WriteFault which) before now h = h
why_read (status.TooLarge what limit) before now h = h
why_read status.OutOfMemory before now h = omega (arith, h)
why_read (status.Unwritable order field) before now h = h
