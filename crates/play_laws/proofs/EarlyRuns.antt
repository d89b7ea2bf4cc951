-- What a settled run has put before it ended is a prefix of what one puts that is done.
use Rattle.std.proofs.Common.{◌≡◌, ◌∙◌, ◌⊎◌, inl, inr, sym, ap, subst, ℕ, List, [], ◌++◌, take, drop, append-nil, append_assoc, Result, Ok, Err}
use Rattle.std.specs.Io.KnownBytes.{Appends}
use Rattle.std.specs.List.{flat_map}
use Rattle.std.proofs.lemmas.Grind.{flat_map-append}
use Rattle.std.proofs.lemmas.List.{take-append-drop}
use Rattle.ass_events.specs.Histories.{Entry}
use Rattle.ass_io.specs.Fetched.{Told}
use Rattle.ass_io.specs.Fetches.{FetchChange}
use Rattle.single_run.specs.Runs.{SinkChange}
use Rattle.run_status.specs.Laws.{AreTold, FilesDecide}
use Rattle.run_status.specs.declared.inputs.Inputs.{Inputs}
use Rattle.play_command.specs.PlayRuns.{IsEarlyOutput, IsHeadFront, IsPlayAsked, IsPlayPut, IsPlayRead, IsPlayRun, IsStreamFront, IsStreamOutput, play_head_bytes, play_refusal, view_of}
use Rattle.play_laws.proofs.AgreementLemmas.{Law, plays_agree, same_head}
use Rattle.play_laws.proofs.FrontLemmas.{front_of_times}
use Rattle.play_laws.proofs.RunLemmas.{DoneRun, done_run, same_inputs, unrefused}
use Rattle.play_laws.proofs.SettledFronts.{fronts_agree}
use Rattle.play_laws.specs.Agreement.{JobsAlike, PlayAlike}
use Rattle.play_model.specs.Heads.{play_head}
use Rattle.play_model.specs.Outputs.{IsFrontOfPlay, IsShownPlay}
use Rattle.play_model.specs.Plays.{IsPlayable, PlayView}
use Rattle.run_words.specs.declared.job.Mode.TheVariants.{Settled}
use Rattle.run_words.specs.declared.job.PlayJob.{PlayJob}
use Rattle.run_status.specs.declared.status.Status.{Status}
use Rattle.run_status.specs.declared.status.Status.TheVariants as status
use Rattle.run_status.specs.declared.status.Which.TheVariants.{Frames, Report}
use Rattle.play_rounds.proofs.Puts.{kept_nothing}
use Rattle.run_words.specs.declared.job.ScriptSource.{ScriptSource}

-- a prefix of what may be shown, or all of it
abbrev IsEarlyShown : PlayView → List ℕ → Type 0
IsEarlyShown play shown = IsFrontOfPlay play shown ⊎ ((times : List (List Entry)) × IsShownPlay play times shown)

-- a prefix of the head, or what may be shown behind it
abbrev IsEarly : PlayView → List ℕ → Type 0
IsEarly play front = IsHeadFront play front ⊎ ((shown : List ℕ) × IsEarlyShown play shown × (front ≡ play_head_bytes play ++ shown))

shown_whole : (play : PlayView) (bytes text : List ℕ) → IsStreamOutput play bytes text → IsEarly play bytes
shown_whole play bytes text stream = inr (stream.shown, inr (stream.output.whole.times, stream.output.whole.shown), stream.value)

front_early : (play : PlayView) (bytes : List ℕ) → IsStreamFront play bytes → IsEarly play bytes
front_early play bytes (inl head) = inl head
front_early play bytes (inr images) = inr (images.shown, inl images.front, images.value)

either_early : (play : PlayView) (bytes : List ℕ) → IsEarlyOutput play bytes → IsEarly play bytes
either_early play bytes (inl front) = front_early play bytes front
either_early play bytes (inr (text, stream)) = shown_whole play bytes text stream

-- what the frames sink got, whatever the status is
early_put : (play : PlayView) (frames report : SinkChange) (answer : Status) → IsPlayPut play frames report answer → (front : List ℕ) × IsEarly play front × Appends frames.before.held frames.now.held front
early_put play frames report status.Done put = (put.0, shown_whole play put.0 put.1 put.2, put.3)
early_put play frames report (status.WriteFault Frames) put = (put.0, front_early play put.0 put.1, put.2)
early_put play frames report (status.WriteFault Report) put = (put.0, shown_whole play put.0 put.1 put.2, put.3)
early_put play frames report status.OutOfMemory put = (put.0, either_early play put.0 put.1, put.2)
early_put play frames report (status.BadWords fault) put = absurd put
early_put play frames report (status.NoSuchFile name) put = absurd put
early_put play frames report (status.ReadFault name) put = absurd put
early_put play frames report (status.BadScript cause) put = absurd put
early_put play frames report (status.BadFont index fault) put = absurd put
early_put play frames report (status.TooLarge what limit) put = absurd put
early_put play frames report (status.Unwritable line field) put = absurd put

module _ (law : Law) (one other : PlayView) (playable : IsPlayable one) (fits : IsPlayable other) (alike : PlayAlike one other) (settled : one.job.mode ≡ Settled) (too : other.job.mode ≡ Settled) where
  shown_agrees : (front bytes : List ℕ) (times : List (List Entry)) → IsEarlyShown one front → IsShownPlay other times bytes → (rest : List ℕ) × (bytes ≡ front ++ rest)
  shown_agrees front bytes times (inl early) shown = fronts_agree law one other playable fits alike settled too front bytes (front_of_times one front early) times shown
  shown_agrees front bytes times (inr (own, whole)) shown =
      ([], sym (plays_agree law one other own times front bytes playable fits alike settled too whole shown) ∙ sym (append-nil front))

  -- a prefix of the head
  head_agrees : (front shown : List ℕ) → IsHeadFront one front → (rest : List ℕ) × (play_head_bytes other ++ shown ≡ front ++ rest)
  head_agrees front shown early =
      let pieces : List (List ℕ) = play_head one in
      let behind : List ℕ = flat_map (λ piece. piece) (drop early.count pieces) in
      let parted : play_head_bytes one ≡ (front ++ early.rest) ++ behind =
      ap (λ (z : List (List ℕ)). flat_map (λ piece. piece) z) (sym (take-append-drop early.count pieces))
      ∙ flat_map-append (λ piece. piece) (take early.count pieces) (drop early.count pieces)
      ∙ ap (λ z. z ++ behind) early.value in
      let flat : ((front ++ early.rest) ++ behind) ++ shown ≡ front ++ (early.rest ++ (behind ++ shown)) = simp append_assoc in
      (early.rest ++ (behind ++ shown), ap (λ z. z ++ shown) (sym (same_head one other alike) ∙ parted) ∙ flat)

  early_agrees : (front bytes shown : List ℕ) (times : List (List Entry)) → IsEarly one front → IsShownPlay other times shown → bytes ≡ play_head_bytes other ++ shown → (rest : List ℕ) × (bytes ≡ front ++ rest)
  early_agrees front bytes shown times (inl early) whole is = let found = head_agrees front shown early in (found.0, is ∙ found.1)
  early_agrees front bytes shown times (inr (own, early, own_is)) whole is =
      let found = shown_agrees own shown times early whole in (
        found.0,
        is ∙ ap (λ z. play_head_bytes other ++ z) found.1 ∙ sym (append_assoc (play_head_bytes other) own found.0)
            ∙ ap (λ z. z ++ found.0) (sym (own_is ∙ ap (λ z. z ++ own) (same_head one other alike))),
      )

module _ (told : List ℕ → Told) (script : ScriptSource) (fonts : List (List ℕ)) (law : Law) (decide : FilesDecide) (known : AreTold told script fonts) where
  module _ (one other : PlayJob) (frames report more said : SinkChange) (answer : Status) (alike : JobsAlike one other) (settled : one.mode ≡ Settled) (too : other.mode ≡ Settled)
      (y : DoneRun told script fonts other more said) where
    early_run : (reading : Result Inputs Status) → IsPlayRead told one script fonts reading → IsPlayAsked one reading frames report answer
        → (front rest : List ℕ) × Appends frames.before.held frames.now.held front × Appends more.before.held more.now.held (front ++ rest)
    early_run (Err why) read asked = ([], (y.put).0, kept_nothing frames.before.held frames.now.held asked.1, (y.put).3)
    early_run (Ok inputs) read asked =
        let same : inputs ≡ y.inputs = same_inputs told script fonts law decide known inputs y.inputs (unrefused told script fonts (play_refusal one fonts) inputs read) y.read in
        let both : PlayAlike (view_of one inputs) (view_of other y.inputs) =
        record { script = ap (λ (i : Inputs). i.script) same; fonts = ap (λ (i : Inputs). i.fonts) same; jobs = alike } in
        let early = early_put (view_of one inputs) frames report answer asked.1 in
        let found = early_agrees law (view_of one inputs) (view_of other y.inputs) asked.0 y.playable both settled too early.0 (y.put).0 ((y.put).2).shown ((y.put).2).output.whole.times early.1 ((y.put).2).output.whole.shown ((y.put).2).value in
        (early.0, found.0, early.2, subst (λ (bytes : List ℕ). Appends more.before.held more.now.held bytes) found.1 (y.put).3)

  pub early_runs_agree : (one_log other_log : FetchChange) (one other : PlayJob) (frames report more said : SinkChange) (answer : Status) → JobsAlike one other → one.mode ≡ Settled → other.mode ≡ Settled
      → IsPlayRun told one_log one script fonts frames report answer → IsPlayRun told other_log other script fonts more said status.Done
      → (front rest : List ℕ) × Appends frames.before.held frames.now.held front × Appends more.before.held more.now.held (front ++ rest)
  early_runs_agree one_log other_log one other frames report more said answer alike settled too first second =
      early_run one other frames report more said answer alike settled too (done_run told script fonts other second.reading more said second.read second.asked) first.reading first.read first.asked
