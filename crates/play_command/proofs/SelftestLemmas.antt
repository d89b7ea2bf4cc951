-- The report of a selftest.
use Rattle.std.proofs.Common.{◌≡◌, inl, inr, ℕ, ◌+◌, ◌-◌, ◌*◌, ◌<◌, ◌≤◌, List, [], ◌∷◌, ◌++◌, length, map, Some, Result, Ok, Err, refl, sym, ap, subst, ◌∙◌, arith, length-append, string_bytes, String, Global}
use Rattle.std.specs.Io.KnownBytes.{Appends}
use Rattle.std.specs.List.{All, slice_index_or}
use Rattle.std.proofs.lemmas.List.{length-map}
use Rattle.std.proofs.lemmas.List.Elements.{All-cons, All-head, All-nil, All-tail}
use Rattle.ass_events.specs.Histories.{Chunk, Entry, Flush, live, live_after}
use Rattle.ass_events.specs.declared.event.Event.{Event}
use Rattle.ass_io.specs.Sinks.{SinkState}
use Rattle.ass_num.specs.Limits.{max_file_bytes}
use Rattle.ass_script.specs.Scripts.{ScriptValue, script_of}
use Rattle.ass_script.specs.declared.refusal.ScriptRefusal.{ScriptRefusal}
use Rattle.ass_script.specs.declared.refusal.ScriptRefusal.TheVariants as refusal
use Rattle.bdf_font.specs.Ranges.{IsFont}
use Rattle.single_run.specs.Outcomes.{IsOrFault, IsReportable, IsStatusReadCounted, IsWriteCounted, SuitsSink, status_if_put}
use Rattle.single_run.specs.declared.outcome.Outcome.{Outcome}
use Rattle.single_run.specs.declared.outcome.Outcome.TheVariants.{Ended, Found}
use Rattle.generated_script.specs.Generated.{generated}
use Rattle.generated_script.specs.Grid.{grid_font}
use Rattle.run_status.specs.Causes.{script_status, with_status}
use Rattle.run_status.specs.declared.inputs.Inputs.{Inputs}
use Rattle.play_model.specs.Images.{IsSettledImage}
use Rattle.play_model.specs.Plays.{IsPlayable, IsTimeOf, PlayView, feeder_events}
use Rattle.play_model.proofs.Counts.{good_is, time_long}
use Rattle.play_model.proofs.FeedLaws.{IsChunk, all_chunks}
use Rattle.play_model.proofs.Labels.{IsInterleaving_all}
use Rattle.play_model.proofs.TimeLaws.{settled_image}
use Rattle.play_report.specs.Digests.{digest_after}
use Rattle.play_report.specs.declared.report.PlayReport.{PlayReport}
use Rattle.play_rounds.specs.Outputs.{IsPlayed, IsWholePlay}
use Rattle.play_rounds.specs.declared.ends.PlayEnd.{PlayEnd}
use Rattle.play_rounds.specs.declared.ends.PlayEnd.TheVariants as play_end
use Rattle.play_shares.specs.Instants.{instant_count}
use Rattle.run_words.specs.Jobs.{IsJob, IsPlay}
use Rattle.run_words.specs.declared.job.Job.TheVariants.{Selftest}
use Rattle.run_words.specs.declared.job.PlayJob.{PlayJob}
use Rattle.run_status.specs.declared.status.BadScript.TheVariants.{NoEvents, NotUtf8}
use Rattle.run_status.specs.declared.status.Status.{Status}
use Rattle.run_status.specs.declared.status.Status.TheVariants as status
use Rattle.run_status.specs.declared.status.What.TheVariants.{Bytes, Lines, Styles}
use Rattle.run_status.specs.declared.status.Which.TheVariants.{Report}
use Rattle.ass_events.specs.ScriptEvents.{line_events}
use Rattle.text_layout.specs.Fonts.{IsLayoutFontSet}
use Rattle.track_history.specs.Answers.{read_orders}
use Rattle.play_command.specs.PlayRuns.{status_read, view_of}
use Rattle.play_command.specs.SelftestRuns.{IsSelftestRead, IsSelftestTextBy, SummaryText, accepted_first, first_of_times, image_count, selftest_fonts, selftest_job, selftest_play}
use Rattle.ass_num.specs.Limits.{max_instant}
use Rattle.frame_rate.specs.Rates.{frames_before, step_rate}
use Rattle.frame_rate.proofs.RateLemmas.{counted_frames_come_before, steps_are_rates}
use Rattle.run_words.specs.Limits.{max_events}
use Rattle.play_command.specs.Working.{AreSelftestInputs, IsSelftestWorkedBy, IsSpoken, IsSummedBy}

-- ---- how much is played

-- There are as many instants as images.
pub twenty : (events workers : ℕ) → 0 < events → instant_count (selftest_job events workers) ≡ image_count
twenty events workers some = refl

-- They all come before the last instant.
instants_there : (events : ℕ) → 1 ≤ events → events ≤ max_events → image_count ≤ frames_before (step_rate (5 * events)) 0 max_instant
instants_there events least most =
    let at = (steps_are_rates 0 0 (5 * events) 19 (omega (arith, least))).0 in
    let there : 19 < frames_before (step_rate (5 * events)) 0 max_instant =
    (counted_frames_come_before (step_rate (5 * events)) 0 max_instant 19 (omega arith) (omega (arith, least))).1 (omega (arith, at, most)) in
    omega (arith, there)

pub job_within : (seed events workers : ℕ) → IsJob (Selftest seed events workers) → IsPlay (selftest_job events workers)
job_within seed events workers h =
    let least = h.1.0 in
    let most = h.1.1 in record {
      instants = record {
        first = omega arith;
        rate = record { some = omega arith; most = omega arith; time = omega (arith, least); longest = omega (arith, most) };
        within = instants_there events least most;
      };
      size = ((omega arith, omega arith), (omega arith, omega arith));
      feeders = h.2;
      renderers = h.2;
      batch = (omega arith, omega arith);
      again = omega arith;
      times = (omega arith, omega arith);
      ahead = omega arith;
      bands = (omega arith, omega arith);
      budget = omega arith;
    }

pub grid_alone : IsFont grid_font → IsLayoutFontSet selftest_fonts
grid_alone is = record { some = omega arith; few = omega arith; each = All-cons IsFont grid_font [] is (All-nil IsFont) }

pub inputs_playable : (seed events workers : ℕ) (inputs : Inputs) (job : PlayJob) → job ≡ selftest_job events workers → IsJob (Selftest seed events workers) → AreSelftestInputs inputs →
    IsPlayable (view_of job inputs)
inputs_playable seed events workers inputs job is within suits =
    let least = within.1.0 in
    let n = twenty events workers (omega (arith, least)) in
    let many : 1 * instant_count (selftest_job events workers) ≡ image_count = omega (arith, n) in
    subst (λ (j : PlayJob). IsPlayable (view_of j inputs)) (sym is) (record {
      job = job_within seed events workers within;
      frames = omega (arith, many);
      script = suits.script;
      short = suits.short;
      fonts = suits.few_fonts;
    })

-- ---- how many events are accepted

live_long : (events : List Event) (xs : List Entry) → All IsChunk xs → length (live_after events xs) ≡ length events + length xs
live_long events [] all = omega arith
live_long events (Chunk e ∷ xs) all =
    let rest = live_long (events ++ e ∷ []) xs (All-tail IsChunk (Chunk e) xs all) in
    let more = length-append events (e ∷ []) in omega arith
live_long events (Flush ∷ xs) all = let h = All-head IsChunk Flush xs all in absurd (no_chunk h.0 h.1)
  where
    no_chunk : (e : Event) → Flush ≡ Chunk e → ⊥
    no_chunk e is = cc

module _ (play : PlayView) (some : 0 < play.job.feeders) where
  time_accepted : (time : List Entry) → IsTimeOf play time → length (read_orders (live time)) ≡ length (line_events play.script)
  time_accepted time is =
      let all : length (live time) ≡ 0 + length time =
      live_long [] time (IsInterleaving_all IsChunk play.job.feeders (λ feeder. map Chunk (feeder_events play feeder)) time is (λ f lt. all_chunks (feeder_events play f))) in
      let same : length (live time) ≡ length time = omega (arith, all) in
      length-map (live time) (λ (event : Event). event.order) ∙ same ∙ time_long play time is ∙ good_is play some

  times_accepted : (times : List (List Entry)) → length times ≡ 1 → All (IsTimeOf play) times → length (first_of_times (map (λ time. read_orders (live time)) times)) ≡ length (line_events play.script)
  times_accepted [] one each = absurd (omega (arith, one))
  times_accepted (time ∷ times) one each = time_accepted time (All-head (IsTimeOf play) time times each)

-- ---- the report

module _ (write : SummaryText) (script : ScriptValue) (seed events workers : ℕ) (bytes : List ℕ) (report : PlayReport)
    (playable : IsPlayable (selftest_play script events workers)) (some : 0 < events) (whole : IsWholePlay (selftest_play script events workers) bytes report) where
  abbrev play : PlayView
  play = selftest_play script events workers

  image_at : (i : ℕ) (d : List ℕ) → i < image_count → IsSettledImage (selftest_play script events 1) 0 i (slice_index_or whole.shown.images i d)
  image_at i d lt =
      let place : 0 * instant_count play.job + i ≡ i = omega arith in
      let found = settled_image play whole.times bytes playable refl whole.shown 0 i d (subst (λ n. i < n) (sym (twenty events workers some)) lt) (omega arith) in
      let here : IsSettledImage play 0 i (slice_index_or whole.shown.images i d) = subst (λ k. IsSettledImage play 0 i (slice_index_or whole.shown.images k d)) place found in
      record { draws = here.draws; are_draws = here.are_draws; value = here.value }

  all_images : length whole.shown.images ≡ image_count
  all_images = let n = twenty events workers some in let all = whole.shown.all in all ∙ omega (arith, n)

  frames_are : report.frames ≡ image_count
  frames_are = let n = twenty events workers some in whole.frames ∙ omega (arith, n)

  accepted_are : length (accepted_first report) ≡ length (line_events script)
  accepted_are =
      ap (λ (a : List (List ℕ)). length (first_of_times a)) whole.accepted
      ∙ times_accepted play (let least = playable.job.feeders.0 in omega arith) whole.times whole.shown.as_many whole.shown.each

  -- The summary of a whole play is the report.
  pub summary : (text : List ℕ) → text ≡ write seed events (length (accepted_first report)) report.frames (digest_after 0 bytes) → IsSelftestTextBy write script seed events text
  summary text is = record {
    sound = playable.script;
    pieces = whole.shown.images;
    many = all_images;
    each = image_at;
    value = is
        ∙ ap (λ n. write seed events n report.frames (digest_after 0 bytes)) accepted_are
        ∙ ap (λ n. write seed events (length (line_events script)) n (digest_after 0 bytes)) frames_are
        ∙ ap (λ b. write seed events (length (line_events script)) image_count (digest_after 0 b)) whole.shown.value;
  }

-- ---- its end

-- What a sink in memory got is what it holds, where it held nothing.
pub held_all : (before after bytes : List ℕ) → before ≡ [] → Appends (Some before) (Some after) bytes → after ≡ bytes
held_all before after bytes none h = h ∙ ap (λ b. b ++ bytes) none

worked : (write : SummaryText) (seed events : ℕ) (script : ScriptValue) (text : String Global) → IsSelftestRead seed events (Ok script) → IsSelftestTextBy write script seed events (string_bytes text) →
    IsSelftestWorkedBy write seed events (Found text)
worked write seed events script text read said = record { reading = Ok script; read = read; answered = inl (inl refl); text = λ done. said; own = tt }

-- A selftest whose play was whole.
done : (write : SummaryText) (seed events workers : ℕ) (inputs : Inputs) (job : PlayJob) (old new : SinkState) (before after : List ℕ) (report : PlayReport) (text : String Global) →
    IsJob (Selftest seed events workers) → IsSelftestRead seed events (Ok inputs.script) → AreSelftestInputs inputs → job ≡ selftest_job events workers → before ≡ [] →
    old.held ≡ Some before → new.held ≡ Some after → IsPlayed (view_of job inputs) (play_end.Done report) old new →
    string_bytes text ≡ write seed events (length (accepted_first report)) report.frames (digest_after 0 after) → IsSelftestWorkedBy write seed events (Found text)
done write seed events workers inputs job old new before after report text within read suits is none holds_old holds_new played said =
    let least = within.1.0 in
    let view : view_of job inputs ≡ selftest_play inputs.script events workers = rw (is, suits.fonts) refl in
    let playable = subst IsPlayable view (inputs_playable seed events workers inputs job is within suits) in
    let whole = subst (λ (v : PlayView). IsPlayed v (play_end.Done report) old new) view played in
    let holds : after ≡ whole.bytes = held_all before after whole.bytes none (subst (λ h. Appends h (Some after) whole.bytes) holds_old (subst (λ h. Appends old.held h whole.bytes) holds_new whole.held)) in
    worked write seed events inputs.script text read
    (summary write inputs.script seed events workers whole.bytes report playable (omega (arith, least)) whole.whole (string_bytes text)
    (said ∙ ap (λ b. write seed events (length (accepted_first report)) report.frames (digest_after 0 b)) holds))

pub wanting : (write : SummaryText) (seed events : ℕ) (reading : Result ScriptValue Status) → IsSelftestRead seed events reading → IsSelftestWorkedBy write seed events (Ended status.OutOfMemory)
wanting write seed events reading read = record {
  reading = reading;
  read = read;
  answered = inl (inr refl);
  text = λ done. absurd cc;
  own = tt;
}

-- No play fails at a sink that never fails.
pub never_fails : (play : PlayView) (old new : SinkState) (end : PlayEnd) → old.faults ≡ 0 → new.faults ≡ 0 → IsPlayed play end old new → end ≡ play_end.WriteFault → ⊥
never_fails play old new (play_end.Done report) before now played is = cc
never_fails play old new play_end.WriteFault before now played is = let rose = played.counted.0 in absurd (omega (arith, before, now, rose))
never_fails play old new play_end.OutOfMemory before now played is = cc

-- A selftest, however its play ended.
pub played_out : (write : SummaryText) (seed events workers : ℕ) (inputs : Inputs) (job : PlayJob) (old new : SinkState) (before after : List ℕ) (end : PlayEnd) (outcome : Outcome) →
    IsJob (Selftest seed events workers) → IsSelftestRead seed events (Ok inputs.script) → AreSelftestInputs inputs → job ≡ selftest_job events workers → before ≡ [] →
    old.held ≡ Some before → new.held ≡ Some after → IsPlayed (view_of job inputs) end old new → IsSummedBy write seed events after end outcome → IsSelftestWorkedBy write seed events outcome
played_out write seed events workers inputs job old new before after (play_end.Done report) (Found text) within read suits is none holds_old holds_new played said =
    done write seed events workers inputs job old new before after report text within read suits is none holds_old holds_new played said
played_out write seed events workers inputs job old new before after (play_end.Done report) (Ended why) within read suits is none holds_old holds_new played said =
    subst (λ (o : Outcome). IsSelftestWorkedBy write seed events o) (sym said) (wanting write seed events (Ok inputs.script) read)
played_out write seed events workers inputs job old new before after play_end.WriteFault outcome within read suits is none holds_old holds_new played said = absurd said
played_out write seed events workers inputs job old new before after play_end.OutOfMemory outcome within read suits is none holds_old holds_new played said =
    subst (λ (o : Outcome). IsSelftestWorkedBy write seed events o) (sym said) (wanting write seed events (Ok inputs.script) read)

-- ---- what a selftest leaves alone

-- Neither a file nor the frames sink failed, and there is something to report.
abbrev IsQuiet : Outcome → Type 0
IsQuiet (Found text) = Unit {0}
IsQuiet (Ended (status.BadScript cause)) = Unit {0}
IsQuiet (Ended (status.TooLarge what limit)) = Unit {0}
IsQuiet (Ended status.OutOfMemory) = Unit {0}
IsQuiet _ = ⊥

refusal_quiet : (seed events : ℕ) (why : Status) → Err why ≡ with_status script_status (script_of (generated seed events)) → IsQuiet (Ended why)
refusal_quiet seed events why e = cases (script_of (generated seed events)) e
  where
    cases : (r : Result ScriptValue ScriptRefusal) → Err why ≡ with_status script_status r → IsQuiet (Ended why)
    cases (Ok script) h = absurd cc
    cases (Err (refusal.NotUtf8 n)) h = let is : why ≡ status.BadScript (NotUtf8 n) = cc in subst (λ (s : Status). IsQuiet (Ended s)) (sym is) tt
    cases (Err refusal.NoEvents) h = let is : why ≡ status.BadScript NoEvents = cc in subst (λ (s : Status). IsQuiet (Ended s)) (sym is) tt
    cases (Err (refusal.TooManyLines limit)) h = let is : why ≡ status.TooLarge Lines limit = cc in subst (λ (s : Status). IsQuiet (Ended s)) (sym is) tt
    cases (Err (refusal.TooManyStyles limit)) h = let is : why ≡ status.TooLarge Styles limit = cc in subst (λ (s : Status). IsQuiet (Ended s)) (sym is) tt
    cases (Err refusal.OutOfMemory) h = let is : why ≡ status.OutOfMemory = cc in subst (λ (s : Status). IsQuiet (Ended s)) (sym is) tt

why_quiet : (seed events : ℕ) (why : Status) → IsSelftestRead seed events (Err why) → IsQuiet (Ended why)
why_quiet seed events why (inr memory) = let is : why ≡ status.OutOfMemory = cc in subst (λ (s : Status). IsQuiet (Ended s)) (sym is) tt
why_quiet seed events why (inl (inl h)) = refusal_quiet seed events why h.1
why_quiet seed events why (inl (inr h)) = let is : why ≡ status.TooLarge Bytes max_file_bytes = let e = h.1 in cc in subst (λ (s : Status). IsQuiet (Ended s)) (sym is) tt

asked_quiet : (seed events : ℕ) (reading : Result ScriptValue Status) (answer : Status) → IsSelftestRead seed events reading → answer ≡ status_read reading → SuitsSink Report (Ended answer) → IsQuiet (Ended answer)
asked_quiet seed events (Ok script) answer read is own = absurd (subst (λ (s : Status). SuitsSink Report (Ended s)) is own)
asked_quiet seed events (Err why) answer read is own = subst (λ (s : Status). IsQuiet (Ended s)) (sym is) (why_quiet seed events why read)

answered_quiet : (seed events : ℕ) (reading : Result ScriptValue Status) (answer : Status) → IsSelftestRead seed events reading → IsOrFault Report (status_read reading) answer → SuitsSink Report (Ended answer) →
    IsQuiet (Ended answer)
answered_quiet seed events reading answer read (inl (inl wanted)) own = asked_quiet seed events reading answer read wanted own
answered_quiet seed events reading answer read (inl (inr memory)) own = subst (λ (s : Status). IsQuiet (Ended s)) (sym memory) tt
answered_quiet seed events reading answer read (inr (done, fault)) own = absurd (subst (λ (s : Status). SuitsSink Report (Ended s)) fault own)

worked_quiet : (write : SummaryText) (seed events : ℕ) (outcome : Outcome) → IsSelftestWorkedBy write seed events outcome → IsQuiet outcome
worked_quiet write seed events (Found text) worked = tt
worked_quiet write seed events (Ended answer) worked = answered_quiet seed events worked.reading answer worked.read worked.answered worked.own

quiet_kind : (outcome : Outcome) (n m : ℕ) → IsQuiet outcome → IsStatusReadCounted (status_if_put outcome) n n × IsWriteCounted (status_if_put outcome) m m × IsReportable outcome × IsSpoken outcome × SuitsSink Report outcome
quiet_kind (Found text) n m h = (refl, refl, tt, tt, tt)
quiet_kind (Ended status.Done) n m h = absurd h
quiet_kind (Ended (status.BadWords fault)) n m h = absurd h
quiet_kind (Ended (status.NoSuchFile name)) n m h = absurd h
quiet_kind (Ended (status.ReadFault name)) n m h = absurd h
quiet_kind (Ended (status.BadScript cause)) n m h = (refl, refl, tt, tt, tt)
quiet_kind (Ended (status.BadFont index fault)) n m h = absurd h
quiet_kind (Ended (status.WriteFault which)) n m h = absurd h
quiet_kind (Ended (status.TooLarge what limit)) n m h = (refl, refl, tt, tt, tt)
quiet_kind (Ended status.OutOfMemory) n m h = (omega arith, omega arith, tt, tt, tt)
quiet_kind (Ended (status.Unwritable order field)) n m h = absurd h

pub worked_kind : (write : SummaryText) (seed events : ℕ) (outcome : Outcome) (n m : ℕ) → IsSelftestWorkedBy write seed events outcome →
    IsStatusReadCounted (status_if_put outcome) n n × IsWriteCounted (status_if_put outcome) m m × IsReportable outcome × IsSpoken outcome × SuitsSink Report outcome
worked_kind write seed events outcome n m worked = quiet_kind outcome n m (worked_quiet write seed events outcome worked)

-- A generated script that is refused ends the selftest.
pub refused : (write : SummaryText) (seed events : ℕ) (why : Status) → IsSelftestRead seed events (Err why) → IsSelftestWorkedBy write seed events (Ended why)
refused write seed events why read = record { reading = Err why; read = read; answered = inl (inl refl); text = λ done. refl; own = (quiet_kind (Ended why) 0 0 (why_quiet seed events why read)).4 }
