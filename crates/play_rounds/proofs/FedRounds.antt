-- What a round feeds, and what its workers have seen.
use Rattle.std.proofs.Common.{◌≡◌, ℕ, ◌+◌, ◌<◌, ◌≤◌, List, [], ◌++◌, length, map, sum_by, refl, sym, ap, subst, ◌∙◌, arith, append_assoc, append-nil}
use Rattle.std.specs.Arc.{arc_value}
use Rattle.std.specs.List.{slice_index_or}
use Rattle.std.proofs.lemmas.List.{append_cancel_left, get_or-map, length-map}
use Rattle.ass_events.specs.Histories.{Entry, live}
use Rattle.ass_events.specs.declared.event.Event.{Event}
use Rattle.renderer.specs.Passes.{RenderView}
use Rattle.track_history.specs.Answers.{entry_of}
use Rattle.track_history.specs.Calls.{history_of}
use Rattle.play_shares.specs.Batches.{again_lines}
use Rattle.play_model.specs.Feeding.{AreFedTwice}
use Rattle.play_model.specs.Interleavings.{IsInterleaving, sum_below}
use Rattle.play_model.specs.Plays.{IsFedTo, PlayView, all_feeding, events_again, events_in, good_flags, repeated_in}
use Rattle.play_model.specs.Rounds.{IsFedRound}
use Rattle.play_model.proofs.Feeds.{AreFed_later}
use Rattle.play_model.proofs.JoinedPasses.{nil_of}
use Rattle.play_model.proofs.Labels.{IsInterleaving_fewer, length_interleaving, sum_below_rest, sum_below_same}
use Rattle.play_model.proofs.Rounds.{feeds_on, repeats_again}
use Rattle.play_workers.specs.Parts.{IsFedPart, IsFine, IsOutcome, told_repeats}
use Rattle.play_workers.specs.Stages.{IsPlayStage, play_on}
use Rattle.play_workers.specs.declared.stage.PlayStage.{PlayStage}
use Rattle.play_workers.specs.declared.worker.Outcome.{Outcome}
use Rattle.play_workers.specs.declared.worker.Outcome.TheVariants.{Idle, Fed, Shown, OutOfMemory}
use Rattle.play_workers.specs.declared.worker.Role.{Role}
use Rattle.play_workers.specs.declared.worker.Role.TheVariants.{Feeder, Painter, Warmer}
use Rattle.play_workers.specs.declared.worker.Worker.{Worker}
use Rattle.play_rounds.specs.Passes.{IsAllJoined}
use Rattle.play_rounds.specs.Rounds.{IsRound, worker_roles}
use Rattle.play_rounds.proofs.Told.{shown_begins, shown_ends, told_begun, told_given, told_later, told_mixed, told_new}
use Rattle.play_rounds.proofs.WholeRounds.{gave, nobody}
use Rattle.play_rounds.specs.Playing.{fed_before, repeats_before}
use Rattle.play_rounds.specs.Shifts.{crew_of}
use Rattle.play_rounds.specs.declared.shift.Shift.{Shift}
use Rattle.play_rounds.specs.declared.shift.Shift.TheVariants.{Both, Feed, Paint}
use Rattle.play_rounds.proofs.Crews.{FeedsNothing, crew_feeds, crew_rests, feeders_in, feeders_within}
use Rattle.play_rounds.proofs.Sums.{one_below_more, sum_by_place}

module _ (stage : PlayStage) (round : ℕ) (pass after : RenderView) where
  -- what a feeder's outcome says
  fed_by : (f : ℕ) (given : List Entry) (outcome : Outcome) → IsFine outcome → IsOutcome stage round (Feeder f) pass after given outcome → IsFedPart stage round f pass after given (told_repeats outcome)
  fed_by f given Idle fine came = absurd came
  fed_by f given (Fed repeated) fine came = came
  fed_by f given (Shown images) fine came = absurd came
  fed_by f given OutOfMemory fine came = absurd fine

  -- others give nothing, and repeat nothing
  fed_none : (role : Role) (given : List Entry) (outcome : Outcome) → FeedsNothing role → IsFine outcome → IsOutcome stage round role pass after given outcome → (given ≡ []) × (told_repeats outcome ≡ 0)
  fed_none (Feeder f) given outcome unlike fine came = absurd unlike
  fed_none (Painter p) given Idle unlike fine came = absurd came
  fed_none (Painter p) given (Fed repeated) unlike fine came = absurd came
  fed_none (Painter p) given (Shown images) unlike fine came = (came.0, refl)
  fed_none (Painter p) given OutOfMemory unlike fine came = absurd fine
  fed_none Warmer given Idle unlike fine came = (came, refl)
  fed_none Warmer given (Fed repeated) unlike fine came = absurd came
  fed_none Warmer given (Shown images) unlike fine came = absurd came
  fed_none Warmer given OutOfMemory unlike fine came = absurd fine

AreFedTwice_later : (before after more : List Entry) (again batch : List Event) (given : List Entry) (repeated : ℕ) → AreFedTwice before again batch after given repeated
    → AreFedTwice before again batch (after ++ more) given repeated
AreFedTwice_later before after more again batch given repeated two = record {
  first_given = two.first_given;
  first_repeated = two.first_repeated;
  first = AreFed_later before after more again two.first_given two.first_repeated two.first;
  second_given = two.second_given;
  second_repeated = two.second_repeated;
  second = AreFed_later before after more batch two.second_given two.second_repeated two.second;
  given_are = two.given_are;
  repeated_are = two.repeated_are;
}

module _ (stage : PlayStage) (round : ℕ) (first : RenderView) (workers : List Worker) (after : RenderView) where
  -- a round in which memory was never wanting
  pub record IsFineRound (shift : Shift) (old fresh : List Entry) : Type 0 where
    pub home : IsAllJoined stage.renderer first
    pub one : IsRound stage round first workers after
    pub is_stage : IsPlayStage stage
    pub fine : (i : ℕ) (d : Worker) → i < length workers → IsFine (slice_index_or workers i d).outcome
    pub crew : worker_roles workers ≡ crew_of stage.job shift
    pub dead : live old ≡ []
    pub is : history_of first.track.seen ≡ old ++ fresh
    pub fed : IsFedTo (play_on stage) (fed_before shift (all_feeding (play_on stage)) round) fresh

  module _ (shift : Shift) (old fresh : List Entry) (r : IsFineRound shift old fresh) where
    abbrev play : PlayView
    play = play_on stage

    abbrev outcome_at : ℕ → Outcome
    outcome_at i = (slice_index_or workers i nobody).outcome

    abbrev pub fresh_new : List Entry
    fresh_new = told_new stage round first workers after r.home r.one

    abbrev pub given_at : ℕ → List Entry
    given_at = told_given stage round first workers after r.home r.one

    pub after_is : history_of after.track.seen ≡ old ++ (fresh ++ fresh_new)
    after_is = sym (told_later stage round first workers after r.home r.one) ∙ (ap (λ z. z ++ fresh_new) r.is ∙ append_assoc old fresh fresh_new)

    pub crew_long : length workers ≡ length (crew_of stage.job shift)
    crew_long = sym (length-map workers (λ (w : Worker). w.role)) ∙ ap length r.crew

    pub role_at : (i : ℕ) → i < length workers → (slice_index_or workers i nobody).role ≡ slice_index_or (crew_of stage.job shift) i Warmer
    role_at i lt = sym (get_or-map (λ (w : Worker). w.role) workers i nobody Warmer lt) ∙ ap (λ (roles : List Role). slice_index_or roles i Warmer) r.crew

    abbrev came_of : (i : ℕ) (lt : i < length workers) → Type 0
    came_of i lt = IsOutcome stage round (slice_index_or workers i nobody).role (r.one.begun i) (r.one.passes i) (given_at i) (outcome_at i)

    pub came : (i : ℕ) (lt : i < length workers) → came_of i lt
    came i lt = let done = r.one.done i nobody lt in
        subst (λ (g : List Entry). IsOutcome stage round (slice_index_or workers i nobody).role (r.one.begun i) (r.one.passes i) g (outcome_at i))
        (sym (ap (map entry_of) (gave stage round first workers after r.home r.one i lt))) done.came

    -- what a worker saw: what was there, and a prefix of what is new
    pub record HasSeen (i : ℕ) : Type 0 where
      pub front : List Entry
      pub rest : List Entry
      pub is_shown : history_of (r.one.passes i).track.seen ≡ old ++ (fresh ++ front)
      pub whole : (fresh ++ front) ++ rest ≡ fresh ++ fresh_new

    pub seen_by : (i : ℕ) → i < length workers → HasSeen i
    seen_by i lt =
        let begins = shown_begins stage round first workers after r.home r.one i lt in
        let ends = shown_ends stage round first workers after r.home r.one i lt in
        let shown : history_of (r.one.passes i).track.seen ≡ old ++ (fresh ++ begins.0) =
        sym begins.1 ∙ (ap (λ z. z ++ begins.0) (told_begun stage round first workers after r.home r.one i lt ∙ r.is) ∙ append_assoc old fresh begins.0) in
        record {
          front = begins.0;
          rest = ends.0;
          is_shown = shown;
          whole = append_cancel_left old ((fresh ++ begins.0) ++ ends.0) (fresh ++ fresh_new)
              (sym (append_assoc old (fresh ++ begins.0) ends.0) ∙ (ap (λ z. z ++ ends.0) (sym shown) ∙ (ends.1 ∙ after_is)));
        }

    fed_at : (i : ℕ) → i < length workers → i < feeders_in stage.job shift
        → AreFedTwice fresh (events_again play round i) (events_in play round i) (fresh ++ fresh_new) (given_at i) (told_repeats (outcome_at i))
    fed_at i lt inside =
        let seen = seen_by i lt in
        let role : (slice_index_or workers i nobody).role ≡ Feeder i = role_at i lt ∙ crew_feeds stage.job shift i Warmer inside in
        let part = fed_by stage round (r.one.begun i) (r.one.passes i) i (given_at i) (outcome_at i) (r.fine i nobody lt)
        (subst (λ (z : Role). IsOutcome stage round z (r.one.begun i) (r.one.passes i) (given_at i) (outcome_at i)) role (came i lt)) in
        let two = part old fresh (fresh ++ seen.front) r.dead (told_begun stage round first workers after r.home r.one i lt ∙ r.is) seen.is_shown in
        subst (λ (z : List Entry). AreFedTwice fresh (events_again play round i) (events_in play round i) z (given_at i) (told_repeats (outcome_at i))) seen.whole
        (AreFedTwice_later fresh (fresh ++ seen.front) seen.rest (events_again play round i) (events_in play round i) (given_at i) (told_repeats (outcome_at i)) two)

    none_at : (i : ℕ) → i < length workers → feeders_in stage.job shift ≤ i → (given_at i ≡ []) × (told_repeats (outcome_at i) ≡ 0)
    none_at i lt past = fed_none stage round (r.one.begun i) (r.one.passes i) (slice_index_or workers i nobody).role (given_at i) (outcome_at i)
        (subst FeedsNothing (sym (role_at i lt)) (crew_rests stage.job shift i Warmer past (omega (arith, lt, crew_long)))) (r.fine i nobody lt) (came i lt)

    mixed : IsInterleaving (feeders_in stage.job shift) given_at fresh_new
    mixed = let within = feeders_within stage.job shift in
        IsInterleaving_fewer (feeders_in stage.job shift) (length workers) given_at given_at fresh_new (omega (arith, within, crew_long)) (λ i lt. refl)
        (λ i le lt. (none_at i lt le).0) (told_mixed stage round first workers after r.home r.one)

    abbrev pub repeats_in_round : ℕ
    repeats_in_round = sum_by (λ (w : Worker). told_repeats w.outcome) workers

    pub few_repeat : repeats_in_round ≡ sum_below (feeders_in stage.job shift) (λ i. told_repeats (outcome_at i))
    few_repeat = let within = feeders_within stage.job shift in
        sum_by_place (λ (w : Worker). told_repeats w.outcome) workers nobody
        ∙ sum_below_rest (feeders_in stage.job shift) (length workers) (λ i. told_repeats (outcome_at i)) (omega (arith, within, crew_long)) (λ i le lt. (none_at i lt le).1)

    pub feeding : (feeders_in stage.job shift ≡ stage.job.feeders) → IsFedTo play round fresh → IsFedTo play (round + 1) (fresh ++ fresh_new) × (repeats_in_round ≡ repeated_in play round)
    feeding all so_far =
        let same : IsFedRound play round fresh fresh_new given_at (λ i. told_repeats (outcome_at i)) = record {
          there = so_far;
          new = subst (λ (n : ℕ). IsInterleaving n given_at fresh_new) all mixed;
          fed = λ f lt. let within = feeders_within stage.job shift in fed_at f (omega (arith, lt, all, within, crew_long)) (omega (arith, lt, all));
        } in (
          feeds_on play round fresh fresh_new given_at (λ i. told_repeats (outcome_at i)) r.is_stage.playable same,
          few_repeat ∙ (ap (λ (n : ℕ). sum_below n (λ i. told_repeats (outcome_at i))) all
              ∙ sum_below_same stage.job.feeders (λ i. told_repeats (outcome_at i)) (λ feeder. length (again_lines stage.job (good_flags (arc_value stage.script)) round feeder))
              (repeats_again play round fresh fresh_new given_at (λ i. told_repeats (outcome_at i)) r.is_stage.playable same)),
        )

    pub nothing_new : feeders_in stage.job shift ≡ 0 → fresh_new ≡ []
    nothing_new none = nil_of fresh_new (let many = length_interleaving (feeders_in stage.job shift) given_at fresh_new mixed in
        let zero_sum : sum_below (feeders_in stage.job shift) (λ i. length (given_at i)) ≡ 0 = ap (λ (n : ℕ). sum_below n (λ i. length (given_at i))) none in omega (arith, many, zero_sum))

-- a round feeds on, and repeats just what is offered once more
pub fed_on : (stage : PlayStage) (round : ℕ) (first : RenderView) (workers : List Worker) (after : RenderView) (shift : Shift) (old fresh : List Entry) (r : IsFineRound stage round first workers after shift old fresh)
    → IsFedTo (play_on stage) (fed_before shift (all_feeding (play_on stage)) (round + 1)) (fresh ++ fresh_new stage round first workers after shift old fresh r)
    × (repeats_before (play_on stage) shift round + sum_by (λ (w : Worker). told_repeats w.outcome) workers ≡ repeats_before (play_on stage) shift (round + 1))
fed_on stage round first workers after Both old fresh r =
    let on = feeding stage round first workers after Both old fresh r refl r.fed in let more = one_below_more round (repeated_in (play_on stage)) in let new = on.1 in (on.0, omega (arith, more, new))
fed_on stage round first workers after Feed old fresh r =
    let on = feeding stage round first workers after Feed old fresh r refl r.fed in let more = one_below_more round (repeated_in (play_on stage)) in let new = on.1 in (on.0, omega (arith, more, new))
fed_on stage round first workers after Paint old fresh r =
    let none = nothing_new stage round first workers after Paint old fresh r refl in
    let few = few_repeat stage round first workers after Paint old fresh r in (
      subst (IsFedTo (play_on stage) (all_feeding (play_on stage))) (sym (ap (λ z. fresh ++ z) none ∙ append-nil fresh)) r.fed,
      omega (arith, few),
    )
