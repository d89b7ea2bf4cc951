-- A round more of a shift.
use Rattle.std.proofs.Common.{◌≡◌, ℕ, ◌+◌, ◌-◌, ◌*◌, ◌/◌, ◌<◌, ◌≤◌, List, [], ◌++◌, length, take, sum_by, min, refl, sym, ap, subst, ◌∙◌, arith, append_assoc, append-nil, length-append, le_refl}
use Rattle.std.specs.Global.{Vec}
use Rattle.std.specs.List.{flat_map, slice_index_or}
use Rattle.std.proofs.lemmas.List.{get_or_default}
use Rattle.std.proofs.lemmas.List.Elements.{All-get_or}
use Rattle.std.proofs.Math.Seq.{take-append_seam}
use Rattle.ass_events.specs.Histories.{Entry}
use Rattle.renderer.specs.Passes.{RenderView}
use Rattle.track_history.specs.Calls.{history_of}
use Rattle.play_shares.specs.Instants.{instant_count, play_instant}
use Rattle.play_shares.specs.Renderers.{first_place, images_in, painter_count, share_begins, share_ends}
use Rattle.play_shares.proofs.RoundPlaces.{first_begins, live_place, round_ends, some_painters, within_share}
use Rattle.turn_cell.specs.History.{IsPrefix}
use Rattle.turn_cell.proofs.Histories.{IsPrefix_trans}
use Rattle.run_words.specs.declared.job.Mode.{Mode}
use Rattle.run_words.specs.declared.job.Mode.TheVariants.{Live, Settled}
use Rattle.play_model.specs.Images.{IsCountAt, IsImageOf, IsShownImage, ShownImage, all_masks, entries_before, needed_by, shown_pieces}
use Rattle.play_model.specs.Interleavings.{sum_below}
use Rattle.play_model.specs.Plays.{IsPlayable, PlayView, all_feeding, good_before}
use Rattle.play_model.proofs.Rounds.{fed_long, good_all}
use Rattle.play_workers.specs.Asks.{masks_asked}
use Rattle.play_workers.specs.Parts.{ArePainted, IsFine, IsOutcome, images_by, painted_bytes, told_repeats}
use Rattle.play_workers.specs.Roles.{IsRoleOf}
use Rattle.play_workers.specs.Stages.{IsPlayStage, play_on}
use Rattle.play_workers.specs.declared.stage.PlayStage.{PlayStage}
use Rattle.play_workers.specs.declared.worker.Outcome.{Outcome}
use Rattle.play_workers.specs.declared.worker.Outcome.TheVariants.{Idle, Fed, Shown, OutOfMemory}
use Rattle.play_workers.specs.declared.worker.Role.{Role}
use Rattle.play_workers.specs.declared.worker.Role.TheVariants.{Feeder, Painter, Warmer}
use Rattle.play_workers.specs.declared.worker.Worker.{Worker}
use Rattle.play_workers.proofs.Paintings.{IsImageBetween, image_between}
use Rattle.play_rounds.specs.Passes.{IsAllJoined}
use Rattle.play_rounds.specs.Rounds.{IsRound, worker_roles}
use Rattle.play_rounds.proofs.Told.{shown_ends, told_begun}
use Rattle.play_rounds.proofs.WholeRounds.{all_at, nobody}
use Rattle.play_rounds.specs.Playing.{AreFirstImages, IsShiftPlayed, fed_before, images_before}
use Rattle.play_rounds.specs.Shifts.{IsShiftOf, crew_of}
use Rattle.play_rounds.specs.declared.shift.Shift.{Shift}
use Rattle.play_rounds.specs.declared.shift.Shift.TheVariants.{Both, Feed, Paint}
use Rattle.play_rounds.proofs.Crews.{ArePaintersFrom, both_paint, crew_feeds, crew_fits, crew_paints, long_feeders, paint_paints, painter_after}
use Rattle.play_rounds.proofs.FedRounds.{IsFineRound, after_is, came, crew_long, fed_on, fresh_new, given_at, role_at}
use Rattle.play_rounds.proofs.Walks.{AreMoreFirst, AreNext, HasShown, WorkerHasShown, all_shown, images_later, images_renamed, none_shown}

-- how many entries an image may show, of the rounds before and behind its own
count_at : (play : PlayView) (q place round n : ℕ) (mode : Mode) (shift : Shift) → IsPlayable play → IsShiftOf mode shift → (mode ≡ Live → place / play.job.renderers ≡ round)
    → entries_before play q + good_before play (fed_before shift (all_feeding play) round) ≤ n → n ≤ entries_before play q + good_before play (fed_before shift (all_feeding play) (round + 1))
    → (shift ≡ Feed → ⊥) → IsCountAt play q place mode n
count_at play q place round n Live Both playable of is least most unlike =
    (subst (λ (k : ℕ). entries_before play q + good_before play k ≤ n) (sym (is refl)) least, subst (λ (k : ℕ). n ≤ entries_before play q + good_before play (k + 1)) (sym (is refl)) most)
count_at play q place round n Live Feed playable of is least most unlike = absurd of
count_at play q place round n Live Paint playable of is least most unlike = absurd of
count_at play q place round n Settled Both playable of is least most unlike = absurd of
count_at play q place round n Settled Feed playable of is least most unlike = absurd (unlike refl)
count_at play q place round n Settled Paint playable of is least most unlike = let all = good_all play playable (all_feeding play) (le_refl (all_feeding play)) in omega (arith, all, least, most)

module _ (stage : PlayStage) (round : ℕ) (first : RenderView) (workers : List Worker) (after : RenderView) (shift : Shift) (old fresh : List Entry) (r : IsFineRound stage round first workers after shift old fresh)
    (q : ℕ) (mode : IsShiftOf stage.job.mode shift) (behind : length old ≡ entries_before (play_on stage) q) where
  abbrev play : PlayView
  play = play_on stage

  abbrev whole : List Entry
  whole = old ++ (fresh ++ fresh_new stage round first workers after shift old fresh r)

  -- what an image of a painter shows
  shown_at : (i : ℕ) → i < length workers → (place : ℕ) (image : ShownImage) → (stage.job.mode ≡ Live → place / stage.job.renderers ≡ round) → (shift ≡ Feed → ⊥)
      → IsImageBetween play (r.one.begun i) (r.one.passes i) (play_instant stage.job place) image → IsShownImage play whole q place image
  shown_at i lt place image live unlike between =
      let new = fresh_new stage round first workers after shift old fresh r in
      let ends : IsPrefix (history_of (r.one.passes i).track.seen) (history_of after.track.seen) = shown_ends stage round first workers after r.home r.one i lt in
      let all : IsPrefix between.history whole = subst (IsPrefix between.history) (after_is stage round first workers after shift old fresh r)
      (IsPrefix_trans between.history (history_of (r.one.passes i).track.seen) (history_of after.track.seen) between.within ends) in
      let begins : IsPrefix (old ++ fresh) between.history =
      subst (λ (h : List Entry). IsPrefix h between.history) (told_begun stage round first workers after r.home r.one i lt ∙ r.is) between.begins in
      let n : ℕ = length between.history in
      let front : take n whole ≡ between.history = ap (take n) (sym all.1) ∙ take-append_seam between.history all.0 in
      let total : length whole ≡ n + length all.0 = sym (ap length all.1) ∙ length-append between.history all.0 in
      let least : n ≡ length (old ++ fresh) + length begins.0 = sym (ap length begins.1) ∙ length-append (old ++ fresh) begins.0 in
      let parts = length-append old fresh in
      let whole_parts = length-append old (fresh ++ new) in
      let before = fed_long play (fed_before shift (all_feeding play) round) fresh r.fed in
      let behind_round = fed_long play (fed_before shift (all_feeding play) (round + 1)) (fresh ++ new) (fed_on stage round first workers after shift old fresh r).0 in
      let with_masks : (is : IsImageOf play (take n whole) (play_instant stage.job place) image.bytes) × (needed_by between.is ≡ needed_by is) =
      subst (λ (h : List Entry). (is : IsImageOf play h (play_instant stage.job place) image.bytes) × (needed_by between.is ≡ needed_by is)) (sym front) (between.is, refl) in
      record {
        is = record {
          n = n;
          within = omega (arith, total);
          count = count_at play q place round n stage.job.mode shift r.is_stage.playable mode live
              (omega (arith, least, parts, before, behind)) (omega (arith, total, whole_parts, behind_round, behind)) unlike;
          image = with_masks.0;
        };
        masks_are = between.masks_are ∙ with_masks.1;
      }

  -- how many composed masks a worker's pass has asked for
  abbrev asks_by : ℕ → ℕ
  asks_by i = masks_asked stage.renderer (r.one.passes i)

  -- how many images a painter makes, and where those of the round begin
  abbrev base : ℕ
  base = first_place stage.job round

  abbrev each : ℕ
  each = images_in stage.job round

  -- what a painter leaves
  painted_next : (i : ℕ) → i < length workers → (p : ℕ) (images : List (Vec ℕ)) → p < painter_count stage.job → (shift ≡ Feed → ⊥)
      → ArePainted stage round p (r.one.begun i) (r.one.passes i) images → AreNext play whole q each (asks_by i) (base + p * each) (painted_bytes images)
  painted_next i lt p images inside unlike painted =
      let many = painted.many in let asked = painted.asked in (
        painted.images,
        painted.pieces_are,
        omega (arith, asked),
        many,
        λ k d within.
            let own : k < share_ends stage.job round p - share_begins stage.job round p = subst (λ (n : ℕ). k < n) many within in
            shown_at i lt (base + p * each + k) (slice_index_or painted.images k d) (λ live. live_place stage.job round p k live inside (within_share (base + p * each) each (instant_count stage.job) k own)) unlike
            (image_between play stage.renderer (r.one.begun i) (r.one.passes i) (share_begins stage.job round p) (share_ends stage.job round p - share_begins stage.job round p) (painted_bytes images) painted k d own),
      )

  -- what a worker of a fine round leaves
  left : (i : ℕ) → i < length workers → (role : Role) (given : List Entry) (outcome : Outcome) → (shift ≡ Feed → ⊥) → IsRoleOf stage.job role → IsFine outcome
      → IsOutcome stage round role (r.one.begun i) (r.one.passes i) given outcome → HasShown play whole q base each (asks_by i) role outcome
  left i lt (Feeder f) given Idle unlike of fine came = absurd came
  left i lt (Feeder f) given (Fed repeated) unlike of fine came = tt
  left i lt (Feeder f) given (Shown images) unlike of fine came = absurd came
  left i lt (Feeder f) given OutOfMemory unlike of fine came = absurd fine
  left i lt (Painter p) given Idle unlike of fine came = absurd came
  left i lt (Painter p) given (Fed repeated) unlike of fine came = absurd came
  left i lt (Painter p) given (Shown images) unlike of fine came = painted_next i lt p images of unlike came.1
  left i lt (Painter p) given OutOfMemory unlike of fine came = absurd fine
  left i lt Warmer given Idle unlike of fine came = tt
  left i lt Warmer given (Fed repeated) unlike of fine came = absurd came
  left i lt Warmer given (Shown images) unlike of fine came = absurd came
  left i lt Warmer given OutOfMemory unlike of fine came = absurd fine

  role_fits : (i : ℕ) → i < length workers → IsRoleOf stage.job (slice_index_or workers i nobody).role
  role_fits i lt = subst (IsRoleOf stage.job) (sym (role_at stage round first workers after shift old fresh r i lt))
      (All-get_or (IsRoleOf stage.job) (crew_of stage.job shift) i Warmer (let many = crew_long stage round first workers after shift old fresh r in omega (arith, lt, many)) (crew_fits stage.job shift))

  all_left : (shift ≡ Feed → ⊥) → (i : ℕ) → i < length workers → WorkerHasShown play whole q base each (asks_by i) (slice_index_or workers i nobody)
  all_left unlike i lt = left i lt (slice_index_or workers i nobody).role (given_at stage round first workers after shift old fresh r i) (slice_index_or workers i nobody).outcome unlike (role_fits i lt) (r.fine i nobody lt) (came stage round first workers after shift old fresh r i lt)

  images_on : (images : List ShownImage) → (shift ≡ Feed → ⊥) → painter_after 0 (crew_of stage.job shift) ≡ painter_count stage.job
      → AreFirstImages play (history_of first.track.seen) q (min base (instant_count stage.job)) images
      → AreMoreFirst play whole q (min (first_place stage.job (round + 1)) (instant_count stage.job)) (sum_below (length workers) asks_by) (flat_map (λ (w : Worker). images_by w.outcome) workers) images
  images_on images unlike paints are =
      let new = fresh_new stage round first workers after shift old fresh r in
      let later : AreFirstImages play whole q (min base (instant_count stage.job)) images =
      subst (λ (h : List Entry). AreFirstImages play h q (min base (instant_count stage.job)) images) (append_assoc old fresh new)
      (images_later play (old ++ fresh) new q (min base (instant_count stage.job)) images
      (subst (λ (h : List Entry). AreFirstImages play h q (min base (instant_count stage.job)) images) r.is are)) in
      let begun = images_renamed play whole q (min base (instant_count stage.job)) (min (base + 0 * each) (instant_count stage.job)) images
      (ap (λ (n : ℕ). min n (instant_count stage.job)) (first_begins base each)) later in
      let some = some_painters stage.job r.is_stage.playable.job in
      let all = all_shown play whole q base each asks_by workers 0 images (subst (ArePaintersFrom 0) (sym r.crew) (crew_paints stage.job shift)) (all_left unlike) begun in (
        all.0,
        all.1,
        all.2,
        images_renamed play whole q (min (base + painter_after 0 (worker_roles workers) * each) (instant_count stage.job)) (min (first_place stage.job (round + 1)) (instant_count stage.job))
            (images ++ all.0)
            (ap (λ (roles : List Role). min (base + painter_after 0 roles * each) (instant_count stage.job)) r.crew ∙ (ap (λ (n : ℕ). min (base + n * each) (instant_count stage.job)) paints
            ∙ round_ends stage.job round some))
            all.3,
      )

-- a feeder has no image
fed_image : (stage : PlayStage) (round : ℕ) (pass after : RenderView) (f : ℕ) (given : List Entry) (outcome : Outcome) → IsOutcome stage round (Feeder f) pass after given outcome → images_by outcome ≡ []
fed_image stage round pass after f given Idle came = absurd came
fed_image stage round pass after f given (Fed repeated) came = refl
fed_image stage round pass after f given (Shown images) came = absurd came
fed_image stage round pass after f given OutOfMemory came = refl

module _ (stage : PlayStage) (round : ℕ) (first : RenderView) (workers : List Worker) (after : RenderView) (old fresh : List Entry) (r : IsFineRound stage round first workers after Feed old fresh) where
  only_feeders : (i : ℕ) → i < length workers → images_by (slice_index_or workers i nobody).outcome ≡ []
  only_feeders i lt =
      let roles : length workers ≡ length (crew_of stage.job Feed) = crew_long stage round first workers after Feed old fresh r in
      let some = long_feeders stage.job in
      fed_image stage round (r.one.begun i) (r.one.passes i) i (given_at stage round first workers after Feed old fresh r i) (slice_index_or workers i nobody).outcome
      (subst (λ (z : Role). IsOutcome stage round z (r.one.begun i) (r.one.passes i) (given_at stage round first workers after Feed old fresh r i) (slice_index_or workers i nobody).outcome)
      (role_at stage round first workers after Feed old fresh r i lt ∙ crew_feeds stage.job Feed i Warmer (omega (arith, lt, roles, some)))
      (came stage round first workers after Feed old fresh r i lt))

  none_painted : flat_map (λ (w : Worker). images_by w.outcome) workers ≡ []
  none_painted = none_shown workers (all_at (λ (w : Worker). images_by w.outcome ≡ []) workers (λ i d lt.
      subst (λ (w : Worker). images_by w.outcome ≡ []) (get_or_default workers i nobody d lt) (only_feeders i lt)))

-- what a round makes of the images of its shift
images_of_round : (stage : PlayStage) (round : ℕ) (first : RenderView) (workers : List Worker) (after : RenderView) (shift : Shift) (old fresh : List Entry) (r : IsFineRound stage round first workers after shift old fresh)
    (q : ℕ) (images : List ShownImage) → IsShiftOf stage.job.mode shift → length old ≡ entries_before (play_on stage) q
    → AreFirstImages (play_on stage) (history_of first.track.seen) q (images_before shift stage.job round) images
    → AreMoreFirst (play_on stage) (old ++ (fresh ++ fresh_new stage round first workers after shift old fresh r)) q (images_before shift stage.job (round + 1))
    (sum_below (length workers) (λ i. masks_asked stage.renderer (r.one.passes i))) (flat_map (λ (w : Worker). images_by w.outcome) workers) images
images_of_round stage round first workers after Both old fresh r q images mode behind are =
    images_on stage round first workers after Both old fresh r q mode behind images (λ e. cc) (both_paint stage.job) are
images_of_round stage round first workers after Feed old fresh r q images mode behind are =
    let new = fresh_new stage round first workers after Feed old fresh r in (
      [],
      sym (none_painted stage round first workers after old fresh r),
      omega arith,
      subst (AreFirstImages (play_on stage) (old ++ (fresh ++ new)) q 0) (sym (append-nil images))
          (subst (λ (h : List Entry). AreFirstImages (play_on stage) h q 0 images) (append_assoc old fresh new)
          (images_later (play_on stage) (old ++ fresh) new q 0 images (subst (λ (h : List Entry). AreFirstImages (play_on stage) h q 0 images) r.is are))),
    )
images_of_round stage round first workers after Paint old fresh r q images mode behind are =
    images_on stage round first workers after Paint old fresh r q mode behind images (λ e. cc) (paint_paints stage.job) are

abbrev pub AllFine : List Worker → Type 0
AllFine workers = (i : ℕ) (d : Worker) → i < length workers → IsFine (slice_index_or workers i d).outcome

-- A round more of a shift: images of what the workers painted, which need no more composed masks than the workers' passes asked for.
pub shift_on : (stage : PlayStage) (round : ℕ) (first : RenderView) (workers : List Worker) (after : RenderView) (old : List Entry) (q : ℕ) (shift : Shift) (repeated : ℕ) (images : List ShownImage)
    → IsPlayStage stage → IsAllJoined stage.renderer first → (one : IsRound stage round first workers after) → AllFine workers → worker_roles workers ≡ crew_of stage.job shift
    → IsShiftPlayed (play_on stage) old q shift round (history_of first.track.seen) repeated images
    → (next : List ShownImage) × (shown_pieces next ≡ flat_map (λ (w : Worker). images_by w.outcome) workers) × (all_masks next ≤ sum_below (length workers) (λ i. masks_asked stage.renderer (one.passes i)))
    × IsShiftPlayed (play_on stage) old q shift (round + 1) (history_of after.track.seen) (repeated + sum_by (λ (w : Worker). told_repeats w.outcome) workers) (images ++ next)
shift_on stage round first workers after old q shift repeated images is_stage home one fine crew played =
    let r : IsFineRound stage round first workers after shift old played.fresh = record { home = home; one = one; is_stage = is_stage; fine = fine; crew = crew; dead = played.dead; is = played.is; fed = played.fed } in
    let on = fed_on stage round first workers after shift old played.fresh r in
    let is = after_is stage round first workers after shift old played.fresh r in
    let more = images_of_round stage round first workers after shift old played.fresh r q images played.mode played.behind played.images_are in (
      more.0,
      more.1,
      more.2,
      record {
        mode = played.mode;
        behind = played.behind;
        dead = played.dead;
        fresh = played.fresh ++ fresh_new stage round first workers after shift old played.fresh r;
        is = is;
        fed = on.0;
        repeated_are = ap (λ (n : ℕ). n + sum_by (λ (w : Worker). told_repeats w.outcome) workers) played.repeated_are ∙ on.1;
        images_are = subst (λ (h : List Entry). AreFirstImages (play_on stage) h q (images_before shift stage.job (round + 1)) (images ++ more.0)) (sym is) more.3;
      },
    )
