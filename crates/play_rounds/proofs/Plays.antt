-- Rounds of a shift, one after another.
use Rattle.std.proofs.Common.{◌≡◌, ℕ, ◌+◌, ◌≤◌, List, [], ◌++◌, length, take, sum_by, refl, sym, ap, subst, ◌∙◌, arith, append_assoc, append-nil}
use Rattle.std.specs.List.{flat_map}
use Rattle.std.proofs.lemmas.List.{get_or-take, length-take, take-map}
use Rattle.std.proofs.Math.Seq.{take-append-add}
use Rattle.ass_events.specs.Histories.{Entry}
use Rattle.renderer.specs.Passes.{RenderView}
use Rattle.track_history.specs.Calls.{history_of}
use Rattle.play_shares.specs.Instants.{instant_count}
use Rattle.run_words.specs.declared.job.PlayJob.{PlayJob}
use Rattle.play_model.specs.Plays.{PlayView, all_feeding}
use Rattle.play_workers.specs.Parts.{images_by, told_repeats}
use Rattle.play_workers.specs.Stages.{IsPlayStage, play_on}
use Rattle.play_workers.specs.declared.stage.PlayStage.{PlayStage}
use Rattle.play_workers.specs.declared.worker.Role.{Role}
use Rattle.play_workers.specs.declared.worker.Worker.{Worker}
use Rattle.play_rounds.specs.Passes.{IsAllJoined}
use Rattle.play_rounds.specs.Rounds.{IsRound, worker_roles}
use Rattle.ass_io.specs.Sinks.{SinkState}
use Rattle.play_model.specs.Images.{IsShownImage, ShownImage, shown_pieces}
use Rattle.play_workers.specs.Asks.{masks_seen}
use Rattle.play_rounds.proofs.WholeRounds.{masks_after}
use Rattle.play_rounds.specs.Outputs.{AreCutOff, AreImagesWritten, AreWritten, IsCutOff}
use Rattle.play_rounds.specs.Playing.{AreFirstImages, IsShiftPlayed, IsShiftStopped, PlaysOn, StopsIn, fed_before, images_before}
use Rattle.play_rounds.specs.declared.ends.Stop.{Stop}
use Rattle.play_rounds.specs.declared.ends.Stop.TheVariants as stop
use Rattle.play_rounds.specs.declared.shift.Shift.{Shift}
use Rattle.play_rounds.specs.declared.shift.Shift.TheVariants.{Both, Feed, Paint}
use Rattle.play_rounds.proofs.Puts.{nothing_cut, nothing_shown, shown_cut, shown_then}
use Rattle.play_rounds.proofs.ShiftRounds.{AllFine, shift_on}

images_within : (shift : Shift) (job : PlayJob) (round : ℕ) → images_before shift job round ≤ instant_count job
images_within Both job round = omega arith
images_within Feed job round = omega arith
images_within Paint job round = omega arith

module _ (play : PlayView) (old : List Entry) (q : ℕ) (shift : Shift) (round : ℕ) (history : List Entry) (repeated : ℕ) (images : List ShownImage) where
  pub images_few : IsShiftPlayed play old q shift round history repeated images → length images ≤ instant_count play.job
  images_few played = let most = images_within shift play.job round in let many = played.images_are.many in omega (arith, most, many)

  -- a shift that stops after so many rounds
  pub stopped_now : IsShiftPlayed play old q shift round history repeated images → IsShiftStopped play old q images
  stopped_now played = record {
    rounds = fed_before shift (all_feeding play) round;
    fresh = played.fresh;
    fed = played.fed;
    few = images_few played;
    are = subst (λ (n : ℕ). AreFirstImages play (old ++ played.fresh) q n images) (sym played.images_are.many)
        (subst (λ (h : List Entry). AreFirstImages play h q (images_before shift play.job round) images) played.is played.images_are);
  }

-- the first images of a time are so
first_images : (play : PlayView) (history : List Entry) (q n : ℕ) (images : List ShownImage) → AreFirstImages play history q (length images) images → AreFirstImages play history q (length (take n images)) (take n images)
first_images play history q n images are =
    let long = length-take n images in record {
      many = refl;
      each = λ i d lt. subst (IsShownImage play history q i) (sym (get_or-take n images i d (omega (arith, lt, long)))) (are.each i d (omega (arith, lt, long)));
    }

pub stopped_in : (play : PlayView) (old : List Entry) (q : ℕ) (shift : Shift) (round : ℕ) (history : List Entry) (repeated : ℕ) (images next : List ShownImage) (count : ℕ)
    → IsShiftPlayed play old q shift round history repeated (images ++ next) → IsShiftStopped play old q (images ++ take count next)
stopped_in play old q shift round history repeated images next count played =
    let all = stopped_now play old q shift round history repeated (images ++ next) played in
    let n : ℕ = length images + count in
    let long = length-take n (images ++ next) in let few = all.few in
    subst (IsShiftStopped play old q) (take-append-add images next count) (record {
      rounds = all.rounds;
      fresh = all.fresh;
      fed = all.fed;
      few = omega (arith, long, few);
      are = first_images play (old ++ all.fresh) q n (images ++ next) all.are;
    })

-- ---- one round

module _ (s s' : SinkState) (stage : PlayStage) (round : ℕ) (first : RenderView) (workers : List Worker) (after : RenderView) (roles : List Role)
    (is_stage : IsPlayStage stage) (home : IsAllJoined stage.renderer first) (one : IsRound stage round first workers after) (same : worker_roles workers ≡ roles) where
  abbrev pieces : List (List ℕ)
  pieces = flat_map (λ (w : Worker). images_by w.outcome) workers

  pub round_plays : AllFine workers → AreWritten pieces s s'
      → PlaysOn (play_on stage) roles round (round + 1) (history_of first.track.seen) (history_of after.track.seen) (sum_by (λ (w : Worker). told_repeats w.outcome) workers) (λ next. AreImagesWritten next s s' (masks_seen stage.renderer first) (masks_seen stage.renderer after))
  round_plays fine written = λ old q shift repeated images crew played.
      let on = shift_on stage round first workers after old q shift repeated images is_stage home one fine (same ∙ crew) played in
      let few = on.2 in let asks = masks_after stage round first workers after home one in
      (on.0, on.3, (subst (λ (z : List (List ℕ)). AreWritten z s s') (sym on.1) written, omega (arith, few, asks)))

  pub round_cut : AllFine workers → (e : Stop) → AreCutOff e pieces s s' → StopsIn (play_on stage) roles round (history_of first.track.seen) (λ next. IsCutOff e (shown_pieces next) s s')
  round_cut fine e cut = λ old q shift repeated images crew played.
      let on = shift_on stage round first workers after old q shift repeated images is_stage home one fine (same ∙ crew) played in
      let some : take cut.0 pieces ≡ shown_pieces (take cut.0 on.0) = ap (take cut.0) (sym on.1) ∙ take-map (λ (image : ShownImage). image.bytes) cut.0 on.0 in (
        take cut.0 on.0,
        stopped_in (play_on stage) old q shift (round + 1) (history_of after.track.seen) (repeated + sum_by (λ (w : Worker). told_repeats w.outcome) workers) images on.0 cut.0 on.3,
        subst (λ (z : List (List ℕ)). IsCutOff e z s s') some cut.1,
      )

-- memory ran out
pub stops_now : (s : SinkState) (play : PlayView) (roles : List Role) (round : ℕ) (history : List Entry) → StopsIn play roles round history (λ next. IsCutOff stop.OutOfMemory (shown_pieces next) s s)
stops_now s play roles round history = λ old q shift repeated images crew played.
    ([], subst (IsShiftStopped play old q) (sym (append-nil images)) (stopped_now play old q shift round history repeated images played), nothing_cut s s s)

-- ---- rounds

pub plays_none : (s : SinkState) (a : ℕ) (play : PlayView) (roles : List Role) (round : ℕ) (history : List Entry) → PlaysOn play roles round round history history 0 (λ next. AreImagesWritten next s s a a)
plays_none s a play roles round history = λ old q shift repeated images crew played.
    let same : repeated ≡ repeated + 0 = omega arith in
    ([], subst (IsShiftPlayed play old q shift round history (repeated + 0)) (sym (append-nil images)) (subst (λ (n : ℕ). IsShiftPlayed play old q shift round history n images) same played), nothing_shown s s s a a a)

module _ (s s' s'' : SinkState) (a a' a'' : ℕ) (play : PlayView) (roles : List Role) (begin round : ℕ) (history history' : List Entry) (more : ℕ)
    (so_far : PlaysOn play roles begin round history history' more (λ next. AreImagesWritten next s s' a a')) where
  pub plays_then : (round' : ℕ) (history'' : List Entry) (more' : ℕ) → PlaysOn play roles round round' history' history'' more' (λ next. AreImagesWritten next s' s'' a' a'')
      → PlaysOn play roles begin round' history history'' (more + more') (λ next. AreImagesWritten next s s'' a a'')
  plays_then round' history'' more' then = λ old q shift repeated images crew played.
      let one = so_far old q shift repeated images crew played in
      let two = then old q shift (repeated + more) (images ++ one.0) crew one.1 in
      let sum : (repeated + more) + more' ≡ repeated + (more + more') = omega arith in (
        one.0 ++ two.0,
        subst (IsShiftPlayed play old q shift round' history'' (repeated + (more + more'))) (append_assoc images one.0 two.0)
            (subst (λ (n : ℕ). IsShiftPlayed play old q shift round' history'' n ((images ++ one.0) ++ two.0)) sum two.1),
        shown_then s s' s'' a a' a'' one.0 two.0 one.2 two.2,
      )

  pub stops_then : (e : Stop) → StopsIn play roles round history' (λ next. IsCutOff e (shown_pieces next) s' s'') → StopsIn play roles begin history (λ next. IsCutOff e (shown_pieces next) s s'')
  stops_then e then = λ old q shift repeated images crew played.
      let one = so_far old q shift repeated images crew played in
      let two = then old q shift (repeated + more) (images ++ one.0) crew one.1 in (
        one.0 ++ two.0,
        subst (IsShiftStopped play old q) (append_assoc images one.0 two.0) two.1,
        shown_cut s s' s'' a a' a'' e one.0 two.0 one.2 two.2,
      )
