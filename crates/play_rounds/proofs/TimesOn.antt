-- The shifts of a time, from its beginning to its end.
use Rattle.std.proofs.Common.{◌≡◌, ℕ, ◌+◌, ◌*◌, ◌<◌, ◌≤◌, List, [], length, min, refl, sym, ap, subst, ◌∙◌, arith, append-nil, le_refl}
use Rattle.std.specs.Arc.{arc_value}
use Rattle.ass_events.specs.Histories.{Entry, live}
use Rattle.play_shares.specs.Instants.{instant_count}
use Rattle.play_shares.specs.Renderers.{first_place, images_each, painter_count}
use Rattle.play_shares.specs.Rounds.{image_rounds}
use Rattle.play_shares.proofs.InstantLemmas.{ceil_enough}
use Rattle.play_shares.proofs.RoundPlaces.{all_reached, none_before, some_images, some_painters}
use Rattle.run_words.specs.declared.job.Mode.{Mode}
use Rattle.run_words.specs.declared.job.Mode.TheVariants.{Live, Settled}
use Rattle.std.proofs.lemmas.Nat.{mul-le}
use Rattle.ass_io.specs.Sinks.{SinkState}
use Rattle.play_model.specs.Images.{ShownImage, entries_before, shown_pieces}
use Rattle.play_model.specs.Plays.{IsPlayable, PlayView, all_feeding, repeated_before}
use Rattle.play_model.proofs.JoinedPasses.{nil_of}
use Rattle.play_model.proofs.Rounds.{feeds_all, nothing_fed, repeats_all}
use Rattle.play_model.proofs.Shares.{flags_long}
use Rattle.play_workers.specs.Stages.{IsPlayStage, play_on}
use Rattle.play_workers.specs.declared.stage.PlayStage.{PlayStage}
use Rattle.play_rounds.specs.Outputs.{AreImagesWritten, IsCutOff}
use Rattle.play_rounds.specs.Playing.{IsShiftPlayed, PlaysOn, StopsIn}
use Rattle.play_rounds.specs.Shifts.{IsShiftOf, crew_of, rounds_of}
use Rattle.play_rounds.specs.Times.{IsTimePlayed, PlaysTime, StopsInTime}
use Rattle.play_rounds.specs.declared.ends.Stop.{Stop}
use Rattle.play_rounds.specs.declared.shift.Shift.TheVariants.{Both, Feed, Paint}
use Rattle.play_rounds.proofs.Puts.{shown_cut, shown_then}
use Rattle.play_rounds.proofs.Walks.{images_renamed, no_images}

pub lines_are : (stage : PlayStage) → IsPlayStage stage → length stage.good ≡ length (play_on stage).script.lines
lines_are stage is_stage = ap length is_stage.good ∙ flags_long (arc_value stage.script)

module _ (play : PlayView) where
  -- ---- how a shift begins

  live_begins : (history : List Entry) (q : ℕ) → play.job.mode ≡ Live → live history ≡ [] → length history ≡ entries_before play q → IsShiftPlayed play history q Both 0 history 0 []
  live_begins history q mode dead long = record {
    mode = subst (λ (m : Mode). IsShiftOf m Both) (sym mode) tt;
    behind = long;
    dead = dead;
    fresh = [];
    is = sym (append-nil history);
    fed = nothing_fed play;
    repeated_are = refl;
    images_are = images_renamed play history q 0 (min (first_place play.job 0) (instant_count play.job)) [] (none_before play.job) (no_images play history q);
  }

  feed_begins : (history : List Entry) (q : ℕ) → play.job.mode ≡ Settled → live history ≡ [] → length history ≡ entries_before play q → IsShiftPlayed play history q Feed 0 history 0 []
  feed_begins history q mode dead long = record {
    mode = subst (λ (m : Mode). IsShiftOf m Feed) (sym mode) tt;
    behind = long;
    dead = dead;
    fresh = [];
    is = sym (append-nil history);
    fed = nothing_fed play;
    repeated_are = refl;
    images_are = no_images play history q;
  }

  paint_begins : (old : List Entry) (q : ℕ) (history : List Entry) (repeated : ℕ) (images : List ShownImage) → play.job.mode ≡ Settled → IsShiftPlayed play old q Feed (all_feeding play) history repeated images
      → IsShiftPlayed play old q Paint 0 history 0 []
  paint_begins old q history repeated images mode played = record {
    mode = subst (λ (m : Mode). IsShiftOf m Paint) (sym mode) tt;
    behind = played.behind;
    dead = played.dead;
    fresh = played.fresh;
    is = played.is;
    fed = played.fed;
    repeated_are = refl;
    images_are = images_renamed play history q 0 (min (first_place play.job 0) (instant_count play.job)) [] (none_before play.job) (no_images play history q);
  }

  -- ---- how a time ends

  module _ (playable : IsPlayable play) where
    all_made : (rounds : ℕ) → image_rounds play.job ≤ rounds → min (first_place play.job rounds) (instant_count play.job) ≡ instant_count play.job
    all_made rounds late =
        let all : ℕ = painter_count play.job * images_each play.job in
        let enough = ceil_enough (instant_count play.job) all (some_images play.job (some_painters play.job playable.job)) in
        let more : image_rounds play.job * all ≤ rounds * all = mul-le (image_rounds play.job) all rounds all late (le_refl all) in
        all_reached (first_place play.job rounds) (image_rounds play.job * all) (instant_count play.job) enough more

    live_ends : (old : List Entry) (q rounds : ℕ) (history : List Entry) (repeated : ℕ) (images : List ShownImage) → all_feeding play ≤ rounds → image_rounds play.job ≤ rounds
        → IsShiftPlayed play old q Both rounds history repeated images → IsTimePlayed play old q history repeated images
    live_ends old q rounds history repeated images fed made played = record {
      time = played.fresh;
      is_time = feeds_all play playable rounds fed played.fresh played.fed;
      rounds = rounds;
      fed = played.fed;
      is = played.is;
      repeated_are = played.repeated_are ∙ repeats_all play playable rounds fed;
      images_are = images_renamed play history q (min (first_place play.job rounds) (instant_count play.job)) (instant_count play.job) images (all_made rounds made) played.images_are;
    }

    paint_ends : (old : List Entry) (q rounds : ℕ) (history : List Entry) (repeated more : ℕ) (images : List ShownImage) → image_rounds play.job ≤ rounds
        → repeated ≡ repeated_before play (all_feeding play) → IsShiftPlayed play old q Paint rounds history more images → IsTimePlayed play old q history (repeated + more) images
    paint_ends old q rounds history repeated more images made were played = record {
      time = played.fresh;
      is_time = feeds_all play playable (all_feeding play) (le_refl (all_feeding play)) played.fresh played.fed;
      rounds = all_feeding play;
      fed = played.fed;
      is = played.is;
      repeated_are = let none = played.repeated_are in let all = repeats_all play playable (all_feeding play) (le_refl (all_feeding play)) in omega (arith, none, were, all);
      images_are = images_renamed play history q (min (first_place play.job rounds) (instant_count play.job)) (instant_count play.job) images (all_made rounds made) played.images_are;
    }

-- ---- a time

module _ (s s' s'' : SinkState) (a a' a'' : ℕ) (play : PlayView) (playable : IsPlayable play) (count : ℕ) (all : count ≡ length play.script.lines) where
  pub live_time : (history history' : List Entry) (more : ℕ) → play.job.mode ≡ Live
      → PlaysOn play (crew_of play.job Both) 0 (rounds_of play.job count Both) history history' more (λ next. AreImagesWritten next s s' a a')
      → PlaysTime play history history' more (λ images. AreImagesWritten images s s' a a')
  live_time history history' more mode plays = λ q dead long.
      let one = plays history q Both 0 [] refl (live_begins play history q mode dead long) in
      let rounds : rounds_of play.job count Both ≡ rounds_of play.job (length play.script.lines) Both = ap (λ (n : ℕ). rounds_of play.job n Both) all in
      let sum : 0 + more ≡ more = omega arith in (
        one.0,
        live_ends play playable history q (rounds_of play.job (length play.script.lines) Both) history' more one.0 (omega arith) (omega arith)
            (subst (λ (n : ℕ). IsShiftPlayed play history q Both n history' more one.0) rounds (subst (λ (n : ℕ). IsShiftPlayed play history q Both (rounds_of play.job count Both) history' n one.0) sum one.1)),
        one.2,
      )

  pub live_stop : (e : Stop) (history : List Entry) → play.job.mode ≡ Live → StopsIn play (crew_of play.job Both) 0 history (λ next. IsCutOff e (shown_pieces next) s s')
      → StopsInTime play history (λ images. IsCutOff e (shown_pieces images) s s')
  live_stop e history mode stops = λ q dead long.
      stops history q Both 0 [] refl (live_begins play history q mode dead long)

  pub feed_stop : (e : Stop) (history : List Entry) → play.job.mode ≡ Settled → StopsIn play (crew_of play.job Feed) 0 history (λ next. IsCutOff e (shown_pieces next) s s')
      → StopsInTime play history (λ images. IsCutOff e (shown_pieces images) s s')
  feed_stop e history mode stops = λ q dead long.
      stops history q Feed 0 [] refl (feed_begins play history q mode dead long)

  module _ (history history' : List Entry) (fed : ℕ) (mode : play.job.mode ≡ Settled)
      (feeds : PlaysOn play (crew_of play.job Feed) 0 (rounds_of play.job count Feed) history history' fed (λ next. AreImagesWritten next s s' a a')) where
    -- after all lines were fed nothing is written yet
    fed_first : (q : ℕ) → live history ≡ [] → length history ≡ entries_before play q
        → IsShiftPlayed play history q Feed (all_feeding play) history' fed [] × AreImagesWritten [] s s' a a'
    fed_first q dead long =
        let one = feeds history q Feed 0 [] refl (feed_begins play history q mode dead long) in
        let rounds : rounds_of play.job count Feed ≡ all_feeding play = ap (λ (n : ℕ). rounds_of play.job n Feed) all in
        let sum : 0 + fed ≡ fed = omega arith in
        let none : one.0 ≡ [] = nil_of one.0 one.1.images_are.many in (
          subst (IsShiftPlayed play history q Feed (all_feeding play) history' fed) none
              (subst (λ (n : ℕ). IsShiftPlayed play history q Feed n history' fed one.0) rounds (subst (λ (n : ℕ). IsShiftPlayed play history q Feed (rounds_of play.job count Feed) history' n one.0) sum one.1)),
          subst (λ (xs : List ShownImage). AreImagesWritten xs s s' a a') none one.2,
        )

    pub settled_time : (history'' : List Entry) (more : ℕ)
        → PlaysOn play (crew_of play.job Paint) 0 (rounds_of play.job count Paint) history' history'' more (λ next. AreImagesWritten next s' s'' a' a'')
        → PlaysTime play history history'' (fed + more) (λ images. AreImagesWritten images s s'' a a'')
    settled_time history'' more paints = λ q dead long.
        let first = fed_first q dead long in
        let two = paints history q Paint 0 [] refl (paint_begins play history q history' fed [] mode first.0) in
        let sum : 0 + more ≡ more = omega arith in (
          two.0,
          paint_ends play playable history q (rounds_of play.job count Paint) history'' fed more two.0 (omega arith) first.0.repeated_are
              (subst (λ (n : ℕ). IsShiftPlayed play history q Paint (rounds_of play.job count Paint) history'' n two.0) sum two.1),
          shown_then s s' s'' a a' a'' [] two.0 first.1 two.2,
        )

    pub paint_stop : (e : Stop) → StopsIn play (crew_of play.job Paint) 0 history' (λ next. IsCutOff e (shown_pieces next) s' s'')
        → StopsInTime play history (λ images. IsCutOff e (shown_pieces images) s s'')
    paint_stop e stops = λ q dead long.
        let first = fed_first q dead long in
        let two = stops history q Paint 0 [] refl (paint_begins play history q history' fed [] mode first.0) in
        (two.0, two.1, shown_cut s s' s'' a a' a'' e [] two.0 first.1 two.2)
