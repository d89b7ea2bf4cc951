-- How a whole play ends.
use Rattle.std.proofs.Common.{◌≡◌, ℕ, ◌*◌, ◌<◌, ◌≤◌, Bool, List, [], length, Result, Ok, Err, refl, sym, ap, subst, ◌∙◌, arith, append-nil}
use Rattle.std.specs.List.{filter}
use Rattle.std.specs.Prelude.{not}
use Rattle.std.proofs.KnownBytes.{Appends-nil}
use Rattle.ass_io.specs.Sinks.{SinkState}
use Rattle.ass_events.specs.Histories.{Entry}
use Rattle.ass_script.specs.Scripts.{ScriptValue}
use Rattle.bdf_font.specs.Fonts.{FontValue}
use Rattle.mask_caches.specs.Asks.{HasAsks}
use Rattle.evict_core.specs.declared.counts.Totals.{Totals}
use Rattle.play_report.specs.declared.report.PlayReport.{PlayReport}
use Rattle.run_words.specs.declared.job.PlayJob.{PlayJob}
use Rattle.play_shares.specs.Instants.{frame_count, instant_count}
use Rattle.play_model.specs.Images.{all_masks, shown_pieces}
use Rattle.play_model.specs.Outputs.{AreShownImages, IsFrontOfPlay}
use Rattle.play_model.specs.Plays.{IsTimeOf, PlayView, good_flags, history_of_times}
use Rattle.play_model.proofs.MoreTimes.{shown_are}
use Rattle.play_model.proofs.Rounds.{nothing_fed}
use Rattle.std.proofs.lemmas.List.Elements.{All-nil}
use Rattle.play_rounds.specs.Outputs.{AreLastTotals, AreImagesWritten, IsPlayed, IsStopped}
use Rattle.play_rounds.specs.Times.{EndsAs, HavePlayed}
use Rattle.play_rounds.specs.declared.ends.PlayEnd.{PlayEnd}
use Rattle.play_rounds.specs.declared.ends.PlayEnd.TheVariants.{Done, WriteFault, OutOfMemory}
use Rattle.play_rounds.specs.declared.ends.Played.{Played}
use Rattle.play_rounds.specs.declared.ends.Stop.{Stop}
use Rattle.play_rounds.specs.declared.ends.Stop.TheVariants as stop
use Rattle.play_rounds.proofs.Puts.{length-pieces, shown}

abbrev pub play_view : PlayJob → ScriptValue → List FontValue → PlayView
play_view job script fonts = record { job = job; script = script; fonts = fonts }

pub same_play : (job : PlayJob) (script : ScriptValue) (fonts fonts' : List FontValue) → fonts ≡ fonts' → play_view job script fonts ≡ play_view job script fonts'
same_play job script fonts fonts' same = ap (play_view job script) same

pub fewer_asks : (asks most : ℕ) (totals : Totals) → asks ≤ most → HasAsks most totals → HasAsks asks totals
fewer_asks asks most totals few has = omega (arith, few, has)

-- what a play has written before it has written anything
pub front_none : (play : PlayView) → 0 < play.job.times → IsFrontOfPlay play []
front_none play some = record {
  history = [];
  so_far = record { times = []; few = some; each = All-nil (IsTimeOf play); rounds = 0; last = []; fed = nothing_fed play; value = refl };
  images = [];
  few = omega arith;
  are = λ q i d inside within. absurd (omega (arith, within));
  cut = 0;
  value = refl;
}

module _ (play : PlayView) (history : List Entry) (s s' : SinkState) (a a' : ℕ) (good : List Bool) (good_is : good ≡ good_flags play.script) (totals : List Totals)
    (last : (asks : ℕ) → asks ≤ a' → AreLastTotals play.job.budget asks totals) where
  done_played : (played : Played) (report : PlayReport) → EndsAs play.job good (Ok played) totals (Done report) → HavePlayed play play.job.times history played (λ images. AreImagesWritten images s s' a a') → IsPlayed play (Done report) s s'
  done_played played report ends has =
      let images = has.2.0 in let times = has.2.1 in let written = has.2.2 in
      let all : length (shown_pieces images) ≡ frame_count play.job = length-pieces images ∙ (times.many ∙ ap (λ (n : ℕ). n * instant_count play.job) has.1) in
      let asked = written.1 in record {
        bytes = shown images;
        whole = record {
          times = has.0;
          shown = record {
            as_many = has.1;
            each = times.each;
            images = shown_pieces images;
            all = all;
            are = shown_are play (history_of_times has.0) images (subst (λ (x : List Entry). AreShownImages play x images) times.is times.are);
            value = refl;
          };
          accepted = ends.0 ∙ has.3;
          malformed = ends.1 ∙ ap (λ (flags : List Bool). length (filter (λ flag. not flag) flags)) good_is;
          repeated = ends.2 ∙ has.4;
          frames = ends.3;
          images = images;
          pieces = refl;
          are = subst (λ (x : List Entry). AreShownImages play x images) times.is times.are;
          totals = subst (AreLastTotals play.job.budget (all_masks images)) (sym ends.4) (last (all_masks images) (omega (arith, asked)));
        };
        held = written.0.held;
        faults = written.0.faults;
        asked = written.0.asked;
      }

  pub play_ends : (played : Result Played Stop) (end : PlayEnd) → EndsAs play.job good played totals end
      → ((one : Played) → played ≡ Ok one → HavePlayed play play.job.times history one (λ images. AreImagesWritten images s s' a a')) → ((e : Stop) → played ≡ Err e → IsStopped play e s s') → IsPlayed play end s s'
  play_ends (Ok played) (Done report) ends has stopped = done_played played report ends (has played refl)
  play_ends (Ok played) WriteFault ends has stopped = absurd ends
  play_ends (Ok played) OutOfMemory ends has stopped = absurd ends
  play_ends (Err stop.WriteFault) (Done report) ends has stopped = absurd ends
  play_ends (Err stop.WriteFault) WriteFault ends has stopped = stopped stop.WriteFault refl
  play_ends (Err stop.WriteFault) OutOfMemory ends has stopped = absurd ends
  play_ends (Err stop.OutOfMemory) (Done report) ends has stopped = absurd ends
  play_ends (Err stop.OutOfMemory) WriteFault ends has stopped = absurd ends
  play_ends (Err stop.OutOfMemory) OutOfMemory ends has stopped = stopped stop.OutOfMemory refl

-- nothing was begun
pub play_refused : (play : PlayView) (s : SinkState) → 0 < play.job.times → IsPlayed play OutOfMemory s s
unfolding front_none
play_refused play s some = record { bytes = []; front = front_none play some; held = Appends-nil s.held; counted = refl; asked = sym (append-nil s.asked) }
