-- All times, one after another, and what they write.
use Rattle.std.proofs.Common.{◌≡◌, ℕ, ◌+◌, ◌*◌, ◌<◌, List, [], ◌∷◌, ◌++◌, length, map, take, refl, sym, ap, ◌∙◌, arith, add-mul, length-append}
use Rattle.std.proofs.lemmas.List.{map-append}
use Rattle.std.proofs.lemmas.List.Elements.{All-nil}
use Rattle.std.proofs.Math.Seq.{take-append_seam}
use Rattle.ass_io.specs.Sinks.{SinkState}
use Rattle.ass_events.specs.Histories.{Entry, live}
use Rattle.track_history.specs.Answers.{read_orders}
use Rattle.play_shares.specs.Instants.{instant_count}
use Rattle.play_model.specs.Images.{ShownImage, shown_pieces}
use Rattle.play_model.specs.Plays.{IsTimeOf, PlayView, repeated_count}
use Rattle.play_rounds.specs.Outputs.{AreImagesWritten, IsCutOff, IsStopped}
use Rattle.play_rounds.specs.Times.{AreFrontImages, HavePlayed, PlaysTimes, StopsInTimes}
use Rattle.play_rounds.specs.declared.ends.Played.{Played}
use Rattle.play_rounds.specs.declared.ends.Stop.{Stop}
use Rattle.play_rounds.specs.declared.ends.Stop.TheVariants as stop
use Rattle.play_rounds.proofs.Puts.{all_cut, nothing_shown, shown_cut, shown_then}
use Rattle.play_rounds.proofs.TimesMore.{front_whole}

-- the ReadOrders of what is live after a time
abbrev orders_of : List Entry → List ℕ
orders_of time = read_orders (live time)

-- What the sink got of images that were begun is a front.
pub stopped_at : (play : PlayView) (e : Stop) (s s' : SinkState) (images : List (List ℕ)) → AreFrontImages play images → IsCutOff e images s s' → IsStopped play e s s'
stopped_at play e s s' images front cut =
    let got = cut.held in record {
      bytes = got.0;
      front = record {
        history = front.history;
        so_far = front.so_far;
        images = images;
        few = front.few;
        are = front.are;
        cut = length got.0;
        value = sym (ap (take (length got.0)) got.2 ∙ take-append_seam got.0 got.1);
      };
      held = got.3;
      counted = cut.counted;
      asked = cut.asked;
    }

-- before the first time
pub none_played : (s : SinkState) (a : ℕ) (play : PlayView) (history : List Entry) (played : Played) → history ≡ [] → played.accepted ≡ [] → played.repeated ≡ 0
    → HavePlayed play 0 history played (λ images. AreImagesWritten images s s a a)
none_played s a play history played new accepted repeated = (
  [],
  refl,
  ([], record { each = All-nil (IsTimeOf play); is = new; many = omega arith; are = λ q i d inside within. absurd (omega (arith, within)) }, nothing_shown s s s a a a),
  accepted,
  omega (arith, repeated),
)

module _ (s s' s'' : SinkState) (a a' a'' : ℕ) (play : PlayView) (time : ℕ) (history : List Entry) (played : Played)
    (so_far : HavePlayed play time history played (λ images. AreImagesWritten images s s' a a')) where
  abbrev times : List (List Entry)
  times = so_far.0

  abbrev images : List ShownImage
  images = so_far.2.0

  -- one time more
  pub more_played : (history'' : List Entry) (repeated : ℕ) (orders : List ℕ) (played' : Played)
      → PlaysTimes play time history history'' repeated orders (λ next. AreImagesWritten next s' s'' a' a'')
      → played'.accepted ≡ played.accepted ++ orders ∷ [] → played'.repeated ≡ played.repeated + repeated
      → HavePlayed play (time + 1) history'' played' (λ images. AreImagesWritten images s s'' a a'')
  more_played history'' repeated orders played' plays accepted' repeated' =
      let one = plays times images so_far.1 so_far.2.1 in let more = one.1 in
      let long = length-append times (more.time ∷ []) in let many = so_far.1 in
      let row = add-mul time 1 (repeated_count play) in let were = so_far.4 in let own = more.repeated_are in (
        times ++ more.time ∷ [],
        omega (arith, long, many),
        (images ++ one.0, more.all, shown_then s s' s'' a a' a'' images one.0 so_far.2.2 one.2),
        accepted' ∙ (ap (λ z. z ++ orders ∷ []) so_far.3 ∙ (ap (λ z. map orders_of times ++ z ∷ []) more.orders_are ∙ sym (map-append orders_of times (more.time ∷ [])))),
        omega (arith, repeated', were, own, row),
      )

  module _ (early : time < play.job.times) where
    -- the play stopped in the next time
    pub stops_after : (e : Stop) → StopsInTimes play time history (λ next. IsCutOff e (shown_pieces next) s' s'') → IsStopped play e s s''
    stops_after e stops =
        let one = stops times images so_far.1 so_far.2.1 in
        stopped_at play e s s'' (shown_pieces (images ++ one.0)) one.1 (shown_cut s s' s'' a a' a'' e images one.0 so_far.2.2 one.2)

    -- the next time was played whole, and then memory ran out
    pub stops_behind : (history'' : List Entry) (repeated : ℕ) (orders : List ℕ) → PlaysTimes play time history history'' repeated orders (λ next. AreImagesWritten next s' s'' a' a'')
        → IsStopped play stop.OutOfMemory s s''
    stops_behind history'' repeated orders plays =
        let one = plays times images so_far.1 so_far.2.1 in let many = so_far.1 in
        stopped_at play stop.OutOfMemory s s'' (shown_pieces (images ++ one.0)) (front_whole play times images one.0 history'' repeated orders (omega (arith, many, early)) so_far.2.1.each one.1)
        (all_cut s s'' s'' (shown_pieces (images ++ one.0)) (shown_then s s' s'' a a' a'' images one.0 so_far.2.2 one.2).0)
