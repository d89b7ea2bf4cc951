-- Times, one after another.
use Rattle.std.proofs.Common.{◌≡◌, ℕ, ◌+◌, ◌*◌, ◌<◌, ◌≤◌, List, [], ◌∷◌, ◌++◌, length, refl, sym, ap, subst, ◌∙◌, arith, length-append, add-mul}
use Rattle.std.specs.List.{All}
use Rattle.std.proofs.lemmas.List.Elements.{All-push}
use Rattle.std.proofs.lemmas.Nat.{mul-le}
use Rattle.ass_events.specs.Histories.{Entry, live}
use Rattle.track_history.specs.Answers.{read_orders}
use Rattle.play_shares.specs.Instants.{instant_count}
use Rattle.play_model.specs.Images.{ShownImage, entries_before, shown_pieces}
use Rattle.play_model.specs.Outputs.{AreShownImages}
use Rattle.play_model.specs.Plays.{IsTimeOf, PlayView, history_of_times}
use Rattle.play_model.specs.Times.{AreFirstShown, history_before}
use Rattle.play_model.proofs.MoreTimes.{dead_before, entries_many, first_shown_are, images_follow, shown_are, shown_follow, time_more}
use Rattle.play_model.proofs.SettledLaws.{live_behind}
use Rattle.play_rounds.specs.Playing.{AreFirstImages, IsShiftStopped}
use Rattle.play_rounds.specs.Times.{AreFrontImages, AreTimesPlayed, BeginsTime, IsTimeMore, IsTimePlayed, PlaysTime, PlaysTimes, StopsInTime, StopsInTimes}
use Rattle.play_rounds.proofs.Puts.{length-pieces, pieces-append}

module _ (play : PlayView) where
  abbrev count : ℕ
  count = instant_count play.job

  -- the first images of a time, as far as there are any
  firsts : (history : List Entry) (q n : ℕ) (images : List ShownImage) → AreFirstImages play history q n images → AreFirstShown play history q images
  firsts history q n images are = λ i d lt. are.each i d (let many = are.many in omega (arith, lt, many))

  one_more : (times : List (List Entry)) (last : List Entry) → length (times ++ last ∷ []) * count ≡ length times * count + count
  one_more times last =
      let all = length-append times (last ∷ []) in
      let rows : length (times ++ last ∷ []) * count ≡ (length times + 1) * count = ap (λ (n : ℕ). n * count) (all ∙ omega arith) in
      let row = add-mul (length times) 1 count in omega (arith, rows, row)

  module _ (time : ℕ) (history history' : List Entry) (begins : BeginsTime play time history history') (early : time < play.job.times) where
    module _ (times : List (List Entry)) (images : List ShownImage) (many : length times ≡ time) (played : AreTimesPlayed play times history images) where
      before : history' ≡ history_before times
      before = begins times many played.each played.is

      dead : live history' ≡ []
      dead = ap live before ∙ dead_before times

      long : length history' ≡ entries_before play (length times)
      long = ap length before ∙ entries_many play times played.each

      earlier : AreShownImages play (history_of_times times) images
      earlier = subst (λ (h : List Entry). AreShownImages play h images) played.is played.are

      -- a front, where so much of a time was played
      front_of : (next : List ShownImage) → IsShiftStopped play history' (length times) next → AreFrontImages play (shown_pieces (images ++ next))
      front_of next s =
          let own : length (shown_pieces next) ≤ count = (let long = length-pieces next in let few = s.few in omega (arith, long, few)) in
          let all : length (shown_pieces images) ≡ length times * count = length-pieces images ∙ played.many in
          let follow = images_follow play times s.fresh (shown_pieces images) (shown_pieces next) (shown_are play (history_of_times times) images earlier) all
          (first_shown_are play (history_before times ++ s.fresh) (length times) next
          (firsts (history_before times ++ s.fresh) (length times) (length next) next (subst (λ (h : List Entry). AreFirstImages play (h ++ s.fresh) (length times) (length next) next) before s.are)))
          own in
          let long = length-append (shown_pieces images) (shown_pieces next) in
          let row = add-mul (length times) 1 count in
          let rows : (length times + 1) * count ≤ play.job.times * count = mul-le (length times + 1) count play.job.times count (omega (arith, many, early)) (omega arith) in
          subst (AreFrontImages play) (sym (pieces-append images next)) (record {
            history = history_of_times (times ++ s.fresh ∷ []);
            so_far = record { times = times; few = omega (arith, many, early); each = played.each; rounds = s.rounds; last = s.fresh; fed = s.fed; value = refl };
            few = omega (arith, long, all, own, row, rows);
            are = follow;
          })

      module _ (history'' : List Entry) (repeated : ℕ) (next : List ShownImage) (t : IsTimePlayed play history' (length times) history'' repeated next) where
        own : length next ≡ count
        own = t.images_are.many

        follows : history'' ≡ history_before times ++ t.time
        follows = t.is ∙ ap (λ z. z ++ t.time) before

        time_after : (orders : List ℕ) → orders ≡ read_orders (live history'') → IsTimeMore play times images history'' repeated orders next
        time_after orders orders_are =
            let all = length-append images next in let was = played.many in let row = one_more times t.time in let mine = own in
            let is : history'' ≡ history_of_times (times ++ t.time ∷ []) = follows ∙ sym (time_more times t.time) in record {
              time = t.time;
              rounds = t.rounds;
              fed = t.fed;
              all = record {
                each = All-push (IsTimeOf play) times t.time played.each t.is_time;
                is = is;
                many = omega (arith, all, was, row, mine);
                are = subst (λ (h : List Entry). AreShownImages play h (images ++ next)) (sym is)
                    (shown_follow play times t.time images next earlier played.many
                    (firsts (history_before times ++ t.time) (length times) count next (subst (λ (h : List Entry). AreFirstImages play h (length times) count next) follows t.images_are))
                    (omega (arith, mine)));
              };
              repeated_are = t.repeated_are;
              orders_are = orders_are ∙ ap read_orders (ap live t.is ∙ live_behind history' t.time dead);
            }

        stopped_after : IsShiftStopped play history' (length times) next
        stopped_after = record {
          rounds = t.rounds;
          fresh = t.time;
          fed = t.fed;
          few = (let mine = own in omega (arith, mine));
          are = subst (λ (h : List Entry). AreFirstImages play h (length times) (length next) next) t.is (subst (λ (n : ℕ). AreFirstImages play history'' (length times) n next) (sym own) t.images_are);
        }

    -- a time more
    pub more_time : (history'' : List Entry) (repeated : ℕ) (orders : List ℕ) (Written : List ShownImage → Type 0) → PlaysTime play history' history'' repeated Written
        → orders ≡ read_orders (live history'') → PlaysTimes play time history history'' repeated orders Written
    more_time history'' repeated orders Written plays orders_are = λ times images many played.
        let one = plays (length times) (dead times images many played) (long times images many played) in
        (one.0, time_after times images many played history'' repeated one.0 one.1 orders orders_are, one.2)

    pub stop_time : (CutOff : List ShownImage → Type 0) → StopsInTime play history' CutOff → StopsInTimes play time history CutOff
    stop_time CutOff stops = λ times images many played.
        let one = stops (length times) (dead times images many played) (long times images many played) in
        (one.0, front_of times images many played one.0 one.1, one.2)

    -- the time was played whole, and then memory ran out
    pub stop_behind : (history'' : List Entry) (repeated : ℕ) (Written CutOff : List ShownImage → Type 0) → PlaysTime play history' history'' repeated Written
        → ((next : List ShownImage) → Written next → CutOff next) → StopsInTimes play time history CutOff
    stop_behind history'' repeated Written CutOff plays cut = λ times images many played.
        let one = plays (length times) (dead times images many played) (long times images many played) in
        (one.0, front_of times images many played one.0 (stopped_after times images many played history'' repeated one.0 one.1), cut one.0 one.2)

  -- times were played, the last of which is this, and then memory ran out
  pub front_whole : (times : List (List Entry)) (images next : List ShownImage) (history : List Entry) (repeated : ℕ) (orders : List ℕ) → length times < play.job.times → All (IsTimeOf play) times
      → IsTimeMore play times images history repeated orders next → AreFrontImages play (shown_pieces (images ++ next))
  front_whole times images next history repeated orders few each more =
      let all = more.all in
      let rows : (length times + 1) * count ≤ play.job.times * count = mul-le (length times + 1) count play.job.times count (omega (arith, few)) (omega arith) in
      let row = add-mul (length times) 1 count in
      let total = one_more times more.time in
      let many = all.many in record {
        history = history;
        so_far = record { times = times; few = few; each = each; rounds = more.rounds; last = more.time; fed = more.fed; value = all.is };
        few = (let long = length-pieces (images ++ next) in omega (arith, rows, row, total, many, long));
        are = shown_are play history (images ++ next) all.are;
      }
