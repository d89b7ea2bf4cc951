-- The times of a play, and its images where it is settled.
use Rattle.std.proofs.Common.{◌≡◌, ℕ, zero, suc, ◌+◌, ◌*◌, ◌<◌, ◌≤◌, List, [], ◌∷◌, ◌++◌, length, take, refl, sym, ap, subst, ◌∙◌, arith, append_assoc, append-nil, length-append, add-mul}
use Rattle.std.proofs.Math.Seq.{take-append_seam}
use Rattle.std.specs.List.{All, slice_index_or}
use Rattle.std.proofs.lemmas.List.Elements.{All-head, All-tail}
use Rattle.std.proofs.lemmas.Nat.{mul-le}
use Rattle.ass_events.specs.Histories.{Entry, Flush, live}
use Rattle.frame_view.specs.FrameViews.{plain_frame}
use Rattle.picture_plan.proofs.DrawLaws.{draws_of_a_set}
use Rattle.play_shares.specs.Instants.{instant_count, play_instant}
use Rattle.run_words.specs.declared.job.Mode.{Mode}
use Rattle.run_words.specs.declared.job.Mode.TheVariants.{Settled}
use Rattle.ass_events.specs.ScriptEvents.{line_events}
use Rattle.play_model.specs.Images.{IsCountAt, IsImageAt, IsImageIn, IsImageOf, IsSettledImage, play_form}
use Rattle.play_model.specs.Outputs.{IsShownPlay}
use Rattle.play_model.specs.Plays.{IsPlayable, IsTimeOf, PlayView, good_count, history_of_times}
use Rattle.play_model.proofs.Counts.{good_is, time_long}
use Rattle.play_model.proofs.SettledLaws.{whole_time}
use Rattle.track_history.proofs.Histories.{live_after-append}

-- Time q in a history of times of so many entries each: what is before it, of which nothing is live, and what is behind it.
pub record TimeAt (P : List Entry → Type 0) (many q : ℕ) (history : List Entry) : Type 0 where
  pub old : List Entry
  pub time : List Entry
  pub rest : List Entry
  pub is : history ≡ (old ++ time) ++ rest
  pub dead : live old ≡ []
  pub behind : length old ≡ q * (many + 1)
  pub holds : P time

module _ (P : List Entry → Type 0) (many : ℕ) (long : (time : List Entry) → P time → length time ≡ many) where
  pub time_at : (times : List (List Entry)) (q : ℕ) → All P times → q < length times → TimeAt P many q (history_of_times times)
  time_at [] q all lt = absurd (omega arith)
  time_at (time ∷ []) zero all lt = record { old = []; time = time; rest = []; is = sym (append-nil time); dead = refl; behind = omega arith; holds = All-head P time [] all }
  time_at (time ∷ []) (suc q) all lt = absurd (omega arith)
  time_at (time ∷ (next ∷ times)) zero all lt =
      record { old = []; time = time; rest = Flush ∷ history_of_times (next ∷ times); is = refl; dead = refl; behind = omega arith; holds = All-head P time (next ∷ times) all }
  time_at (time ∷ (next ∷ times)) (suc q) all lt =
      let found = time_at (next ∷ times) q (All-tail P time (next ∷ times) all) (omega arith) in
      let here : suc q ≡ q + 1 = omega arith in
      let row : (q + 1) * (many + 1) ≡ q * (many + 1) + 1 * (many + 1) = add-mul q 1 (many + 1) in
      let before = length-append time (Flush ∷ found.old) in
      let own : length time ≡ many = long time (All-head P time (next ∷ times) all) in
      let behind : length (time ++ Flush ∷ found.old) ≡ (q + 1) * (many + 1) = let b = found.behind in omega arith in
      record {
        old = time ++ Flush ∷ found.old;
        time = found.time;
        rest = found.rest;
        is = ap (λ z. time ++ Flush ∷ z) (found.is ∙ append_assoc found.old found.time found.rest)
            ∙ sym (append_assoc time (Flush ∷ found.old) (found.time ++ found.rest))
            ∙ sym (append_assoc (time ++ Flush ∷ found.old) found.time found.rest);
        dead = live_after-append [] time (Flush ∷ found.old) ∙ found.dead;
        behind = behind ∙ ap (λ m. m * (many + 1)) (sym here);
        holds = found.holds;
      }

module _ (play : PlayView) (times : List (List Entry)) (bytes : List ℕ) (playable : IsPlayable play) (settled : play.job.mode ≡ Settled) (shown : IsShownPlay play times bytes) where
  some : 0 < play.job.feeders
  some = let least = playable.job.feeders.0 in omega arith

  place_within : (q i : ℕ) → i < instant_count play.job → q < play.job.times → q * instant_count play.job + i < length shown.images
  place_within q i lt few =
      let count = instant_count play.job in
      let rows : (q + 1) * count ≤ play.job.times * count = mul-le (q + 1) count play.job.times count (omega arith) (omega arith) in
      let row : (q + 1) * count ≡ q * count + 1 * count = add-mul q 1 count in
      let all = shown.all in omega arith

  module _ (q i : ℕ) (d : List ℕ) (lt : i < instant_count play.job) (few : q < play.job.times) where
    abbrev piece : List ℕ
    piece = slice_index_or shown.images (q * instant_count play.job + i) d

    image : IsImageAt play (history_of_times times) q i piece
    image = shown.are q i d lt (place_within q i lt few)

    here : TimeAt (IsTimeOf play) (good_count play) q (history_of_times times)
    here = time_at (IsTimeOf play) (good_count play) (time_long play) times q shown.each (let many = shown.as_many in omega arith)

    count_is : image.n ≡ length (here.old ++ here.time)
    count_is =
        let counted : image.n ≡ q * (good_count play + 1) + good_count play = subst (λ (m : Mode). IsCountAt play q i m image.n) settled image.count in
        let parts = length-append here.old here.time in
        let behind = here.behind in
        let own : length here.time ≡ good_count play = time_long play here.time here.holds in
        omega arith

    front : take image.n (history_of_times times) ≡ here.old ++ here.time
    front = ap (λ n. take n (history_of_times times)) count_is ∙ ap (take (length (here.old ++ here.time))) here.is ∙ take-append_seam (here.old ++ here.time) here.rest

    own_image : IsImageOf play (here.old ++ here.time) (play_instant play.job i) piece
    own_image = subst (λ (h : List Entry). IsImageOf play h (play_instant play.job i) piece) front image.image

    entries : length (here.old ++ here.time) ≡ q * (length (line_events play.script) + 1) + length (line_events play.script)
    entries =
        let parts = length-append here.old here.time in
        let behind = here.behind in
        let own : length here.time ≡ good_count play = time_long play here.time here.holds in
        let sum : length (here.old ++ here.time) ≡ q * (good_count play + 1) + good_count play = omega arith in
        sum ∙ ap (λ n. q * (n + 1) + n) (good_is play some)

    pub settled_image : IsSettledImage play q i piece
    settled_image = record {
      draws = own_image.draws;
      are_draws = draws_of_a_set play.script play.fonts (live (here.old ++ here.time)) (line_events play.script) (play_instant play.job i) (plain_frame play.job.size) own_image.draws
          (whole_time play here.old here.time some here.dead here.holds) own_image.are_draws;
      value = subst (λ (n : ℕ). IsImageIn (play_form play) play.fonts play.job.size own_image.draws (play_instant play.job i) n piece) entries own_image.value;
    }
