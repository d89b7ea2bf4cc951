-- Where there are pictures, the images of whole times can be completed.
use Rattle.std.proofs.Common.{◌≡◌, ℕ, zero, suc, ◌+◌, ◌-◌, ◌*◌, ◌/◌, ◌%◌, ◌<◌, ◌≤◌, List, [], ◌∷◌, ◌++◌, length, get_or, take, drop, refl, sym, ap, subst, ◌∙◌, arith, append_assoc, append-nil, length-append, add-mul, lt_of_not-le}
use Rattle.std.specs.List.{All, flat_map}
use Rattle.std.proofs.lemmas.Grind.{flat_map-append}
use Rattle.std.proofs.lemmas.List.{get_or-append-add, get_or_append_left, take-append-drop}
use Rattle.std.proofs.Math.Nat.{lt_of_mul-lt-mul_right}
use Rattle.std.proofs.lemmas.Nat.{div-add-mod', div-mul-add, mul-le}
use mathlib.Core.Logic.{dite}
use native.Mathlib.Decide.{dec_le}
use Rattle.ass_events.specs.Histories.{Entry, Flush}
use Rattle.play_laws.proofs.FormatLemmas.{formatted, formatted_image}
use Rattle.play_laws.specs.Fronts.{HavePictures, IsFrontOfTimes}
use Rattle.play_model.specs.Images.{IsCountAt, IsImageAt, entries_before, play_form}
use Rattle.play_model.specs.Outputs.{AreImages, IsShownPlay}
use Rattle.play_model.specs.Plays.{IsTimeOf, PlayView, events_before, events_in, good_before, good_count, history_of_times}
use Rattle.play_model.specs.Times.{history_before}
use Rattle.play_model.proofs.Labels.{sum_below_most}
use Rattle.play_model.proofs.MoreTimes.{entries_many, times_closed}
use Rattle.play_model.proofs.Rounds.{good_most}
use Rattle.play_model.proofs.Shares.{before_next}
use Rattle.play_shares.specs.Instants.{frame_count, instant_count, play_instant}
use Rattle.run_words.specs.declared.job.Mode.{Mode}
use Rattle.run_words.specs.declared.job.Mode.TheVariants.{Live, Settled}

module _ (play : PlayView) where
  good_grows : (round : ℕ) → good_before play round ≤ good_before play (round + 1)
  good_grows round = sum_below_most play.job.feeders (λ f. length (events_before play round f)) (λ f. length (events_before play (round + 1) f)) (λ f lt.
      let long : length (events_before play (round + 1) f) ≡ length (events_before play round f ++ events_in play round f) = ap length (before_next play round f) in
      let both = length-append (events_before play round f) (events_in play round f) in
      omega (arith, long, both))

  -- the history has all entries of each time
  history_long : (times : List (List Entry)) (q : ℕ) → All (IsTimeOf play) times → q < length times → entries_before play q + good_count play ≤ length (history_of_times times)
  history_long [] q each lt = absurd (omega (arith, lt))
  history_long (time ∷ times) q each lt =
      let closed : length (history_before (time ∷ times)) ≡ length (history_of_times (time ∷ times) ++ Flush ∷ []) = ap length (times_closed time times) in
      let parts = length-append (history_of_times (time ∷ times)) (Flush ∷ []) in
      let many = entries_many play (time ∷ times) each in
      let rows : (q + 1) * (good_count play + 1) ≤ length (time ∷ times) * (good_count play + 1) =
      mul-le (q + 1) (good_count play + 1) (length (time ∷ times)) (good_count play + 1) (omega (arith, lt)) (omega arith) in
      let row : (q + 1) * (good_count play + 1) ≡ q * (good_count play + 1) + 1 * (good_count play + 1) = add-mul q 1 (good_count play + 1) in
      omega (arith, closed, parts, many, rows, row)

  module _ (pictures : HavePictures play) (times : List (List Entry)) (as_many : length times ≡ play.job.times) (each : All (IsTimeOf play) times) where
    abbrev history : List Entry
    history = history_of_times times

    abbrev count : ℕ
    count = instant_count play.job

    -- how many entries an image may be of
    entries_at : (q i : ℕ) → q < play.job.times → (mode : Mode) → (n : ℕ) × (n ≤ length history) × IsCountAt play q i mode n
    entries_at q i lt Live =
        let all = history_long times q each (subst (λ (n : ℕ). q < n) (sym as_many) lt) in
        let most = good_most play (i / play.job.renderers) in
        let grows = good_grows (i / play.job.renderers) in
        (entries_before play q + good_before play (i / play.job.renderers), omega (arith, all, most), (omega arith, omega (arith, grows)))
    entries_at q i lt Settled = (entries_before play q + good_count play, history_long times q each (subst (λ (n : ℕ). q < n) (sym as_many) lt), refl)

    image_at : (q i : ℕ) → q < play.job.times → (bytes : List ℕ) × IsImageAt play history q i bytes
    image_at q i lt =
        let found = entries_at q i lt play.job.mode in
        let picture = pictures times found.0 (play_instant play.job i) each in (
          formatted play.fonts play.job.size picture.1.draws (play_instant play.job i) (length (take found.0 history)) (play_form play),
          record {
            n = found.0;
            within = found.1;
            count = found.2;
            image = record {
              draws = picture.1.draws;
              are_draws = picture.1.are_draws;
              value = formatted_image play.fonts play.job.size picture.1.draws (play_instant play.job i) (length (take found.0 history)) (play_form play);
            };
          },
        )

    -- one image more
    one_more : (images : List (List ℕ)) (image : List ℕ) → AreImages play history images → IsImageAt play history (length images / count) (length images % count) image
        → AreImages play history (images ++ image ∷ [])
    one_more images image are is q i d lt within = dite (dec_le (length images) (q * count + i))
        (λ past.
        let long = length-append images (image ∷ []) in
        let place : q * count + i ≡ length images = omega (arith, past, within, long) in
        let end : length images ≡ length images + 0 = omega arith in
        let row : length images / count ≡ q = ap (λ (n : ℕ). n / count) (sym place) ∙ div-mul-add q count i lt in
        let rows : length images / count * count ≡ q * count = ap (λ (n : ℕ). n * count) row in
        let split : length images / count * count + length images % count ≡ length images = div-add-mod' (length images) count in
        let column : length images % count ≡ i = omega (arith, place, rows, split) in
        let value : get_or (images ++ image ∷ []) (q * count + i) d ≡ image = ap (λ (n : ℕ). get_or (images ++ image ∷ []) n d) (place ∙ end) ∙ get_or-append-add images (image ∷ []) 0 d in
        subst (λ (x : List ℕ). IsImageAt play history q i x) (sym value)
        (subst (λ (r : ℕ). IsImageAt play history r i image) row (subst (λ (j : ℕ). IsImageAt play history (length images / count) j image) column is)))
        (λ no.
        let inside : q * count + i < length images = lt_of_not-le no in
        subst (λ (x : List ℕ). IsImageAt play history q i x) (sym (get_or_append_left images (image ∷ []) d (q * count + i) inside)) (are q i d lt inside))

    -- as many as are missing
    more_images : (missing : ℕ) (images : List (List ℕ)) → length images + missing ≡ frame_count play.job → AreImages play history images
        → (new : List (List ℕ)) × (length (images ++ new) ≡ frame_count play.job) × AreImages play history (images ++ new)
    more_images zero images all are =
        let same : images ++ [] ≡ images = append-nil images in
        let long : length (images ++ []) ≡ length images = ap length same in
        ([], omega (arith, all, long), subst (AreImages play history) (sym same) are)
    more_images (suc missing) images all are =
        let split : length images / count * count + length images % count ≡ length images = div-add-mod' (length images) count in
        let few : length images < play.job.times * count = omega (arith, all) in
        let row : length images / count < play.job.times = lt_of_mul-lt-mul_right count {m = length images / count} {n = play.job.times} (omega (arith, split, few)) in
        let image = image_at (length images / count) (length images % count) row in
        let long = length-append images (image.0 ∷ []) in
        let rest = more_images missing (images ++ image.0 ∷ []) (omega (arith, long, all)) (one_more images image.0 are image.1) in
        let same : (images ++ image.0 ∷ []) ++ rest.0 ≡ images ++ (image.0 ∷ rest.0) = append_assoc images (image.0 ∷ []) rest.0 in
        (image.0 ∷ rest.0, ap length (sym same) ∙ rest.1, subst (AreImages play history) same rest.2)

pub front_of_play : (play : PlayView) (bytes : List ℕ) → HavePictures play → IsFrontOfTimes play bytes → (times : List (List Entry)) × (more : List ℕ) × IsShownPlay play times (bytes ++ more)
front_of_play play bytes pictures front =
    let written : List ℕ = flat_map (λ image. image) front.images in
    let few = front.few in
    let missing : (m : ℕ) × (length front.images + m ≡ frame_count play.job) = (frame_count play.job - length front.images, omega (arith, few)) in
    let found = more_images play pictures front.times front.as_many front.each missing.0 front.images missing.1 front.are in
    let rest : List ℕ = flat_map (λ image. image) found.0 in (
      front.times,
      drop front.cut written ++ rest,
      record {
        as_many = front.as_many;
        each = front.each;
        images = front.images ++ found.0;
        all = found.1;
        are = found.2;
        value = ap (λ z. z ++ (drop front.cut written ++ rest)) front.value
            ∙ (sym (append_assoc (take front.cut written) (drop front.cut written) rest)
            ∙ (ap (λ z. z ++ rest) (take-append-drop front.cut written)
            ∙ sym (flat_map-append (λ (image : List ℕ). image) front.images found.0)));
      },
    )
