-- What a settled play wrote before it ended early is a prefix of what each whole one of the same files puts.
use Rattle.std.proofs.Common.{◌≡◌, ◌∙◌, ℕ, ◌+◌, ◌*◌, ◌/◌, ◌%◌, ◌<◌, List, ◌++◌, length, take, drop, sym, ap, subst, arith, append_assoc, length-append}
use Rattle.std.specs.List.{All, flat_map, slice_index_or}
use Rattle.std.proofs.lemmas.Grind.{flat_map-append}
use Rattle.std.proofs.lemmas.List.{get_or-take, length-take-le, same_lists, take-append-drop}
use Rattle.std.proofs.lemmas.Nat.{div-add-mod', mod_below}
use Rattle.std.proofs.Math.Nat.{lt_of_mul-lt-mul_right}
use Rattle.std.proofs.Math.Seq.{take-append_seam}
use Rattle.ass_events.specs.Histories.{Entry, live}
use Rattle.frame_view.specs.FrameViews.{plain_frame}
use Rattle.picture_plan.proofs.DrawLaws.{draws_of_a_set}
use Rattle.play_laws.proofs.AgreementLemmas.{Law, at_place, moved, one_image, positive, same_count, same_frames}
use Rattle.play_laws.specs.Agreement.{PlayAlike}
use Rattle.play_laws.specs.Fronts.{IsFrontOfTimes}
use Rattle.play_model.proofs.Counts.{good_is, time_long}
use Rattle.play_model.proofs.SettledLaws.{whole_time}
use Rattle.play_model.proofs.TimeLaws.{TimeAt, settled_image, time_at}
use Rattle.play_model.specs.Images.{IsCountAt, IsImageAt, IsImageIn, IsImageOf, IsSettledImage, play_form}
use Rattle.play_model.specs.Outputs.{IsShownPlay}
use Rattle.play_model.specs.Plays.{IsPlayable, IsTimeOf, PlayView, good_count, history_of_times}
use Rattle.play_shares.specs.Instants.{frame_count, instant_count, play_instant}
use Rattle.run_words.specs.declared.job.Mode.{Mode}
use Rattle.run_words.specs.declared.job.Mode.TheVariants.{Settled}
use Rattle.ass_events.specs.ScriptEvents.{line_events}

-- ---- one image

module _ (play : PlayView) (playable : IsPlayable play) (settled : play.job.mode ≡ Settled) (times : List (List Entry)) (as_many : length times ≡ play.job.times) (each : All (IsTimeOf play) times)
    (q i : ℕ) (few : q < play.job.times) (piece : List ℕ) (image : IsImageAt play (history_of_times times) q i piece) where
  some : 0 < play.job.feeders
  some = let least = playable.job.feeders.0 in omega (arith, least)

  own : TimeAt (IsTimeOf play) (good_count play) q (history_of_times times)
  own = time_at (IsTimeOf play) (good_count play) (time_long play) times q each (omega (arith, few, as_many))

  abbrev until : List Entry
  until = own.old ++ own.time

  until_long : length until ≡ q * (good_count play + 1) + good_count play
  until_long =
      let parts = length-append own.old own.time in
      let behind = own.behind in
      let time : length own.time ≡ good_count play = time_long play own.time own.holds in
      omega (arith, parts, behind, time)

  shows_all : take image.n (history_of_times times) ≡ until
  shows_all =
      let counted : image.n ≡ q * (good_count play + 1) + good_count play = subst (λ (m : Mode). IsCountAt play q i m image.n) settled image.count in
      ap (λ (n : ℕ). take n (history_of_times times)) (counted ∙ sym until_long) ∙ ap (take (length until)) own.is ∙ take-append_seam until own.rest

  of_all : IsImageOf play until (play_instant play.job i) piece
  of_all = subst (λ (h : List Entry). IsImageOf play h (play_instant play.job i) piece) shows_all image.image

  settled_at : IsSettledImage play q i piece
  settled_at = record {
    draws = of_all.draws;
    are_draws = draws_of_a_set play.script play.fonts (live until) (line_events play.script) (play_instant play.job i) (plain_frame play.job.size) of_all.draws
        (whole_time play own.old own.time some own.dead own.holds) of_all.are_draws;
    value = subst (λ (n : ℕ). IsImageIn (play_form play) play.fonts play.job.size of_all.draws (play_instant play.job i) n piece) (until_long ∙ ap (λ n. q * (n + 1) + n) (good_is play some)) of_all.value;
  }

-- ---- all of them

module _ (law : Law) (one other : PlayView) (playable : IsPlayable one) (fits : IsPlayable other) (alike : PlayAlike one other) (settled : one.job.mode ≡ Settled) (too : other.job.mode ≡ Settled)
    (front bytes : List ℕ) (early : IsFrontOfTimes one front) (more : List (List Entry)) (seen : IsShownPlay other more bytes) where
  abbrev count : ℕ
  count = instant_count one.job

  abbrev many : ℕ
  many = length early.images

  same_at : (q i k : ℕ) (d : List ℕ) → q * count + i ≡ k → i < count → q < one.job.times → k < many → slice_index_or early.images k d ≡ slice_index_or seen.images k d
  same_at q i k d split small few lt =
      let same = same_count one other alike in
      let place : q * instant_count other.job + i ≡ k = ap (λ c. q * c + i) (sym same) ∙ split in
      let inside : q * count + i < many = omega (arith, split, lt) in
      let x = subst (λ p. IsSettledImage one q i (slice_index_or early.images p d)) split
      (settled_at one playable settled early.times early.as_many early.each q i few (slice_index_or early.images (q * count + i) d) (early.are q i d small inside)) in
      let y = subst (λ p. IsSettledImage other q i (slice_index_or seen.images p d)) place
      (settled_image other more bytes fits too seen q i d (subst (λ c. i < c) same small) (subst (λ t. q < t) alike.jobs.times few)) in
      one_image law one.script one.fonts one.job.size (play_form one) (play_instant one.job i) q _ _ playable.script (at_place one q i _ x) (moved one other alike q i _ (at_place other q i _ y))

  same_image : (k : ℕ) (d : List ℕ) → k < many → slice_index_or early.images k d ≡ slice_index_or seen.images k d
  same_image k d lt =
      let split : k / count * count + k % count ≡ k = div-add-mod' k count in
      let few = early.few in
      let inside : k < one.job.times * count = omega (arith, few, lt) in
      same_at (k / count) (k % count) k d split (mod_below k count (positive one.job.times count k inside))
      (lt_of_mul-lt-mul_right count {m = k / count} {n = one.job.times} (omega (arith, split, inside))) lt

  first_images : early.images ≡ take many seen.images
  first_images =
      let few = early.few in
      let all : length seen.images ≡ frame_count one.job = seen.all ∙ sym (same_frames one other alike) in
      same_lists early.images (take many seen.images) (sym (length-take-le many seen.images (omega (arith, few, all))))
      (λ k d lt. same_image k d lt ∙ sym (get_or-take many seen.images k d lt))

  pub fronts_agree : (rest : List ℕ) × (bytes ≡ front ++ rest)
  fronts_agree =
      let written : List ℕ = flat_map (λ image. image) early.images in
      let behind : List ℕ = flat_map (λ image. image) (drop many seen.images) in (
        drop early.cut written ++ behind,
        seen.value
            ∙ ap (flat_map (λ (image : List ℕ). image)) (sym (take-append-drop many seen.images))
            ∙ flat_map-append (λ (image : List ℕ). image) (take many seen.images) (drop many seen.images)
            ∙ ap (λ (images : List (List ℕ)). flat_map (λ image. image) images ++ behind) (sym first_images)
            ∙ ap (λ (z : List ℕ). z ++ behind) (sym (take-append-drop early.cut written))
            ∙ append_assoc (take early.cut written) (drop early.cut written) behind
            ∙ ap (λ (z : List ℕ). z ++ (drop early.cut written ++ behind)) (sym early.value),
      )
