-- Times one behind another.
use Rattle.std.proofs.Common.{◌≡◌, ℕ, ◌+◌, ◌*◌, ◌/◌, ◌<◌, ◌≤◌, List, [], ◌∷◌, ◌++◌, length, get_or, map, take, refl, sym, ap, subst, ◌∙◌, arith, append_assoc, length-append, add-mul, lt_of_not-le}
use Rattle.std.specs.List.{All, flat_map}
use Rattle.std.proofs.lemmas.Grind.{flat_map-append}
use Rattle.std.proofs.lemmas.List.{get_or-append-add, get_or-map, get_or_append_left, length-map, take-append-le}
use Rattle.std.proofs.lemmas.List.Elements.{All-head, All-tail}
use Rattle.std.proofs.lemmas.Nat.{div-mul-add, mul-le}
use Rattle.std.proofs.Math.Seq.{take-append-add}
use mathlib.Core.Logic.{dite}
use native.Mathlib.Decide.{ℕ_discrete, dec_le}
use Rattle.ass_events.specs.Histories.{Entry, Chunk, Flush, flushes_of, live}
use Rattle.play_shares.specs.Instants.{instant_count, play_instant}
use Rattle.run_words.specs.declared.job.Mode.TheVariants.{Live}
use Rattle.play_model.specs.Images.{IsCountAt, IsImageAt, IsImageOf, IsShownImage, ShownImage, entries_before, needed_by, shown_pieces}
use Rattle.play_model.specs.Outputs.{AreImages, AreShownImages, IsFrontOfPlay}
use Rattle.play_model.specs.Plays.{IsFedTo, IsTimeOf, PlayView, feeder_events, good_before, good_count, history_of_times}
use Rattle.play_model.specs.Times.{AreFirstAt, AreFirstShown, history_before}
use Rattle.play_model.proofs.Counts.{time_long}
use Rattle.play_model.proofs.FeedLaws.{IsChunk, all_chunks, flushes_of_chunks}
use Rattle.play_model.proofs.Labels.{IsInterleaving_all}
use Rattle.track_history.proofs.Histories.{live_after-append, flushes_of-append}

-- ---- histories

pub dead_before : (times : List (List Entry)) → live (history_before times) ≡ []
dead_before [] = refl
dead_before (time ∷ times) = live_after-append [] time (Flush ∷ history_before times) ∙ dead_before times

module _ (play : PlayView) where
  time_unflushed : (time : List Entry) → IsTimeOf play time → flushes_of time ≡ 0
  time_unflushed time is = flushes_of_chunks time (IsInterleaving_all IsChunk play.job.feeders (λ feeder. map Chunk (feeder_events play feeder)) time is (λ f lt. all_chunks (feeder_events play f)))

  pub entries_many : (times : List (List Entry)) → All (IsTimeOf play) times → length (history_before times) ≡ entries_before play (length times)
  entries_many [] all = omega arith
  entries_many (time ∷ times) all =
      let own = time_long play time (All-head (IsTimeOf play) time times all) in
      let rest = entries_many times (All-tail (IsTimeOf play) time times all) in
      let both = length-append time (Flush ∷ history_before times) in
      let one : length times + 1 ≡ length (time ∷ times) = omega arith in
      let row : (length times + 1) * (good_count play + 1) ≡ length times * (good_count play + 1) + 1 * (good_count play + 1) = add-mul (length times) 1 (good_count play + 1) in
      let sum : length (history_before (time ∷ times)) ≡ (length times + 1) * (good_count play + 1) = omega (arith, own, rest, both, row) in
      sum ∙ ap (entries_before play) one

  pub flushes_many : (times : List (List Entry)) → All (IsTimeOf play) times → flushes_of (history_before times) ≡ length times
  flushes_many [] all = refl
  flushes_many (time ∷ times) all =
      let own = time_unflushed time (All-head (IsTimeOf play) time times all) in
      let rest = flushes_many times (All-tail (IsTimeOf play) time times all) in
      let both = flushes_of-append time (Flush ∷ history_before times) in
      omega (arith, own, rest, both)

pub time_more : (times : List (List Entry)) (time : List Entry) → history_of_times (times ++ time ∷ []) ≡ history_before times ++ time
time_more [] time = refl
time_more (first ∷ []) time = sym (append_assoc first (Flush ∷ []) time)
time_more (first ∷ (next ∷ times)) time =
    ap (λ z. first ++ Flush ∷ z) (time_more (next ∷ times) time) ∙ sym (append_assoc first (Flush ∷ history_before (next ∷ times)) time)

pub times_closed : (first : List Entry) (times : List (List Entry)) → history_before (first ∷ times) ≡ history_of_times (first ∷ times) ++ Flush ∷ []
times_closed first [] = refl
times_closed first (next ∷ times) =
    ap (λ z. first ++ Flush ∷ z) (times_closed next times) ∙ sym (append_assoc first (Flush ∷ history_of_times (next ∷ times)) (Flush ∷ []))

-- what comes behind the history of times
times_longer : (times : List (List Entry)) (last : List Entry) → (rest : List Entry) × (history_of_times (times ++ last ∷ []) ≡ history_of_times times ++ rest)
times_longer [] last = (last, refl)
times_longer (first ∷ times) last =
    (Flush ∷ last, time_more (first ∷ times) last ∙ ap (λ z. z ++ last) (times_closed first times) ∙ append_assoc (history_of_times (first ∷ times)) (Flush ∷ []) last)

-- ---- images

pub image_stays : (play : PlayView) (history more : List Entry) (q i : ℕ) (bytes : List ℕ) → IsImageAt play history q i bytes → IsImageAt play (history ++ more) q i bytes
image_stays play history more q i bytes image = record {
  n = image.n;
  within = (let long = length-append history more in let within = image.within in omega (arith, long, within));
  count = image.count;
  image = subst (λ (h : List Entry). IsImageOf play h (play_instant play.job i) bytes) (sym (take-append-le image.n history more image.within)) image.image;
}

pub shown_stays : (play : PlayView) (history more : List Entry) (q i : ℕ) (image : ShownImage) → IsShownImage play history q i image → IsShownImage play (history ++ more) q i image
shown_stays play history more q i image shown =
    let with_masks : (is : IsImageOf play (take shown.is.n (history ++ more)) (play_instant play.job i) image.bytes) × (image.masks ≡ needed_by is) =
    subst (λ (h : List Entry). (is : IsImageOf play h (play_instant play.job i) image.bytes) × (image.masks ≡ needed_by is)) (sym (take-append-le shown.is.n history more shown.is.within))
    (shown.is.image, shown.masks_are) in record {
      is = record {
        n = shown.is.n;
        within = (let long = length-append history more in let within = shown.is.within in omega (arith, long, within));
        count = shown.is.count;
        image = with_masks.0;
      };
      masks_are = with_masks.1;
    }

abbrev no_image : ShownImage
no_image = record { bytes = []; masks = 0 }

-- the bytes of an image at its place
piece_at : (P : List ℕ → Type 0) (images : List ShownImage) (place : ℕ) (d : List ℕ) → place < length (shown_pieces images)
    → (place < length images → P (get_or images place no_image).bytes) → P (get_or (shown_pieces images) place d)
piece_at P images place d within is =
    let inside : place < length images = (let long = length-map images (λ (image : ShownImage). image.bytes) in omega (arith, long, within)) in
    subst P (sym (get_or-map (λ (image : ShownImage). image.bytes) images place no_image d inside)) (is inside)

pub shown_are : (play : PlayView) (history : List Entry) (images : List ShownImage) → AreShownImages play history images → AreImages play history (shown_pieces images)
shown_are play history images are q i d lt within =
    piece_at (IsImageAt play history q i) images (q * instant_count play.job + i) d within (λ inside. (are q i no_image lt inside).is)

pub first_shown_are : (play : PlayView) (history : List Entry) (q : ℕ) (images : List ShownImage) → AreFirstShown play history q images → AreFirstAt play history q (shown_pieces images)
first_shown_are play history q images are i d within = piece_at (IsImageAt play history q i) images i d within (λ inside. (are i no_image inside).is)

-- of places counted by rows the rows are the times
row_below : (q i w m : ℕ) → i < w → q * w + i < m * w → q < m
row_below q i w m lt within = lt_of_not-le (λ le. let rows : m * w ≤ q * w = mul-le m w q w le (omega arith) in absurd (omega (arith, rows, within)))

row_is : (q i w m k : ℕ) → i < w → m * w ≤ q * w + i → q * w + i < m * w + k → k ≤ w → q ≡ m
row_is q i w m k lt low high few = dite (ℕ_discrete q m) (λ is. is) (λ ne. dite (dec_le (q + 1) m)
    (λ less. let rows : (q + 1) * w ≤ m * w = mul-le (q + 1) w m w less (omega arith) in let row = add-mul q 1 w in absurd (omega (arith, rows, row, low, lt)))
    (λ no. let rows : (m + 1) * w ≤ q * w = mul-le (m + 1) w q w (omega (arith, no, ne)) (omega arith) in let row = add-mul m 1 w in absurd (omega (arith, rows, row, high, few))))

-- What holds of the images of whole times, and of those of the first places of the next, holds of all of them, if it stays whatever comes behind the history.
module _ {X : Type 0} (P : List Entry → ℕ → ℕ → X → Type 0) (stays : (history more : List Entry) (q i : ℕ) (x : X) → P history q i x → P (history ++ more) q i x)
    (count : ℕ) (times : List (List Entry)) (last : List Entry) (images next : List X)
    (are : (q i : ℕ) (d : X) → i < count → q * count + i < length images → P (history_of_times times) q i (get_or images (q * count + i) d)) (all : length images ≡ length times * count)
    (firsts : (i : ℕ) (d : X) → i < length next → P (history_before times ++ last) (length times) i (get_or next i d)) (few : length next ≤ count) where
  -- an image of an earlier time
  earlier : (q i : ℕ) (d : X) → i < count → q * count + i < length images → P (history_of_times (times ++ last ∷ [])) q i (get_or (images ++ next) (q * count + i) d)
  earlier q i d lt within =
      let longer = times_longer times last in
      subst (λ (x : X). P (history_of_times (times ++ last ∷ [])) q i x) (sym (get_or_append_left images next d (q * count + i) within))
      (subst (λ (h : List Entry). P h q i (get_or images (q * count + i) d)) (sym longer.1)
      (stays (history_of_times times) longer.0 q i (get_or images (q * count + i) d) (are q i d lt within)))

  -- one of the last time
  own : (i : ℕ) (d : X) → i < length next → P (history_of_times (times ++ last ∷ [])) (length times) i (get_or (images ++ next) (length times * count + i) d)
  own i d lt =
      subst (λ (n : ℕ). P (history_of_times (times ++ last ∷ [])) (length times) i (get_or (images ++ next) (n + i) d)) all
      (subst (λ (x : X). P (history_of_times (times ++ last ∷ [])) (length times) i x) (sym (get_or-append-add images next i d))
      (subst (λ (h : List Entry). P h (length times) i (get_or next i d)) (sym (time_more times last)) (firsts i d lt)))

  later : (q i : ℕ) (d : X) → q ≡ length times → i < length next → P (history_of_times (times ++ last ∷ [])) q i (get_or (images ++ next) (q * count + i) d)
  later q i d is lt = subst (λ (q : ℕ). P (history_of_times (times ++ last ∷ [])) q i (get_or (images ++ next) (q * count + i) d)) (sym is) (own i d lt)

  all_follow : (q i : ℕ) (d : X) → i < count → q * count + i < length (images ++ next) → P (history_of_times (times ++ last ∷ [])) q i (get_or (images ++ next) (q * count + i) d)
  all_follow q i d lt within = dite (dec_le (length images) (q * count + i))
      (λ past.
      let long = length-append images next in
      let is : q ≡ length times = row_is q i count (length times) (length next) lt (omega (arith, past, all)) (omega (arith, within, long, all)) few in
      let same : q * count ≡ length times * count = ap (λ (m : ℕ). m * count) is in
      later q i d is (omega (arith, within, long, all, same)))
      (λ no. earlier q i d lt (lt_of_not-le no))

module _ (play : PlayView) (times : List (List Entry)) (last : List Entry) (images next : List (List ℕ))
    (are : AreImages play (history_of_times times) images) (all : length images ≡ length times * instant_count play.job)
    (firsts : AreFirstAt play (history_before times ++ last) (length times) next) (few : length next ≤ instant_count play.job) where
  abbrev count : ℕ
  count = instant_count play.job

  pub images_follow : AreImages play (history_of_times (times ++ last ∷ [])) (images ++ next)
  images_follow = all_follow (IsImageAt play) (image_stays play) count times last images next are all firsts few

  pub stopped_front : (rounds cut : ℕ) → All (IsTimeOf play) times → length times < play.job.times → IsFedTo play rounds last
      → IsFrontOfPlay play (flat_map (λ image. image) images ++ take cut (flat_map (λ image. image) next))
  stopped_front rounds cut each fewer fed =
      let written : List ℕ = flat_map (λ image. image) images in
      let long = length-append images next in
      let row = add-mul (length times) 1 count in
      let rows : (length times + 1) * count ≤ play.job.times * count = mul-le (length times + 1) count play.job.times count (omega (arith, fewer)) (omega arith) in
      record {
        history = history_of_times (times ++ last ∷ []);
        so_far = record { times = times; few = fewer; each = each; rounds = rounds; last = last; fed = fed; value = refl };
        images = images ++ next;
        few = omega (arith, long, all, few, row, rows);
        are = images_follow;
        cut = length written + cut;
        value = sym (ap (take (length written + cut)) (flat_map-append (λ (image : List ℕ). image) images next)
            ∙ take-append-add written (flat_map (λ image. image) next) cut);
      }

pub shown_follow : (play : PlayView) (times : List (List Entry)) (last : List Entry) (images next : List ShownImage)
    → AreShownImages play (history_of_times times) images → length images ≡ length times * instant_count play.job
    → AreFirstShown play (history_before times ++ last) (length times) next → length next ≤ instant_count play.job
    → AreShownImages play (history_of_times (times ++ last ∷ [])) (images ++ next)
shown_follow play times last images next are all firsts few = all_follow (IsShownImage play) (shown_stays play) (instant_count play.job) times last images next are all firsts few

pub round_count : (play : PlayView) (q round renderer n : ℕ) → renderer < play.job.renderers
    → entries_before play q + good_before play round ≤ n → n ≤ entries_before play q + good_before play (round + 1)
    → IsCountAt play q (round * play.job.renderers + renderer) Live n
round_count play q round renderer n lt least most =
    let is : round ≡ (round * play.job.renderers + renderer) / play.job.renderers = sym (div-mul-add round play.job.renderers renderer lt) in
    (subst (λ (r : ℕ). entries_before play q + good_before play r ≤ n) is least, subst (λ (r : ℕ). n ≤ entries_before play q + good_before play (r + 1)) is most)
