-- Public: times one behind another, and their images.
use Rattle.std.specs.Prelude.{◌≡◌, ℕ, ◌+◌, ◌*◌, ◌<◌, ◌≤◌, List, [], ◌∷◌, ◌++◌, length, take, All, slice_index_or}
use Rattle.std.specs.List.{flat_map}
use Rattle.ass_events.specs.Histories.{Entry, Flush, flushes_of, live}
use Rattle.play_shares.specs.Instants.{instant_count}
use Rattle.run_words.specs.declared.job.Mode.TheVariants.{Live}
use Rattle.play_model.specs.Images.{IsCountAt, IsImageAt, IsShownImage, ShownImage, entries_before, shown_pieces}
use Rattle.play_model.specs.Outputs.{AreImages, AreShownImages, IsFrontOfPlay}
use Rattle.play_model.specs.Plays.{IsFedTo, IsTimeOf, PlayView, good_before, history_of_times}

-- what stands before the time that comes behind these
abbrev pub history_before : List (List Entry) → List Entry
history_before [] = []
history_before (time ∷ times) = time ++ Flush ∷ history_before times

-- Nothing of it is live, and it has as many entries as so many times, and as many flushes as there are times.
abbrev pub TimesEndInFlushes : Type 0
TimesEndInFlushes =
    (play : PlayView) (times : List (List Entry)) → All (IsTimeOf play) times
    → (live (history_before times) ≡ []) × (length (history_before times) ≡ entries_before play (length times)) × (flushes_of (history_before times) ≡ length times)

-- A time more stands behind it. Where there were times, it is their history and a flush.
abbrev pub TimesFollow : Type 0
TimesFollow =
    (first : List Entry) (times : List (List Entry)) (time : List Entry)
    → (history_of_times (times ++ time ∷ []) ≡ history_before times ++ time) × (history_before (first ∷ times) ≡ history_of_times (first ∷ times) ++ Flush ∷ [])

-- An image is that of its time, whatever comes behind the history.
abbrev pub ImagesStay : Type 0
ImagesStay = (play : PlayView) (history more : List Entry) (q i : ℕ) (bytes : List ℕ) → IsImageAt play history q i bytes → IsImageAt play (history ++ more) q i bytes

-- these are images of the first places of time q, one for each
abbrev pub AreFirstAt : PlayView → List Entry → ℕ → List (List ℕ) → Type 0
AreFirstAt play history q images = (i : ℕ) (d : List ℕ) → i < length images → IsImageAt play history q i (slice_index_or images i d)

-- The images of whole times, and behind them those of the first places of the next.
abbrev pub ImagesFollow : Type 0
ImagesFollow =
    (play : PlayView) (times : List (List Entry)) (last : List Entry) (images next : List (List ℕ))
    → AreImages play (history_of_times times) images → length images ≡ length times * instant_count play.job
    → AreFirstAt play (history_before times ++ last) (length times) next → length next ≤ instant_count play.job
    → AreImages play (history_of_times (times ++ last ∷ [])) (images ++ next)

-- ---- images with the numbers of their composed masks

-- Such an image is that of its time, whatever comes behind the history.
abbrev pub ShownImagesStay : Type 0
ShownImagesStay = (play : PlayView) (history more : List Entry) (q i : ℕ) (image : ShownImage) → IsShownImage play history q i image → IsShownImage play (history ++ more) q i image

-- these are images of the first places of time q, one for each
abbrev pub AreFirstShown : PlayView → List Entry → ℕ → List ShownImage → Type 0
AreFirstShown play history q images = (i : ℕ) (d : ShownImage) → i < length images → IsShownImage play history q i (slice_index_or images i d)

-- Those of whole times, and behind them those of the first places of the next.
abbrev pub ShownImagesFollow : Type 0
ShownImagesFollow =
    (play : PlayView) (times : List (List Entry)) (last : List Entry) (images next : List ShownImage)
    → AreShownImages play (history_of_times times) images → length images ≡ length times * instant_count play.job
    → AreFirstShown play (history_before times ++ last) (length times) next → length next ≤ instant_count play.job
    → AreShownImages play (history_of_times (times ++ last ∷ [])) (images ++ next)

-- Their bytes are images.
abbrev pub ShownImagesAreImages : Type 0
ShownImagesAreImages = (play : PlayView) (history : List Entry) (images : List ShownImage) → AreShownImages play history images → AreImages play history (shown_pieces images)

-- ---- how a time ends

-- What was written before a play stopped in a time.
abbrev pub StoppedTimesAreFronts : Type 0
StoppedTimesAreFronts =
    (play : PlayView) (times : List (List Entry)) (last : List Entry) (rounds cut : ℕ) (images next : List (List ℕ))
    → All (IsTimeOf play) times → length times < play.job.times → IsFedTo play rounds last
    → AreImages play (history_of_times times) images → length images ≡ length times * instant_count play.job
    → AreFirstAt play (history_before times ++ last) (length times) next → length next ≤ instant_count play.job
    → IsFrontOfPlay play (flat_map (λ image. image) images ++ take cut (flat_map (λ image. image) next))

-- The image of a renderer in a round: live, of at least as many entries as were fed before the round, and of at most as many as in it too.
abbrev pub RoundsBoundImages : Type 0
RoundsBoundImages =
    (play : PlayView) (q round renderer n : ℕ) → renderer < play.job.renderers
    → entries_before play q + good_before play round ≤ n → n ≤ entries_before play q + good_before play (round + 1)
    → IsCountAt play q (round * play.job.renderers + renderer) Live n
