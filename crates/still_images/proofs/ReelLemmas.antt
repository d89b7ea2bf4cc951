-- From instant to instant.
use Rattle.std.proofs.Common.{◌≡◌, ◌⊎◌, inl, inr, ℕ, ◌+◌, ◌<◌, List, [], ◌∷◌, ◌++◌, length, Option, Some, None, Result, Ok, Err, pos, refl, sym, ap, subst, ◌∙◌, arith, append-nil}
use Rattle.std.specs.Prelude.{IfErr, IfSome, OnOk}
use Rattle.std.proofs.lemmas.List.{map-append}
use Rattle.ass_events.specs.ScriptEvents.{line_events}
use Rattle.ass_io.specs.Sinks.{SinkState}
use Rattle.frame_change.specs.declared.pixels.Changed.{Changed}
use Rattle.frame_rate.specs.Instants.{rated_instant}
use Rattle.frame_view.specs.FrameViews.{plain_frame}
use Rattle.picture_plan.specs.Pictures.{AreDraws}
use Rattle.run_words.specs.declared.job.StillsJob.{StillsJob}
use Rattle.still_images.specs.Boxes.{HasPixels, IsBoxOfPixels, whole_box}
use Rattle.still_images.specs.Formats.{ArePixelsOf, pixel_bytes}
use Rattle.still_images.specs.Puts.{GotPrefix, GotWhole, IsListedWhole, IsShownInPart, IsShownWhole}
use Rattle.still_images.specs.Reels.{EndsInInstant, IsNewlyDrawn, IsPartAfter, IsPictureCut, IsPictureAdded, IsReel, IsReelFit, IsShownLast, ShowsInstant, entries_of_part, images_of_part}
use Rattle.still_images.specs.Stills.{AreDrawsAt, AreFirstStills, ArePixelsAt, AreStills, FirstStill, NextStill, NoStill, SameStill, Still, StillsView, end_instant, still_entries, still_entry, still_image, still_images, still_of}
use Rattle.still_lists.specs.TextIndexes.{words_index}
use Rattle.still_lists.specs.declared.entry.StillEntry.{StillEntry}
use Rattle.still_images.specs.declared.fault.StillsFault.{StillsFault}
use Rattle.still_images.specs.declared.fault.StillsFault.TheVariants.{OutOfMemory}
use Rattle.still_images.specs.declared.reel.Reel.{Reel}
use Rattle.still_images.specs.declared.reel.Shown.{Shown}
use Rattle.still_images.proofs.PutLemmas.{begun_then, got_then, nothing_begun, nothing_got, whole_begun}

pub images_append : (view : StillsView) (xs ys : List Still) → still_images view (xs ++ ys) ≡ still_images view xs ++ still_images view ys
images_append view xs ys = map-append (still_image view) xs ys

entries_append : (view : StillsView) (xs ys : List Still) → still_entries view (xs ++ ys) ≡ still_entries view xs ++ still_entries view ys
entries_append view xs ys = map-append (still_entry view) xs ys

none_before : (before : List Still) (last : Still) → before ++ last ∷ [] ≡ [] → ⊥
none_before [] last e = cc
none_before (x ∷ before) last e = cc

-- Before the first picture there is no instant.
none_yet : (view : StillsView) (place : ℕ) (stills : List Still) → AreStills view place stills → stills ≡ [] → place ≡ 0
none_yet view _ _ NoStill none = refl
none_yet view _ _ (FirstStill pixels at) none = absurd cc
none_yet view _ _ (SameStill place before last old at) none = absurd (none_before before last none)
none_yet view _ _ (NextStill place before last box pixels old at least) none = absurd (none_before (before ++ last ∷ []) (still_of place box pixels) none)

-- what is kept of a picture
abbrev pub stills_of_part : ℕ → List ℕ → Option Changed → List Still
stills_of_part place pixels None = []
stills_of_part place pixels (Some box) = still_of place box pixels ∷ []

module _ (view : StillsView) (place : ℕ) (pixels : List ℕ) where
  part_images : (part : Option Changed) → still_images view (stills_of_part place pixels part) ≡ images_of_part view.job pixels (rated_instant view.job.instants place) (length (line_events view.script)) part
  part_images None = refl
  part_images (Some box) = refl

  part_entries : (part : Option Changed) → still_entries view (stills_of_part place pixels part) ≡ entries_of_part place (rated_instant view.job.instants place) part
  part_entries None = refl
  part_entries (Some box) = refl

  -- what is kept behind a picture
  are_after : (stills : List Still) (before : List Still) (last : Still) (part : Option Changed) → stills ≡ before ++ last ∷ [] → AreStills view place stills → ArePixelsAt view place pixels →
      IsBoxOfPixels (pixel_bytes view.job.format) view.job.size last.pixels pixels part → AreStills view (place + 1) (stills ++ stills_of_part place pixels part)
  are_after stills before last None split are at same =
      let now : ArePixelsAt view place last.pixels = subst (ArePixelsAt view place) (sym same) at in
      subst (AreStills view (place + 1)) (sym (append-nil stills ∙ split)) (SameStill place before last (subst (AreStills view place) split are) now)
  are_after stills before last (Some box) split are at least =
      subst (λ xs. AreStills view (place + 1) (xs ++ still_of place box pixels ∷ [])) (sym split)
      (NextStill place before last box pixels (subst (AreStills view place) split are) at least)

  are_first : (stills : List Still) (part : Option Changed) → stills ≡ [] → AreStills view place stills → ArePixelsAt view place pixels → part ≡ Some (whole_box view.job.size) →
      AreStills view (place + 1) (stills ++ stills_of_part place pixels part)
  are_first stills part none are at whole =
      let start = none_yet view place stills are none in
      let first : ArePixelsAt view 0 pixels = subst (λ p. ArePixelsAt view p pixels) start at in
      subst (λ (o : Option Changed). AreStills view (place + 1) (stills ++ stills_of_part place pixels o)) (sym whole)
      (subst (λ xs. AreStills view (place + 1) (xs ++ still_of place (whole_box view.job.size) pixels ∷ [])) (sym none)
      (subst (λ p. AreStills view (p + 1) (still_of p (whole_box view.job.size) pixels ∷ [])) (sym start) (FirstStill pixels first)))

  are_next : (stills : List Still) (shown : Option Shown) (part : Option Changed) → AreStills view place stills → IsShownLast view stills shown → ArePixelsAt view place pixels →
      IsPartAfter view.job shown pixels part → AreStills view (place + 1) (stills ++ stills_of_part place pixels part)
  are_next stills None part are none at is = are_first stills part none are at is
  are_next stills (Some last) part are (before, still, split, same, drawn) at is =
      are_after stills before still part split are at (subst (λ (bytes : List ℕ). IsBoxOfPixels (pixel_bytes view.job.format) view.job.size bytes pixels part) (sym same) is)

  -- What is shown then is the last one kept.
  last_after : (stills : List Still) (old : Option Shown) (shown : Shown) (part : Option Changed) → IsShownLast view stills old → shown.pixels.items ≡ pixels → IsPartAfter view.job old pixels part →
      ArePixelsOf view.job.format view.fonts view.job.size shown.plan.draws shown.pixels.items → IsShownLast view (stills ++ stills_of_part place pixels part) (Some shown)
  last_after stills None shown None h own is drawn = absurd cc
  last_after stills old shown (Some box) h own is drawn = (stills, still_of place box pixels, refl, sym own, drawn)
  last_after stills (Some last) shown None (before, still, split, same, old_drawn) own is drawn =
      (before, still, append-nil stills ∙ split, same ∙ (is ∙ sym own), drawn)

module _ (view : StillsView) (place : ℕ) (shown : Shown) (draws : AreDrawsAt view place shown.plan.draws)
    (drawn : ArePixelsOf view.job.format view.fonts view.job.size shown.plan.draws shown.pixels.items) (before now : SinkState) where
  pixels_at : ArePixelsAt view place shown.pixels.items
  pixels_at = record { draws = shown.plan.draws; are_draws = draws; are_pixels = drawn }

  pub shown_next : (n t : ℕ) (old new : Reel) → n ≡ length (line_events view.script) → t ≡ rated_instant view.job.instants place →
      IsPictureAdded view.job n place t shown old new before now → ShowsInstant view place old new before now
  shown_next n t old new events at h stills reel =
      let next = stills_of_part place shown.pixels.items h.part in
      let listed : still_entries view next ≡ entries_of_part place t h.part =
      part_entries view place shown.pixels.items h.part ∙ ap (λ u. entries_of_part place u h.part) (sym at) in
      let images : images_of_part view.job shown.pixels.items t n h.part ≡ still_images view next =
      ap (λ u. images_of_part view.job shown.pixels.items u n h.part) at
      ∙ (ap (λ m. images_of_part view.job shown.pixels.items (rated_instant view.job.instants place) m h.part) events ∙ sym (part_images view place shown.pixels.items h.part)) in (
        next,
        record {
          are = are_next view place shown.pixels.items stills old.shown h.part reel.are reel.shown pixels_at h.is_part;
          index = h.index ∙ (ap (λ (z : List StillEntry). z ++ entries_of_part place t h.part) reel.index ∙ (ap (λ (z : List StillEntry). still_entries view stills ++ z) (sym listed) ∙ sym (entries_append view stills next)));
          shown = subst (IsShownLast view (stills ++ next)) (sym h.shown_is)
              (last_after view place shown.pixels.items stills old.shown shown h.part reel.shown refl h.is_part drawn);
        },
        subst (λ pieces. GotWhole pieces before now) images h.got,
      )

  pub cut_next : (n t : ℕ) (old : Reel) (fault : StillsFault) → n ≡ length (line_events view.script) → t ≡ rated_instant view.job.instants place → place < view.job.instants.count →
      IsPictureCut view.job n t shown old fault before now → EndsInInstant view place old fault before now
  cut_next n t old fault events at within h stills reel = ends h.got
    where
      next : List Still
      next = stills_of_part place shown.pixels.items h.part

      images : images_of_part view.job shown.pixels.items t n h.part ≡ still_images view next
      images = ap (λ u. images_of_part view.job shown.pixels.items u n h.part) at
          ∙ (ap (λ m. images_of_part view.job shown.pixels.items (rated_instant view.job.instants place) m h.part) events ∙ sym (part_images view place shown.pixels.items h.part))

      ends : GotPrefix fault [] before now ⊎ GotPrefix fault (images_of_part view.job shown.pixels.items t n h.part) before now →
          (more : List Still) × AreFirstStills view (stills ++ more) × GotPrefix fault (still_images view more) before now
      ends (inl none) = ([], (place, omega (arith, within), subst (AreStills view place) (sym (append-nil stills)) reel.are), none)
      ends (inr some) = (
        next,
        (place + 1, omega (arith, within), are_next view place shown.pixels.items stills old.shown h.part reel.are reel.shown pixels_at h.is_part),
        subst (λ pieces. GotPrefix fault pieces before now) images some,
      )

module _ (view : StillsView) (place : ℕ) (state : SinkState) where
  -- Where the draws are those that are shown, nothing is put.
  pub same_next : (reel : Reel) (last : Shown) → reel.shown ≡ Some last → AreDrawsAt view place last.plan.draws → ShowsInstant view place reel reel state state
  same_next reel last is at stills h = keeps (subst (IsShownLast view stills) is h.shown)
    where
      keeps : IsShownLast view stills (Some last) → (next : List Still) × IsReel view (place + 1) (stills ++ next) reel × GotWhole (still_images view next) state state
      keeps (before, still, split, pixels, drawn) =
          let now : ArePixelsAt view place still.pixels = record {
            draws = last.plan.draws;
            are_draws = at;
            are_pixels = subst (ArePixelsOf view.job.format view.fonts view.job.size last.plan.draws) (sym pixels) drawn;
          } in
          let all : stills ++ [] ≡ stills = append-nil stills in (
            [],
            record {
              are = subst (AreStills view (place + 1)) (sym (all ∙ split)) (SameStill place before still (subst (AreStills view place) split h.are) now);
              index = h.index ∙ ap (still_entries view) (sym all);
              shown = subst (λ xs. IsShownLast view xs reel.shown) (sym all) h.shown;
            },
            nothing_got state state,
          )

  -- Where memory runs out before anything is put, what was kept is so.
  pub wants_next : (reel : Reel) → place < view.job.instants.count → EndsInInstant view place reel OutOfMemory state state
  wants_next reel within stills h = ([], (place, omega (arith, within), subst (AreStills view place) (sym (append-nil stills)) h.are), nothing_begun state state)

-- ---- all instants

-- what is kept so far, and was put
abbrev pub IsShownSoFar : StillsView → ℕ → Reel → SinkState → SinkState → Type 0
IsShownSoFar view place reel first now = (stills : List Still) × IsReel view place stills reel × GotWhole (still_images view stills) first now

pub shown_more : (view : StillsView) (place : ℕ) (old new : Reel) (first before now : SinkState) → IsShownSoFar view place old first before → ShowsInstant view place old new before now →
    IsShownSoFar view (place + 1) new first now
shown_more view place old new first before now (stills, reel, got) step =
    let more = step stills reel in (
      stills ++ more.0,
      more.1,
      subst (λ pieces. GotWhole pieces first now) (sym (images_append view stills more.0)) (got_then first before now (still_images view stills) (still_images view more.0) got more.2),
    )

pub ends_more : (view : StillsView) (place : ℕ) (old : Reel) (fault : StillsFault) (first before now : SinkState) → IsShownSoFar view place old first before → EndsInInstant view place old fault before now →
    (stills : List Still) × AreFirstStills view stills × GotPrefix fault (still_images view stills) first now
ends_more view place old fault first before now (stills, reel, got) step =
    let more = step stills reel in (
      stills ++ more.0,
      more.1,
      subst (λ pieces. GotPrefix fault pieces first now) (sym (images_append view stills more.0)) (begun_then first before now fault (still_images view stills) (still_images view more.0) got more.2),
    )

-- With no instant shown nothing is kept.
pub none_yet_shown : (view : StillsView) (index : List StillEntry) (state : SinkState) → index ≡ [] → IsShownSoFar view 0 (record { shown = None; index = index }) state state
none_yet_shown view index state empty = ([], record { are = NoStill; index = empty; shown = refl }, nothing_got state state)

pub none_shown : (view : StillsView) (state : SinkState) → IsShownInPart view OutOfMemory state state
none_shown view state = record { stills = []; are = (0, omega arith, NoStill); got = nothing_begun state state }

-- at the end of all instants
pub all_listed : (view : StillsView) (reel : Reel) (first now : SinkState) → IsShownSoFar view view.job.instants.count reel first now → IsListedWhole view reel.index first now
all_listed view reel first now (stills, so_far, got) = record { stills = stills; are = so_far.are; got = got; value = so_far.index }

pub some_shown : (view : StillsView) (place : ℕ) (old : Reel) (fault : StillsFault) (first before now : SinkState) → IsShownSoFar view place old first before → EndsInInstant view place old fault before now →
    IsShownInPart view fault first now
some_shown view place old fault first before now so_far step =
    let h = ends_more view place old fault first before now so_far step in
    record { stills = h.0; are = h.1; got = h.2 }

-- ---- what an instant comes to

pub drawn_at : (view : StillsView) (place t : ℕ) (last : Option Shown) (shown : Shown) → t ≡ rated_instant view.job.instants place → IsNewlyDrawn view t last (Some shown) → AreDrawsAt view place shown.plan.draws
drawn_at view place t last shown at h = subst (λ n. AreDraws view.script view.fonts (line_events view.script) (pos n) (plain_frame view.job.size) shown.plan.draws) at h.0

pub kept_next : (view : StillsView) (place t : ℕ) (reel : Reel) (state : SinkState) → t ≡ rated_instant view.job.instants place → IsNewlyDrawn view t reel.shown None → ShowsInstant view place reel reel state state
kept_next view place t reel state at (last, is, draws) =
    same_next view place state reel last is (subst (λ n. AreDraws view.script view.fonts (line_events view.script) (pos n) (plain_frame view.job.size) last.plan.draws) at draws)

pub fit_next : (job : StillsJob) (n place t : ℕ) (shown : Shown) (old new : Reel) (before now : SinkState) → HasPixels (pixel_bytes job.format) job.size shown.pixels.items →
    IsPictureAdded job n place t shown old new before now → IsReelFit job new
fit_next job n place t shown old new before now pixels h =
    subst (λ (o : Option Shown). IfSome o (λ last. HasPixels (pixel_bytes job.format) job.size last.pixels.items)) (sym h.shown_is) pixels

-- ---- answers

pub on_ok : {A E : Type 0} (r : Result A E) (P Q : Type 0) → (P → Q) → OnOk r P → OnOk r Q
on_ok (Ok a) P Q more h = more h
on_ok (Err e) P Q more h = h

pub on_err : {A E : Type 0} (r : Result A E) (P Q : E → Type 0) → ((e : E) → P e → Q e) → IfErr r P → IfErr r Q
on_err (Ok a) P Q more h = h
on_err (Err e) P Q more h = more e h

-- ---- the index of a list

pub with_index : (view : StillsView) (entries : List StillEntry) (text : List ℕ) (first now : SinkState) → IsListedWhole view entries first now →
    text ≡ words_index entries view.job.instants.count (end_instant view.job.instants) → IsShownWhole view text first now
with_index view entries text first now listed is = record {
  stills = listed.stills;
  are = listed.are;
  got = listed.got;
  value = is ∙ ap (λ (z : List StillEntry). words_index z view.job.instants.count (end_instant view.job.instants)) listed.value;
}

-- Memory may run out for it.
pub without_index : (view : StillsView) (entries : List StillEntry) (first now : SinkState) → IsListedWhole view entries first now → IsShownInPart view OutOfMemory first now
without_index view entries first now listed = record {
  stills = listed.stills;
  are = (view.job.instants.count, omega arith, listed.are);
  got = whole_begun first now (still_images view listed.stills) listed.got;
}
