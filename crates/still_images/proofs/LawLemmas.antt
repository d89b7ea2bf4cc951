-- Kept pictures are those of every instant.
use Rattle.std.proofs.Common.{◌≡◌, inl, inr, ℕ, ◌+◌, ◌*◌, ◌<◌, ◌≤◌, List, [], ◌∷◌, ◌++◌, Contains, slice_index, length, refl, sym, ap, subst, ◌∙◌, arith, append_assoc}
use Rattle.std.proofs.lemmas.Bool.{cases_eq, cases_lt}
use Rattle.std.proofs.lemmas.List.Elements.{Contains-push, Contains-push_cases}
use Rattle.ass_events.specs.ScriptEvents.{line_events}
use Rattle.frame_images.specs.FrameImages.{IsFormattedImage}
use Rattle.frame_rate.specs.Instants.{rated_instant}
use Rattle.frame_view.specs.FrameViews.{plain_frame}
use Rattle.mask_keys.specs.Pictures.{picture}
use Rattle.run_words.specs.declared.job.FrameFormat.{FrameFormat}
use Rattle.run_words.specs.declared.job.FrameFormat.TheVariants.{Ppm, Pam, Rgba}
use Rattle.still_images.specs.Boxes.{DiffersIn, whole_box}
use Rattle.still_images.specs.Formats.{ArePixelsOf, image_of_pixels}
use Rattle.still_images.specs.Laws.{CropsLieOver, IsLastBefore, StillsAreFrames, StillsShowAll}
use Rattle.still_images.specs.Stills.{ArePixelsAt, AreStills, FirstStill, NextStill, NoStill, SameStill, Still, StillsView, still_of}
use Rattle.still_images.proofs.BoxLemmas.{least_on_frame}
use Rattle.still_images.proofs.CropLemmas.{cropped_byte}

places_before : (view : StillsView) (count : ℕ) (stills : List Still) → AreStills view count stills → (still : Still) → Contains stills still → still.place < count
places_before view _ _ NoStill still h = absurd (omega (arith, h.1))
places_before view _ _ (FirstStill pixels at) still h = elim (Contains-push_cases [] (still_of 0 (whole_box view.job.size) pixels) still h) [
  | inl none ↦ absurd (omega (arith, none.1))
  | inr same ↦ subst (λ (s : Still). s.place < 1) same (omega arith)
]
places_before view _ _ (SameStill place before last old at) still h =
    let less = places_before view place (before ++ last ∷ []) old still h in omega (arith, less)
places_before view _ _ (NextStill place before last box pixels old at least) still h = elim (Contains-push_cases (before ++ last ∷ []) (still_of place box pixels) still h) [
  | inl earlier ↦ let less = places_before view place (before ++ last ∷ []) old still earlier in omega (arith, less)
  | inr same ↦ subst (λ (s : Still). s.place < place + 1) same (omega arith)
]

-- the last kept picture at the last instant
last_shown : (view : StillsView) (before : List Still) (last : Still) (place : ℕ) → last.place ≤ place → IsLastBefore (before ++ last ∷ []) place last
last_shown view before last place begun = record { before = before; after = []; split = refl; begun = begun; rest = λ later h. absurd (omega (arith, h.1)) }

-- One picture more, behind the place, changes nothing there.
one_behind : (stills : List Still) (place : ℕ) (still new : Still) → place < new.place → IsLastBefore stills place still → IsLastBefore (stills ++ new ∷ []) place still
one_behind stills place still new behind h = record {
  before = h.before;
  after = h.after ++ new ∷ [];
  split = ap (λ (xs : List Still). xs ++ new ∷ []) h.split ∙ append_assoc h.before (still ∷ h.after) (new ∷ []);
  begun = h.begun;
  rest = λ later inside. elim (Contains-push_cases h.after new later inside) [
    | inl old ↦ h.rest later old
    | inr same ↦ subst (λ (s : Still). place < s.place) same behind
  ];
}

pub stills_show_all : StillsShowAll
stills_show_all view _ _ NoStill place within = absurd (omega (arith, within))
stills_show_all view _ _ (FirstStill pixels at) place within =
    let here : 0 ≡ place = omega (arith, within) in
    let first : Still = still_of 0 (whole_box view.job.size) pixels in
    (first, last_shown view [] first place (omega arith), subst (λ p. ArePixelsAt view p pixels) here at)
stills_show_all view _ _ (SameStill count before last old at) place within = elim (cases_lt place count) [
  | inl less ↦ stills_show_all view count (before ++ last ∷ []) old place less
  | inr not ↦
      let here : count ≡ place = omega (arith, within, not) in
      let begun = places_before view count (before ++ last ∷ []) old last (Contains-push before last) in
      (last, last_shown view before last place (omega (arith, begun, here)), subst (λ p. ArePixelsAt view p last.pixels) here at)
]
stills_show_all view _ _ (NextStill count before last box pixels old at least) place within = elim (cases_lt place count) [
  | inl less ↦
      let h = stills_show_all view count (before ++ last ∷ []) old place less in
      (h.0, one_behind (before ++ last ∷ []) place h.0 (still_of count box pixels) less h.1, h.2)
  | inr not ↦
      let here : count ≡ place = omega (arith, within, not) in
      (still_of count box pixels, last_shown view (before ++ last ∷ []) (still_of count box pixels) place (omega (arith, here)), subst (λ p. ArePixelsAt view p pixels) here at)
]

pub crops_lie_over : CropsLieOver
crops_lie_over depth size box before now counted least i j k wide high few = (
  λ inside. cropped_byte depth size box now counted (least_on_frame size (DiffersIn depth size.w before now) box least) i j k few inside.left inside.right inside.top inside.bottom,
  λ outside. elim (cases_eq (slice_index now (depth * (j * size.w + i) + k)) (slice_index before (depth * (j * size.w + i) + k))) [
    | inl same ↦ same
    | inr differs ↦ absurd (outside (least.has i j wide high (k, few, λ e. differs (sym e))))
  ],
)

-- pixels of a picture make its image
framed : (view : StillsView) (place : ℕ) (pixels : List ℕ) (format : FrameFormat) (at : ArePixelsAt view place pixels) →
    ArePixelsOf format view.fonts view.job.size at.draws pixels → IsFormattedImage format view.script view.fonts (rated_instant view.job.instants place) (plain_frame view.job.size)
    (image_of_pixels format view.job.size pixels (rated_instant view.job.instants place) (length (line_events view.script)))
framed view place pixels Ppm at are = record {
  canvas = picture view.fonts view.job.size at.draws;
  is_picture = record { draws = at.draws; are_draws = at.are_draws; value = refl };
  value = ap (λ (bytes : List ℕ). image_of_pixels Ppm view.job.size bytes (rated_instant view.job.instants place) (length (line_events view.script))) are;
}
framed view place pixels Pam at are = record { pixels = pixels; is_picture = record { draws = at.draws; are_draws = at.are_draws; rows = are }; value = refl }
framed view place pixels Rgba at are = record { pixels = pixels; is_picture = record { draws = at.draws; are_draws = at.are_draws; rows = are }; value = refl }

pub stills_are_frames : StillsAreFrames
stills_are_frames view place pixels at = framed view place pixels view.job.format at at.are_pixels
