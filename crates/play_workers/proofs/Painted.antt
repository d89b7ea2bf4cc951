-- Frames that are tried first, and their images.
use Rattle.std.proofs.Common.{Global, Vec, ◌≡◌, ℕ, ◌*◌, ℤ, List, [], map, refl, sym, ap, subst, ◌∙◌, Result, Ok, Err, ⊎_elim}
use Rattle.std.specs.Result.{IfOk}
use Rattle.ass_events.specs.Histories.{Entry, live}
use Rattle.alpha_canvas.specs.Alpha.{AreAlphaRows}
use Rattle.alpha_canvas.specs.declared.pixel.AlphaForm.TheVariants.{Straight}
use Rattle.ass_num.specs.declared.size.Size.{Size}
use Rattle.ass_script.specs.Scripts.{ScriptValue}
use Rattle.blend.specs.Blending.{Image}
use Rattle.blend.specs.Canvases.{CanvasValue, black}
use Rattle.mask_caches.specs.declared.warming.Prefetched.{Prefetched}
use Rattle.renderer.proofs.PaintedPictures.{canvas-picture}
use Rattle.renderer.specs.ShownFrames.{AreFramePixels, ShowsDraws, canvas_of, image_shown}
use Rattle.renderer.specs.declared.frames.Frame.{Frame}
use Rattle.mask_caches.specs.Caches.{HoldsAsBefore}
use Rattle.bdf_font.specs.Fonts.{FontValue}
use Rattle.mask_keys.proofs.DrawnLemmas.{images_height, images_width}
use Rattle.mask_keys.specs.declared.plans.Draw.{Draw}
use Rattle.frame_view.specs.FrameViews.{plain_frame}
use Rattle.pam_text.specs.Pams.{pam_bytes}
use Rattle.picture_plan.specs.Pictures.{AreDraws}
use Rattle.ppm_text.specs.Images.{image_bytes}
use Rattle.renderer.specs.Frames.{IsFrameOf}
use Rattle.renderer.specs.Holding.{HoldsTheSame}
use Rattle.renderer.specs.Passes.{RenderView, RendererView}
use Rattle.renderer.specs.Soon.{IsTriedThenRendered}
use Rattle.renderer.specs.Warming.{IsColdAt, IsWarmed, Refused, Unplanned}
use Rattle.track_history.proofs.LawLemmas.{turn_alone}
use Rattle.turn_cell.specs.Passes.{Follows}
use Rattle.play_model.specs.Images.{AreAlphaPixels, IsImageIn, play_form}
use Rattle.play_model.specs.Plays.{PlayView}
use Rattle.run_words.specs.declared.job.FrameFormat.TheVariants.{Ppm, Pam, Rgba}
use Rattle.run_words.specs.declared.job.ImageForm.{ImageForm}
use Rattle.run_words.specs.declared.job.ImageForm.TheVariants as form
use Rattle.y4m_text.specs.Streams.{frame_bytes}
use Rattle.y4m_text.specs.declared.form.VideoForm.{VideoForm}
use Rattle.play_workers.specs.Asks.{IsImageOfDraws}
use Rattle.play_workers.specs.FrameImages.{IsImageOfFrame}
use Rattle.mask_caches.proofs.KeysWarmed.{before-itself}

pub soon_follows : {E : Type 0} (renderer : RendererView) (pass after : RenderView) (t : ℤ) (size : Size) (answer : Result Frame E) → IsTriedThenRendered renderer pass after t size answer → Follows pass.track after.track []
soon_follows renderer pass after t size (Ok frame) h = ⊎_elim (λ tried. turn_alone pass.track after.track tried.turn) (λ then. turn_alone pass.track after.track then.rendered.turn) h
soon_follows renderer pass after t size (Err refused) h = ⊎_elim (λ none. turn_alone pass.track after.track none.turn) (λ then. turn_alone pass.track after.track then.rendered.turn) h

pub warmed_follows : {E : Type 0} (renderer : RendererView) (pass after : RenderView) (instants : List ℤ) (size : Size) (answer : Result Prefetched E) → IsWarmed renderer pass after instants size answer → Follows pass.track after.track []
warmed_follows renderer pass after instants size (Ok count) h = h.2.track
warmed_follows renderer pass after instants size (Err refused) h = cold h
  where
    cold : IsColdAt renderer pass after instants size → Follows pass.track after.track []
    cold (Unplanned none) = none.track
    cold (Refused plans n few warmed) = warmed.track

-- ---- what is held

pub holds_itself : (renderer : RendererView) (pass after : RenderView) → after.caches ≡ pass.caches → HoldsTheSame renderer pass after
holds_itself renderer pass after same = subst (HoldsAsBefore renderer.caches pass.caches) (sym same) (before-itself renderer.caches pass.caches)

-- ---- images

-- the canvas of a frame has its size
pub canvas_pixels : (frame : Frame) (canvas : CanvasValue) (count : ℕ) → canvas ≡ canvas_of frame → count ≡ 3 * (canvas.w * canvas.h) → count ≡ 3 * (frame.size.w * frame.size.h)
canvas_pixels frame canvas count is counted =
    let wide : canvas.w ≡ frame.size.w = ap (λ (c : CanvasValue). c.w) is ∙ images_width (map image_shown frame.images) (black frame.size.w frame.size.h) in
    let high : canvas.h ≡ frame.size.h = ap (λ (c : CanvasValue). c.h) is ∙ images_height (map image_shown frame.images) (black frame.size.w frame.size.h) in
    counted ∙ ap (λ w. 3 * (w * canvas.h)) wide ∙ ap (λ h. 3 * (frame.size.w * h)) high

-- the bytes of a canvas are those of its frame
pub pixmap_written : {E : Type 0} (frame : Frame) (canvas : CanvasValue) (pixels : List ℕ) (result : Result (Vec ℕ Global) E) → canvas ≡ canvas_of frame → pixels ≡ canvas.bytes
    → IfOk result (λ image. image.items ≡ image_bytes frame.size.w frame.size.h pixels frame.t frame.n) → IfOk result (λ image. IsImageOfFrame (form.Image Ppm) frame image.items)
pixmap_written frame canvas pixels (Ok image) painted shown written =
    written ∙ ap (λ p. image_bytes frame.size.w frame.size.h p frame.t frame.n) (shown ∙ ap (λ (c : CanvasValue). c.bytes) painted)
pixmap_written frame canvas pixels (Err refused) painted shown written = tt

-- a frame of a video
pub video_written : {E : Type 0} (video : VideoForm) (frame : Frame) (canvas : CanvasValue) (pixels : List ℕ) (result : Result (Vec ℕ Global) E) → canvas ≡ canvas_of frame → pixels ≡ canvas.bytes
    → IfOk result (λ image. image.items ≡ frame_bytes video frame.size pixels) → IfOk result (λ image. IsImageOfFrame (form.Video video) frame image.items)
video_written video frame canvas pixels (Ok image) painted shown written =
    written ∙ ap (λ p. frame_bytes video frame.size p) (shown ∙ ap (λ (c : CanvasValue). c.bytes) painted)
video_written video frame canvas pixels (Err refused) painted shown written = tt

-- a map of pixels with alpha
pub map_written : {E : Type 0} (frame : Frame) (pixels : List ℕ) (result : Result (Vec ℕ Global) E) → AreFramePixels Straight frame pixels
    → IfOk result (λ image. image.items ≡ pam_bytes frame.size.w frame.size.h pixels frame.t frame.n) → IfOk result (λ image. IsImageOfFrame (form.Image Pam) frame image.items)
map_written frame pixels (Ok image) are written = (pixels, are, written)
map_written frame pixels (Err refused) are written = tt

-- the image of a frame is that of its draws
module _ (fonts : List FontValue) (draws : List Draw) (frame : Frame) (shows : ShowsDraws fonts draws frame) (bytes : List ℕ) where
  pixels_are : AreFramePixels Straight frame bytes → AreAlphaPixels fonts frame.size draws bytes
  pixels_are h = subst (λ (images : List Image). AreAlphaRows Straight images frame.size.w 0 frame.size.h bytes) shows h

  image_is : (f : ImageForm) → IsImageOfFrame f frame bytes → IsImageIn f fonts frame.size draws frame.t frame.n bytes
  image_is (form.Image Ppm) h = h ∙ ap (λ (c : CanvasValue). image_bytes frame.size.w frame.size.h c.bytes frame.t frame.n) (canvas-picture fonts draws frame shows)
  image_is (form.Image Pam) (pixels, are, value) = (pixels, subst (λ (images : List Image). AreAlphaRows Straight images frame.size.w 0 frame.size.h pixels) shows are, value)
  image_is (form.Image Rgba) h = pixels_are h
  image_is (form.Video video) h = h ∙ ap (λ (c : CanvasValue). frame_bytes video frame.size c.bytes) (canvas-picture fonts draws frame shows)

-- the image of a frame of a history
module _ (play : PlayView) (script : ScriptValue) (same : script ≡ play.script) (history : List Entry) (t : ℤ) (frame : Frame) (is : IsFrameOf script play.fonts history t play.job.size frame) where
  frame_image : (bytes : List ℕ) → IsImageOfFrame (play_form play) frame bytes → IsImageOfDraws play history t is.draws bytes
  frame_image bytes written = record {
    is = record {
      draws = is.draws;
      are_draws = subst (λ (s : ScriptValue). AreDraws s play.fonts (live history) t (plain_frame play.job.size) is.draws) same is.are_draws;
      value =
          let of_frame : IsImageIn (play_form play) play.fonts frame.size is.draws frame.t frame.n bytes = image_is play.fonts is.draws frame is.images bytes (play_form play) written in
          let sized = subst (λ (s : Size). IsImageIn (play_form play) play.fonts s is.draws frame.t frame.n bytes) is.size_is of_frame in
          let timed = subst (λ (u : ℤ). IsImageIn (play_form play) play.fonts play.job.size is.draws u frame.n bytes) is.instant sized in
          subst (λ (n : ℕ). IsImageIn (play_form play) play.fonts play.job.size is.draws t n bytes) is.n timed;
    };
    needed = refl;
  }

  pub image_written : {E : Type 0} (result : Result (Vec ℕ Global) E) → IfOk result (λ image. IsImageOfFrame (play_form play) frame image.items)
      → IfOk result (λ image. IsImageOfDraws play history t is.draws image.items)
  image_written (Ok image) written = frame_image image.items written
  image_written (Err refused) written = tt
