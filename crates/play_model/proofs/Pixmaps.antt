-- The images of a play whose format is a pixmap.
use Rattle.std.proofs.Common.{◌≡◌, ℕ, ℤ, List, length, refl, sym, ap, subst, ◌∙◌}
use Rattle.ass_events.specs.Histories.{Entry, live}
use Rattle.blend.specs.Canvases.{CanvasValue}
use Rattle.frame_view.specs.FrameViews.{plain_frame}
use Rattle.mask_keys.specs.Pictures.{picture}
use Rattle.picture_plan.specs.Pictures.{IsPictureAt}
use Rattle.ppm_text.specs.Images.{image_bytes}
use Rattle.run_words.specs.Forms.{image_form}
use Rattle.run_words.specs.declared.job.FrameFormat.TheVariants.{Ppm}
use Rattle.run_words.specs.declared.job.PlayFormat.{PlayFormat}
use Rattle.run_words.specs.declared.job.PlayFormat.TheVariants.{Image}
use Rattle.play_model.specs.Images.{IsImageIn, IsImageOf, PixmapsArePictures}
use Rattle.play_model.specs.Plays.{PlayView}

module _ (play : PlayView) (history : List Entry) (t : ℤ) (bytes : List ℕ) (pixmap : play.job.format ≡ Image Ppm) where
  abbrev IsPixmap : Type 0
  IsPixmap =
      (canvas : CanvasValue) × IsPictureAt play.script play.fonts (live history) t (plain_frame play.job.size) canvas
      × (bytes ≡ image_bytes play.job.size.w play.job.size.h canvas.bytes t (length history))

  shows_picture : IsImageOf play history t bytes → IsPixmap
  shows_picture image = (
    picture play.fonts play.job.size image.draws,
    record { draws = image.draws; are_draws = image.are_draws; value = refl },
    subst (λ (format : PlayFormat). IsImageIn (image_form format play.script.header.matrix) play.fonts play.job.size image.draws t (length history) bytes) pixmap image.value,
  )

  is_image : IsPixmap → IsImageOf play history t bytes
  is_image (canvas, is, value) = record {
    draws = is.draws;
    are_draws = is.are_draws;
    value = subst (λ (format : PlayFormat). IsImageIn (image_form format play.script.header.matrix) play.fonts play.job.size is.draws t (length history) bytes) (sym pixmap)
        (value ∙ ap (λ (c : CanvasValue). image_bytes play.job.size.w play.job.size.h c.bytes t (length history)) is.value);
  }

pub pixmaps_are_pictures : PixmapsArePictures
pixmaps_are_pictures play history t bytes pixmap = (shows_picture play history t bytes pixmap, is_image play history t bytes pixmap)
