-- Public: the image of a picture in each format (docs/PICTURES.md).
use Rattle.std.specs.Prelude.{◌≡◌, ℕ, pos, List, length}
use Rattle.alpha_canvas.specs.declared.pixel.AlphaForm.TheVariants.{Straight}
use Rattle.ass_events.specs.ScriptEvents.{line_events}
use Rattle.ass_script.specs.Scripts.{ScriptValue}
use Rattle.bdf_font.specs.Fonts.{FontValue}
use Rattle.blend.specs.Canvases.{CanvasValue}
use Rattle.picture_plan.specs.AlphaPictures.{IsAlphaPictureAt}
use Rattle.frame_view.specs.declared.view.FrameView.{FrameView}
use Rattle.pam_text.specs.Pams.{pam_bytes}
use Rattle.picture_plan.specs.Pictures.{IsPictureAt}
use Rattle.ppm_text.specs.Images.{image_bytes}
use Rattle.run_words.specs.declared.job.FrameFormat.{FrameFormat}
use Rattle.run_words.specs.declared.job.FrameFormat.TheVariants.{Ppm, Pam, Rgba}

-- These bytes are the image of the picture that the events of a script show in fonts at an instant in milliseconds, on a frame; its comment counts these events.
pub record IsFrameImage (script : ScriptValue) (fonts : List FontValue) (at : ℕ) (view : FrameView) (bytes : List ℕ) : Type 0 where
  pub canvas : CanvasValue
  pub is_picture : IsPictureAt script fonts (line_events script) (pos at) view canvas
  pub value : bytes ≡ image_bytes view.size.w view.size.h canvas.bytes (pos at) (length (line_events script))

-- These bytes are a picture with straight alpha, written so.
pub record IsAlphaImage (script : ScriptValue) (fonts : List FontValue) (at : ℕ) (view : FrameView) (written_as : List ℕ → List ℕ) (bytes : List ℕ) : Type 0 where
  pub pixels : List ℕ
  pub is_picture : IsAlphaPictureAt Straight script fonts (line_events script) (pos at) view pixels
  pub value : bytes ≡ written_as pixels

-- These bytes are the image of the picture in a format: on black, with alpha behind a head, or the pixels with alpha alone.
abbrev pub IsFormattedImage : FrameFormat → ScriptValue → List FontValue → ℕ → FrameView → List ℕ → Type 0
IsFormattedImage Ppm script fonts at view bytes = IsFrameImage script fonts at view bytes
IsFormattedImage Pam script fonts at view bytes =
    IsAlphaImage script fonts at view (λ pixels. pam_bytes view.size.w view.size.h pixels (pos at) (length (line_events script))) bytes
IsFormattedImage Rgba script fonts at view bytes = IsAlphaImage script fonts at view (λ pixels. pixels) bytes
