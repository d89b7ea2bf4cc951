-- Inner: the bytes of a frame in a form.
use Rattle.std.specs.Prelude.{◌≡◌, ℕ, List}
use Rattle.alpha_canvas.specs.declared.pixel.AlphaForm.TheVariants.{Straight}
use Rattle.pam_text.specs.Pams.{pam_bytes}
use Rattle.ppm_text.specs.Images.{image_bytes}
use Rattle.renderer.specs.ShownFrames.{AreFramePixels, canvas_of}
use Rattle.renderer.specs.declared.frames.Frame.{Frame}
use Rattle.run_words.specs.declared.job.FrameFormat.TheVariants.{Ppm, Pam, Rgba}
use Rattle.run_words.specs.declared.job.ImageForm.{ImageForm}
use Rattle.run_words.specs.declared.job.ImageForm.TheVariants.{Image, Video}
use Rattle.y4m_text.specs.Streams.{frame_bytes}

-- The bytes are the image of a frame.
abbrev pub IsImageOfFrame : ImageForm → Frame → List ℕ → Type 0
IsImageOfFrame (Image Ppm) frame bytes = bytes ≡ image_bytes frame.size.w frame.size.h (canvas_of frame).bytes frame.t frame.n
IsImageOfFrame (Image Pam) frame bytes = (pixels : List ℕ) × AreFramePixels Straight frame pixels × (bytes ≡ pam_bytes frame.size.w frame.size.h pixels frame.t frame.n)
IsImageOfFrame (Image Rgba) frame bytes = AreFramePixels Straight frame bytes
IsImageOfFrame (Video form) frame bytes = bytes ≡ frame_bytes form frame.size (canvas_of frame).bytes
