-- Public: the pixels of a picture in each format, and the image of some pixels (docs/PICTURES.md).
use Rattle.std.specs.Prelude.{◌≡◌, ℕ, pos, List, map}
use Rattle.alpha_canvas.specs.Alpha.{AreAlphaRows}
use Rattle.alpha_canvas.specs.declared.pixel.AlphaForm.TheVariants.{Straight}
use Rattle.ass_num.specs.declared.size.Size.{Size}
use Rattle.bdf_font.specs.Fonts.{FontValue}
use Rattle.mask_keys.specs.declared.plans.Draw.{Draw}
use Rattle.mask_keys.specs.Pictures.{image_of_draw, picture}
use Rattle.pam_text.specs.Pams.{pam_bytes}
use Rattle.ppm_text.specs.Images.{image_bytes}
use Rattle.run_words.specs.declared.job.FrameFormat.{FrameFormat}
use Rattle.run_words.specs.declared.job.FrameFormat.TheVariants.{Ppm, Pam, Rgba}

-- how many bytes a pixel has
abbrev pub pixel_bytes : FrameFormat → ℕ
pixel_bytes Ppm = 3
pixel_bytes Pam = 4
pixel_bytes Rgba = 4

-- These are the pixels that draws make: on black, or with straight alpha.
abbrev pub ArePixelsOf : FrameFormat → List FontValue → Size → List Draw → List ℕ → Type 0
ArePixelsOf Ppm fonts size draws pixels = pixels ≡ (picture fonts size draws).bytes
ArePixelsOf Pam fonts size draws pixels = AreAlphaRows Straight (map (image_of_draw fonts) draws) size.w 0 size.h pixels
ArePixelsOf Rgba fonts size draws pixels = AreAlphaRows Straight (map (image_of_draw fonts) draws) size.w 0 size.h pixels

-- the image of pixels, that at the instant t, when n events were known
abbrev pub image_of_pixels : FrameFormat → Size → List ℕ → ℕ → ℕ → List ℕ
image_of_pixels Ppm size pixels t n = image_bytes size.w size.h pixels (pos t) n
image_of_pixels Pam size pixels t n = pam_bytes size.w size.h pixels (pos t) n
image_of_pixels Rgba size pixels t n = pixels
