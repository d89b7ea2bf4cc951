-- Public: the images of a play.
use Rattle.std.specs.Prelude.{◌≡◌, ℕ, ◌+◌, ◌*◌, ◌/◌, ◌≤◌, ◌↔◌, ℤ, List, length, map, sum_by, take}
use Rattle.alpha_canvas.specs.Alpha.{AreAlphaRows}
use Rattle.alpha_canvas.specs.declared.pixel.AlphaForm.TheVariants.{Straight}
use Rattle.ass_num.specs.declared.size.Size.{Size}
use Rattle.bdf_font.specs.Fonts.{FontValue}
use Rattle.ass_events.specs.Histories.{Entry, live}
use Rattle.blend.specs.Canvases.{CanvasValue}
use Rattle.mask_keys.specs.declared.plans.Clip.{Clip}
use Rattle.mask_keys.specs.declared.plans.Clip.TheVariants.{Free, Rect, Drawn}
use Rattle.mask_keys.specs.declared.plans.Draw.{Draw}
use Rattle.mask_keys.specs.Pictures.{image_of_draw, picture}
use Rattle.frame_view.specs.FrameViews.{plain_frame}
use Rattle.pam_text.specs.Pams.{pam_bytes}
use Rattle.picture_plan.specs.Pictures.{AreDraws, IsPictureAt}
use Rattle.play_shares.specs.Instants.{play_instant}
use Rattle.run_words.specs.Forms.{image_form}
use Rattle.run_words.specs.declared.job.FrameFormat.TheVariants.{Ppm, Pam, Rgba}
use Rattle.run_words.specs.declared.job.ImageForm.{ImageForm}
use Rattle.run_words.specs.declared.job.ImageForm.TheVariants.{Image, Video}
use Rattle.run_words.specs.declared.job.Mode.{Mode}
use Rattle.run_words.specs.declared.job.Mode.TheVariants.{Live, Settled}
use Rattle.ppm_text.specs.Images.{image_bytes}
use Rattle.ass_events.specs.ScriptEvents.{line_events}
use Rattle.run_words.specs.declared.job.PlayFormat.TheVariants as asked
use Rattle.y4m_text.specs.Streams.{frame_bytes}
use Rattle.play_model.specs.Plays.{PlayView, good_before, good_count}

-- The bytes are the pixels of draws with straight alpha, painted over nothing.
abbrev pub AreAlphaPixels : List FontValue → Size → List Draw → List ℕ → Type 0
AreAlphaPixels fonts size draws bytes = AreAlphaRows Straight (map (image_of_draw fonts) draws) size.w 0 size.h bytes

-- The bytes are the image of draws in a form: on black, with alpha behind a head, the pixels with alpha alone, or on black as a frame of a video. What stands before the pixels of the first two tells the instant t and a number n of entries.
abbrev pub IsImageIn : ImageForm → List FontValue → Size → List Draw → ℤ → ℕ → List ℕ → Type 0
IsImageIn (Image Ppm) fonts size draws t n bytes = bytes ≡ image_bytes size.w size.h (picture fonts size draws).bytes t n
IsImageIn (Image Pam) fonts size draws t n bytes = (pixels : List ℕ) × AreAlphaPixels fonts size draws pixels × (bytes ≡ pam_bytes size.w size.h pixels t n)
IsImageIn (Image Rgba) fonts size draws t n bytes = AreAlphaPixels fonts size draws bytes
IsImageIn (Video form) fonts size draws t n bytes = bytes ≡ frame_bytes form size (picture fonts size draws).bytes

-- how the images of a play are written
abbrev pub play_form : PlayView → ImageForm
play_form play = image_form play.job.format play.script.header.matrix

-- The bytes are the image of what a history shows at t, in the format of the play; its comment, if it has one, counts the history's entries.
pub record IsImageOf (play : PlayView) (history : List Entry) (t : ℤ) (bytes : List ℕ) : Type 0 where
  pub draws : List Draw
  pub are_draws : AreDraws play.script play.fonts (live history) t (plain_frame play.job.size) draws
  pub value : IsImageIn (play_form play) play.fonts play.job.size draws t (length history) bytes

-- how many entries stand before those of time q
abbrev pub entries_before : PlayView → ℕ → ℕ
entries_before play q = q * (good_count play + 1)

-- How many entries the image at place i of time q may be of: live, at least as many as the rounds before its own fed, and at most as many as its own did too; settled, all of the time.
abbrev pub IsCountAt : PlayView → ℕ → ℕ → Mode → ℕ → Type 0
IsCountAt play q i Live n =
    (entries_before play q + good_before play (i / play.job.renderers) ≤ n) × (n ≤ entries_before play q + good_before play (i / play.job.renderers + 1))
IsCountAt play q i Settled n = n ≡ entries_before play q + good_count play

-- The bytes are the image at place i of time q: that of the first so many entries of the history at its instant.
pub record IsImageAt (play : PlayView) (history : List Entry) (q i : ℕ) (bytes : List ℕ) : Type 0 where
  pub n : ℕ
  pub within : n ≤ length history
  pub count : IsCountAt play q i play.job.mode n
  pub image : IsImageOf play (take n history) (play_instant play.job i) bytes

-- ---- composed masks

-- a drawn clip has one
abbrev pub clip_masks : Clip → ℕ
clip_masks Free = 0
clip_masks (Rect x1 y1 x2 y2 inverse) = 0
clip_masks (Drawn key x y inverse) = 1

-- How many composed masks draws need: one for each, and one more for each drawn clip.
abbrev pub masks_needed : List Draw → ℕ
masks_needed draws = sum_by (λ draw. 1 + clip_masks draw.clip) draws

-- those that the picture of an image needs
abbrev pub needed_by : {play : PlayView} {history : List Entry} {t : ℤ} {bytes : List ℕ} → IsImageOf play history t bytes → ℕ
needed_by image = masks_needed image.draws

-- an image that was shown: its bytes, and how many composed masks its picture needs
pub record ShownImage : Type 0 where
  pub bytes : List ℕ
  pub masks : ℕ

-- It is the image at place i of time q.
pub record IsShownImage (play : PlayView) (history : List Entry) (q i : ℕ) (image : ShownImage) : Type 0 where
  pub is : IsImageAt play history q i image.bytes
  pub masks_are : image.masks ≡ needed_by is.image

abbrev pub shown_pieces : List ShownImage → List (List ℕ)
shown_pieces images = map (λ image. image.bytes) images

-- the composed masks of all of them
abbrev pub all_masks : List ShownImage → ℕ
all_masks images = sum_by (λ image. image.masks) images

-- ---- settled

-- The bytes are the image of what all events of the script show at the instant of place i, with the comment of time q. There is one picture of these events.
pub record IsSettledImage (play : PlayView) (q i : ℕ) (bytes : List ℕ) : Type 0 where
  pub draws : List Draw
  pub are_draws : AreDraws play.script play.fonts (line_events play.script) (play_instant play.job i) (plain_frame play.job.size) draws
  pub value : IsImageIn (play_form play) play.fonts play.job.size draws (play_instant play.job i) (q * (length (line_events play.script) + 1) + length (line_events play.script)) bytes

-- ---- pixmaps

-- An image of a play whose format is a pixmap is that of the picture of what is live: the canvas on black.
abbrev pub PixmapsArePictures : Type 0
PixmapsArePictures =
    (play : PlayView) (history : List Entry) (t : ℤ) (bytes : List ℕ) → play.job.format ≡ asked.Image Ppm
    → IsImageOf play history t bytes
    ↔ ((canvas : CanvasValue) × IsPictureAt play.script play.fonts (live history) t (plain_frame play.job.size) canvas
    × (bytes ≡ image_bytes play.job.size.w play.job.size.h canvas.bytes t (length history)))
