-- Draws have one image in a format.
use Rattle.std.proofs.Common.{◌≡◌, ◌∙◌, ℕ, zero, suc, ◌+◌, ◌*◌, ◌/◌, ◌%◌, ◌<◌, ◌≤◌, ℤ, List, get_or, map, ap, refl, sym, arith}
use Rattle.std.specs.List.{range_with_len}
use Rattle.std.proofs.lemmas.List.FromFn.{fill_by_all, get_or-map-range_with_len, length-map-range_with_len}
use Rattle.std.proofs.lemmas.Nat.{div-add-mod', div-mul-add, mod-mul-add, mod_below, mul-le}
use Rattle.std.proofs.Math.Nat.{lt_of_mul-lt-mul_right}
use Rattle.alpha_canvas.specs.Alpha.{AreAlphaRows, byte_of, formed_pixel, layers_at}
use Rattle.alpha_canvas.specs.declared.pixel.AlphaForm.{AlphaForm}
use Rattle.alpha_canvas.specs.declared.pixel.AlphaForm.TheVariants.{Straight}
use Rattle.ass_num.specs.declared.size.Size.{Size}
use Rattle.bdf_font.specs.Fonts.{FontValue}
use Rattle.blend.specs.Blending.{Image}
use Rattle.mask_keys.specs.declared.plans.Draw.{Draw}
use Rattle.mask_keys.specs.Pictures.{image_of_draw, picture}
use Rattle.pam_text.specs.Pams.{pam_bytes}
use Rattle.play_model.specs.Images.{IsImageIn}
use Rattle.ppm_text.specs.Images.{image_bytes}
use Rattle.run_words.specs.declared.job.FrameFormat.TheVariants.{Ppm, Pam, Rgba}
use Rattle.run_words.specs.declared.job.ImageForm.{ImageForm}
use Rattle.run_words.specs.declared.job.ImageForm.TheVariants as form
use Rattle.y4m_text.specs.Streams.{frame_bytes}

-- ---- pixels with alpha

some_columns : (k h w : ℕ) → k < 4 * (h * w) → 0 < w
some_columns k h zero lt = absurd (omega (arith, lt))
some_columns k h (suc w) lt = omega arith

module _ (form : AlphaForm) (images : List Image) (w h : ℕ) where
  -- a byte of the picture by its number
  abbrev alpha_byte : ℕ → ℕ
  alpha_byte k = byte_of (formed_pixel form (layers_at images (k / 4 % w) (k / 4 / w))) (k % 4)

  -- all of them
  abbrev alpha_bytes : List ℕ
  alpha_bytes = map alpha_byte (range_with_len 0 (4 * (h * w)))

  byte_by_number : (bytes : List ℕ) → AreAlphaRows form images w 0 h bytes → (k : ℕ) → k < 4 * (h * w) → get_or bytes k 0 ≡ alpha_byte k
  byte_by_number bytes are k less =
      let some : 0 < w = some_columns k h w less in
      let quarters : k / 4 * 4 + k % 4 ≡ k = div-add-mod' k 4 in
      let parts : k / 4 / w * w + k / 4 % w ≡ k / 4 = div-add-mod' (k / 4) w in
      let inside : k / 4 / w * w < h * w = omega (arith, less, quarters, parts) in
      let row : k / 4 / w < h = lt_of_mul-lt-mul_right w {m = k / 4 / w} {n = h} inside in
      let place : 4 * (k / 4 / w * w + k / 4 % w) + k % 4 ≡ k = omega (arith, quarters, parts) in
      let from_top : 0 + k / 4 / w ≡ k / 4 / w = omega arith in
      ap (λ (n : ℕ). get_or bytes n 0) (sym place) ∙ are.each (k / 4 % w) (k / 4 / w) (k % 4) (mod_below (k / 4) w some) row (mod_below k 4 (omega arith))
      ∙ ap (λ (n : ℕ). byte_of (formed_pixel form (layers_at images (k / 4 % w) n)) (k % 4)) from_top

  -- Rows are these bytes.
  pub rows_are : (bytes : List ℕ) → AreAlphaRows form images w 0 h bytes → bytes ≡ alpha_bytes
  rows_are bytes are = fill_by_all alpha_byte bytes (4 * (h * w)) 0 are.count (byte_by_number bytes are)

  -- These bytes are rows.
  pub are_rows : AreAlphaRows form images w 0 h alpha_bytes
  are_rows = record {
    count = length-map-range_with_len alpha_byte 0 (4 * (h * w));
    each = λ i j c column row small.
        let rows : (j + 1) * w ≤ h * w = mul-le (j + 1) w h w (omega (arith, row)) (omega arith) in
        let inside : 4 * (j * w + i) + c < 4 * (h * w) = omega (arith, rows, column, small) in
        let grouped : 4 * (j * w + i) + c ≡ (j * w + i) * 4 + c = omega arith in
        let pixel : (4 * (j * w + i) + c) / 4 ≡ j * w + i = ap (λ (n : ℕ). n / 4) grouped ∙ div-mul-add (j * w + i) 4 c small in
        let channel : (4 * (j * w + i) + c) % 4 ≡ c = ap (λ (n : ℕ). n % 4) grouped ∙ mod-mul-add (j * w + i) 4 c small in
        let across : (4 * (j * w + i) + c) / 4 % w ≡ i = ap (λ (n : ℕ). n % w) pixel ∙ mod-mul-add j w i column in
        let from_top : 0 + j ≡ j = omega arith in
        let down : (4 * (j * w + i) + c) / 4 / w ≡ j = ap (λ (n : ℕ). n / w) pixel ∙ div-mul-add j w i column in
        get_or-map-range_with_len alpha_byte 0 (4 * (h * w)) (4 * (j * w + i) + c) (4 * (j * w + i) + c) 0 inside (omega arith)
        ∙ ap (λ (n : ℕ). byte_of (formed_pixel form (layers_at images n ((4 * (j * w + i) + c) / 4 / w))) ((4 * (j * w + i) + c) % 4)) across
        ∙ ap (λ (n : ℕ). byte_of (formed_pixel form (layers_at images i n)) ((4 * (j * w + i) + c) % 4)) down
        ∙ ap (byte_of (formed_pixel form (layers_at images i j))) channel
        ∙ ap (λ (n : ℕ). byte_of (formed_pixel form (layers_at images i n)) c) (sym from_top);
  }

-- ---- images

module _ (fonts : List FontValue) (size : Size) (draws : List Draw) (t : ℤ) (n : ℕ) where
  -- the image of draws in a form
  abbrev pub formatted : ImageForm → List ℕ
  formatted (form.Image Ppm) = image_bytes size.w size.h (picture fonts size draws).bytes t n
  formatted (form.Image Pam) = pam_bytes size.w size.h (alpha_bytes Straight (map (image_of_draw fonts) draws) size.w size.h) t n
  formatted (form.Image Rgba) = alpha_bytes Straight (map (image_of_draw fonts) draws) size.w size.h
  formatted (form.Video video) = frame_bytes video size (picture fonts size draws).bytes

  pub image_formatted : (f : ImageForm) (bytes : List ℕ) → IsImageIn f fonts size draws t n bytes → bytes ≡ formatted f
  image_formatted (form.Image Ppm) bytes is = is
  image_formatted (form.Image Pam) bytes (pixels, are, value) =
      value ∙ ap (λ (p : List ℕ). pam_bytes size.w size.h p t n) (rows_are Straight (map (image_of_draw fonts) draws) size.w size.h pixels are)
  image_formatted (form.Image Rgba) bytes are = rows_are Straight (map (image_of_draw fonts) draws) size.w size.h bytes are
  image_formatted (form.Video video) bytes is = is

  pub formatted_image : (f : ImageForm) → IsImageIn f fonts size draws t n (formatted f)
  formatted_image (form.Image Ppm) = refl
  formatted_image (form.Image Pam) = (alpha_bytes Straight (map (image_of_draw fonts) draws) size.w size.h, are_rows Straight (map (image_of_draw fonts) draws) size.w size.h, refl)
  formatted_image (form.Image Rgba) = are_rows Straight (map (image_of_draw fonts) draws) size.w size.h
  formatted_image (form.Video video) = refl
