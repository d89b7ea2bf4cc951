-- From the draws of a picture to its image.
use Rattle.std.proofs.Common.{◌≡◌, ℕ, ◌*◌, pos, List, length, fold, map, ap, ◌∙◌, refl, subst, sym, arith}
use Rattle.alpha_canvas.specs.Alpha.{AreAlphaRows}
use Rattle.alpha_canvas.specs.declared.pixel.AlphaForm.TheVariants.{Straight}
use Rattle.ass_num.specs.declared.size.Size.{Size}
use Rattle.ass_script.specs.Scripts.{ScriptValue}
use Rattle.ass_events.specs.declared.event.Event.{Event}
use Rattle.bdf_font.specs.Fonts.{FontValue}
use Rattle.blend.specs.Canvases.{CanvasValue, black}
use Rattle.mask_keys.proofs.DrawnLemmas.{draws_height, draws_width}
use Rattle.mask_keys.specs.declared.plans.Draw.{Draw}
use Rattle.mask_keys.specs.Outlines.{IsFontSet}
use Rattle.mask_keys.specs.Pictures.{image_of_draw, picture, with_draw}
use Rattle.pam_text.specs.Pams.{pam_bytes}
use Rattle.frame_view.specs.declared.view.FrameView.{FrameView}
use Rattle.picture_plan.specs.Pictures.{AreDraws}
use Rattle.ppm_text.specs.Images.{image_bytes}
use Rattle.ass_events.specs.ScriptEvents.{line_events}
use Rattle.text_layout.specs.Fonts.{IsLayoutFontSet}
use Rattle.run_words.specs.declared.job.FrameFormat.{FrameFormat}
use Rattle.run_words.specs.declared.job.FrameFormat.TheVariants.{Ppm, Pam, Rgba}
use Rattle.frame_images.specs.FrameImages.{IsFormattedImage}

-- fonts that texts are laid out in may be named by keys
pub font_set : (fonts : List FontValue) → IsLayoutFontSet fonts → IsFontSet fonts
font_set fonts h = record { few = h.few; whole = h.each }

-- what is painted on black has the frame's size
pub painted_width : (fonts : List FontValue) (size : Size) (draws : List Draw) (old new : CanvasValue) → old ≡ black size.w size.h → new ≡ fold (with_draw fonts) old draws → new.w ≡ size.w
painted_width fonts size draws old new blank painted = ap (λ (c : CanvasValue). c.w) painted ∙ draws_width fonts draws old ∙ ap (λ (c : CanvasValue). c.w) blank

pub painted_height : (fonts : List FontValue) (size : Size) (draws : List Draw) (old new : CanvasValue) → old ≡ black size.w size.h → new ≡ fold (with_draw fonts) old draws → new.h ≡ size.h
painted_height fonts size draws old new blank painted = ap (λ (c : CanvasValue). c.h) painted ∙ draws_height fonts draws old ∙ ap (λ (c : CanvasValue). c.h) blank

-- rows of columns have as many pixels as columns of rows
pub columns_first : (w h n : ℕ) → n ≡ 4 * (h * w) → n ≡ 4 * (w * h)
columns_first w h n rows = omega (arith, rows)

module _ (format : FrameFormat) (script : ScriptValue) (fonts : List FontValue) (at : ℕ) (view : FrameView) (events : List Event) (draws : List Draw) (bytes : List ℕ) (n : ℕ)
    (all : events ≡ line_events script) (are : AreDraws script fonts events (pos at) view draws) where
  of_script : AreDraws script fonts (line_events script) (pos at) view draws
  of_script = subst (λ (e : List Event). AreDraws script fonts e (pos at) view draws) all are

  formatted : (asked : FrameFormat) → format ≡ asked → IsFormattedImage asked script fonts at view bytes → IsFormattedImage format script fonts at view bytes
  formatted asked is image = subst (λ (f : FrameFormat). IsFormattedImage f script fonts at view bytes) (sym is) image

  -- the bytes of the picture of a script's events are its image
  pub imaged : format ≡ Ppm → n ≡ length events → bytes ≡ image_bytes view.size.w view.size.h (picture fonts view.size draws).bytes (pos at) n
      → IsFormattedImage format script fonts at view bytes
  imaged asked counted is = formatted Ppm asked (record {
    canvas = picture fonts view.size draws;
    is_picture = record { draws = draws; are_draws = of_script; value = refl };
    value = is ∙ ap (λ (k : ℕ). image_bytes view.size.w view.size.h (picture fonts view.size draws).bytes (pos at) k) (counted ∙ ap length all);
  })

  -- so they are with alpha, behind a head
  pub mapped : (pixels : List ℕ) → format ≡ Pam → n ≡ length events → AreAlphaRows Straight (map (image_of_draw fonts) draws) view.size.w 0 view.size.h pixels
      → bytes ≡ pam_bytes view.size.w view.size.h pixels (pos at) n → IsFormattedImage format script fonts at view bytes
  mapped pixels asked counted rows is = formatted Pam asked (record {
    pixels = pixels;
    is_picture = record { draws = draws; are_draws = of_script; rows = rows };
    value = is ∙ ap (λ (k : ℕ). pam_bytes view.size.w view.size.h pixels (pos at) k) (counted ∙ ap length all);
  })

  -- and without one
  pub bare : format ≡ Rgba → AreAlphaRows Straight (map (image_of_draw fonts) draws) view.size.w 0 view.size.h bytes → IsFormattedImage format script fonts at view bytes
  bare asked rows = formatted Rgba asked (record { pixels = bytes; is_picture = record { draws = draws; are_draws = of_script; rows = rows }; value = refl })
