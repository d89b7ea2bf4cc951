-- Pictures of frames.
use Rattle.std.proofs.Common.{◌≡◌, ◌++◌, ℕ, List, length, map, take, drop, fold, sym, ap, subst, ◌∙◌}
use Rattle.std.proofs.Math.Seq.{take-append_seam}
use Rattle.alpha_canvas.specs.Alpha.{AreAlphaRows}
use Rattle.alpha_canvas.specs.declared.pixel.AlphaForm.{AlphaForm}
use Rattle.bdf_font.specs.Fonts.{FontValue}
use Rattle.blend.specs.Blending.{Image}
use Rattle.blend.specs.Canvases.{black, drawn}
use Rattle.mask_keys.specs.declared.plans.Draw.{Draw}
use Rattle.mask_keys.specs.Pictures.{image_of_draw, picture}
use Rattle.mask_keys.proofs.DrawnLemmas.{images_drawn}
use Rattle.renderer.specs.ShownFrames.{AreFramePixels, ShowsDraws, canvas_of}
use Rattle.renderer.specs.declared.frames.Frame.{Frame}

pub canvas-picture : (fonts : List FontValue) (draws : List Draw) (frame : Frame) → ShowsDraws fonts draws frame → canvas_of frame ≡ picture fonts frame.size draws
canvas-picture fonts draws frame shows = ap (fold drawn (black frame.size.w frame.size.h)) shows ∙ images_drawn fonts draws (black frame.size.w frame.size.h)

-- The pixels that were painted in the front of a list, of which just these many are kept.
pub front-painted : (form : AlphaForm) (frame : Frame) (n : ℕ) (new old : List ℕ) → n ≡ length new → AreFramePixels form frame new → AreFramePixels form frame (take n (new ++ drop (length new) old))
front-painted form frame n new old long are =
    subst (λ (bytes : List ℕ). AreFramePixels form frame bytes) (sym (ap (λ (k : ℕ). take k (new ++ drop (length new) old)) long ∙ take-append_seam new (drop (length new) old))) are

-- The pixels of a frame with alpha are those of the draws that it shows.
pub pixels-of-draws : (fonts : List FontValue) (draws : List Draw) (form : AlphaForm) (frame : Frame) (bytes : List ℕ) → ShowsDraws fonts draws frame → AreFramePixels form frame bytes
    → AreAlphaRows form (map (image_of_draw fonts) draws) frame.size.w 0 frame.size.h bytes
pixels-of-draws fonts draws form frame bytes shows = subst (λ (images : List Image). AreAlphaRows form images frame.size.w 0 frame.size.h bytes) shows
