-- The picture with alpha of draws beside their picture.
use Rattle.std.proofs.Common.{◌≡◌, ℕ, ℤ, ◌+◌, ◌*◌, ◌/◌, ◌<◌, List, length, map, fold, get_or, refl, sym, ap, subst, ◌∙◌, arith}
use Rattle.std.proofs.lemmas.List.{length-replicate}
use Rattle.alpha_canvas.proofs.TileLemmas.{zeros}
use Rattle.alpha_canvas.specs.Alpha.{AreAlphaRows, byte_of, formed_pixel, layers_at}
use Rattle.alpha_canvas.specs.Laws.{OverIsNear, byte_over, canvas_byte, channel_layers}
use Rattle.alpha_canvas.specs.Nearness.{DifferByAtMost, depth_of, over_byte}
use Rattle.alpha_canvas.specs.declared.pixel.AlphaForm.{AlphaForm}
use Rattle.ass_events.specs.declared.event.Event.{Event}
use Rattle.ass_num.specs.declared.size.Size.{Size}
use Rattle.ass_script.specs.Ranges.{IsScript}
use Rattle.ass_script.specs.Scripts.{ScriptValue}
use Rattle.bdf_font.specs.Fonts.{FontValue}
use Rattle.blend.specs.Blending.{Image}
use Rattle.blend.specs.Canvases.{CanvasValue, black, drawn}
use Rattle.frame_view.specs.declared.view.FrameView.{FrameView}
use Rattle.mask_keys.specs.declared.plans.Draw.{Draw}
use Rattle.mask_keys.specs.Pictures.{image_of_draw, picture}
use Rattle.mask_keys.proofs.DrawnLemmas.{images_drawn, images_height, images_width}
use Rattle.picture_plan.specs.AlphaPictures.{IsAlphaPictureAt}
use Rattle.picture_plan.specs.Pictures.{AreDraws, IsPictureAt}
use Rattle.picture_laws.specs.NearPictures.{IsNearPicture, byte_over_black}
use Rattle.picture_laws.proofs.Shown.{one_list_of_draws}

module _ (law : OverIsNear) (form : AlphaForm) (fonts : List FontValue) (size : Size) (draws : List Draw) (bytes : List ℕ)
    (rows : AreAlphaRows form (map (image_of_draw fonts) draws) size.w 0 size.h bytes) where
  abbrev images : List Image
  images = map (image_of_draw fonts) draws

  over-black : (i j c : ℕ) → i < size.w → j < size.h → c < 3 → byte_over form (black size.w size.h) images i j c ≡ byte_over_black form size.w bytes i j c
  over-black i j c wide high small =
      let from_top : 0 + j ≡ j = omega arith in
      let channel = rows.each i j c wide high (omega arith) in
      let alpha = rows.each i j 3 wide high (omega arith) in
      let p = formed_pixel form (layers_at images i j) in
      let here : get_or bytes (4 * (j * size.w + i) + c) 0 ≡ byte_of p c = channel ∙ ap (λ (k : ℕ). byte_of (formed_pixel form (layers_at images i k)) c) from_top in
      let part : get_or bytes (4 * (j * size.w + i) + 3) 0 ≡ p.a = alpha ∙ ap (λ (k : ℕ). byte_of (formed_pixel form (layers_at images i k)) 3) from_top in
      same-over (zeros (3 * (size.w * size.h)) _) (sym here) (sym part)
    where
      same-over : {v u s t a b : ℕ} → v ≡ u → s ≡ t → a ≡ b → over_byte form v s a ≡ over_byte form u t b
      same-over p q r = rw (p, q, r) refl

  pub near-picture : IsNearPicture form fonts draws (picture fonts size draws) bytes
  near-picture = subst (λ (canvas : CanvasValue). IsNearPicture form fonts draws canvas bytes) (images_drawn fonts draws (black size.w size.h)) (record {
    channels = λ i j c wide high small all.
        let base = black size.w size.h in
        let w : i < size.w = subst (λ (k : ℕ). i < k) (images_width images base) wide in
        let h : j < size.h = subst (λ (k : ℕ). j < k) (images_height images base) high in
        let near = law form base images i j c (length-replicate {A = ℕ} (3 * (size.w * size.h)) 0) w h small (omega (arith, zeros (3 * (size.w * size.h)) (3 * (size.w * j + i) + c))) all in
        subst (λ (k : ℕ). DifferByAtMost (1 + depth_of (channel_layers images i j c) / 2) (canvas_byte (fold drawn base images) i j c) (byte_over_black form k bytes i j c)) (sym (images_width images base))
        (subst (λ (v : ℕ). DifferByAtMost (1 + depth_of (channel_layers images i j c) / 2) (canvas_byte (fold drawn base images) i j c) v) (over-black i j c w h small) near.1);
  })

pub alpha_pictures_are_near : (script : ScriptValue) (fonts : List FontValue) → IsScript script → OverIsNear → (form : AlphaForm) (events : List Event) (t : ℤ) (frame : FrameView) (canvas : CanvasValue) (bytes : List ℕ)
    → IsPictureAt script fonts events t frame canvas → IsAlphaPictureAt form script fonts events t frame bytes
    → (draws : List Draw) × AreDraws script fonts events t frame draws × IsNearPicture form fonts draws canvas bytes
alpha_pictures_are_near script fonts sound law form events t frame canvas bytes is with_alpha =
    let same : with_alpha.draws ≡ is.draws = one_list_of_draws script fonts sound events t frame with_alpha.draws is.draws with_alpha.are_draws is.are_draws in
    let rows = subst (λ (draws : List Draw). AreAlphaRows form (map (image_of_draw fonts) draws) frame.size.w 0 frame.size.h bytes) same with_alpha.rows in
    (is.draws, is.are_draws, subst (λ (k : CanvasValue). IsNearPicture form fonts is.draws k bytes) (sym is.value) (near-picture law form fonts frame.size is.draws bytes rows))
