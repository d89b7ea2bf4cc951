-- Lists of plain images, one draw more at each step.
use Rattle.std.proofs.Common.{◌≡◌, ℕ, ◌+◌, ◌<◌, ℤ, List, [], ◌∷◌, ◌++◌, length, get_or, take, map, ◌*◌, refl, sym, ap, ◌∙◌, subst, append_assoc, append-nil}
use Rattle.std.proofs.lemmas.List.{length-replicate, map_more}
use Rattle.ass_events.specs.declared.event.Event.{Event}
use Rattle.ass_num.specs.declared.size.Size.{Size}
use Rattle.ass_script.specs.Scripts.{ScriptValue}
use Rattle.bdf_font.specs.Fonts.{FontValue}
use Rattle.blend.specs.Blending.{Image}
use Rattle.blend.specs.Canvases.{black}
use Rattle.mask_keys.specs.declared.plans.Draw.{Draw}
use Rattle.mask_keys.specs.Pictures.{image_of_draw}
use Rattle.mask_keys.proofs.DrawnLemmas.{images_drawn}
use Rattle.frame_view.specs.declared.view.FrameView.{FrameView}
use Rattle.picture_plan.specs.Pictures.{AreDraws, IsPictureAt}
use Rattle.plain_images.specs.PlainImages.{ArePlainImages, ArePlainOf, None, Next, PlainImagesMakeThePicture, with_plain_images}
use Rattle.plain_images.specs.declared.plain.PlainImage.{PlainImage}
use Rattle.player.specs.Listing.{AddsDraw}

-- the plain images of one image more
images_more : (size : Size) (images : List Image) (plains added : List PlainImage) (image : Image) → ArePlainImages size images plains → ArePlainOf size image added
    → ArePlainImages size (images ++ image ∷ []) (plains ++ added)
images_more size _ _ added image None h =
    subst (λ (z : List PlainImage). ArePlainImages size (image ∷ []) z) (append-nil added) (Next image [] added [] h None)
images_more size _ _ added image (Next first above plains rest of_first others) h =
    subst (λ (z : List PlainImage). ArePlainImages size (first ∷ (above ++ image ∷ [])) z) (sym (append_assoc plains rest added))
    (Next first (above ++ image ∷ []) plains (rest ++ added) of_first (images_more size above rest added image others h))

-- and of one draw more
pub draws_more : (size : Size) (fonts : List FontValue) (draws : List Draw) (i : ℕ) (draw : Draw) (old new : List PlainImage) → i < length draws → draw ≡ get_or draws i draw
    → ArePlainImages size (map (image_of_draw fonts) (take i draws)) old → AddsDraw size (image_of_draw fonts draw) old new
    → ArePlainImages size (map (image_of_draw fonts) (take (i + 1) draws)) new
draws_more size fonts draws i draw old new below is are adds =
    let more : map (image_of_draw fonts) (take (i + 1) draws) ≡ map (image_of_draw fonts) (take i draws) ++ image_of_draw fonts draw ∷ [] =
    map_more (image_of_draw fonts) draws i draw below ∙ ap (λ (d : Draw). map (image_of_draw fonts) (take i draws) ++ image_of_draw fonts d ∷ []) (sym is) in
    subst (λ (z : List Image). ArePlainImages size z new) (sym more)
    (subst (λ (z : List PlainImage). ArePlainImages size (map (image_of_draw fonts) (take i draws) ++ image_of_draw fonts draw ∷ []) z) (sym adds.1)
    (images_more size _ old adds.0 (image_of_draw fonts draw) are adds.2))

-- the listed images make the picture of their draws
pub listed_picture : (script : ScriptValue) (fonts : List FontValue) (events : List Event) (t : ℤ) (frame : FrameView) (draws : List Draw) (images : List PlainImage)
    → PlainImagesMakeThePicture → AreDraws script fonts events t frame draws → ArePlainImages frame.size (map (image_of_draw fonts) draws) images
    → IsPictureAt script fonts events t frame (with_plain_images (black frame.size.w frame.size.h) images)
listed_picture script fonts events t frame draws images law are plain =
    let size = frame.size in
    record {
      draws = draws;
      are_draws = are;
      value = law size (black size.w size.h) (map (image_of_draw fonts) draws) images refl refl (length-replicate (3 * (size.w * size.h)) 0) plain ∙ images_drawn fonts draws (black size.w size.h);
    }
