-- The images of draws, one more at each step of a loop.
use Rattle.std.proofs.Common.{◌≡◌, ℕ, ◌+◌, ◌<◌, List, [], ◌∷◌, ◌++◌, length, get_or, map, take, sym, ap, ◌∙◌}
use Rattle.std.proofs.lemmas.List.{map_more}
use Rattle.bdf_font.specs.Fonts.{FontValue}
use Rattle.blend.specs.Blending.{Image}
use Rattle.mask_keys.specs.declared.plans.Draw.{Draw}
use Rattle.mask_keys.specs.Pictures.{image_of_draw}

pub images_more : (fonts now : List FontValue) (draws : List Draw) (i : ℕ) (draw : Draw) (images : List Image) (image : Image) → i < length draws → draw ≡ get_or draws i draw → now ≡ fonts
    → images ≡ map (image_of_draw fonts) (take i draws) → image ≡ image_of_draw now draw → images ++ image ∷ [] ≡ map (image_of_draw fonts) (take (i + 1) draws)
images_more fonts now draws i draw images image below is same so own =
    let f : Draw → Image = image_of_draw fonts in
    let value : image ≡ f (get_or draws i draw) = own ∙ (ap (λ (g : List FontValue). image_of_draw g draw) same ∙ ap f is) in
    ap (λ (ms : List Image). ms ++ image ∷ []) so ∙ (ap (λ (m : Image). map f (take i draws) ++ m ∷ []) value ∙ sym (map_more f draws i draw below))
