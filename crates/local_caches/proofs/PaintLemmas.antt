-- Masks and draws, one more at each step of a loop.
use Rattle.std.proofs.Common.{◌≡◌, ℕ, ◌+◌, ◌<◌, List, [], ◌∷◌, ◌++◌, length, get_or, take, drop, sym, ap, ◌∙◌}
use Rattle.std.specs.List.{fold}
use Rattle.std.proofs.lemmas.List.{map_more, take-append-drop}
use Rattle.std.proofs.lemmas.List.Sums.{fold_more}
use Rattle.ass_num.specs.Masks.{MaskValue}
use Rattle.bdf_font.specs.Fonts.{FontValue}
use Rattle.blend.specs.Canvases.{CanvasValue}
use Rattle.mask_keys.specs.declared.composite_key.CompositeKey.{CompositeKey}
use Rattle.mask_keys.specs.declared.composite_key.Part.{Part}
use Rattle.mask_keys.specs.declared.plans.Draw.{Draw}
use Rattle.mask_keys.specs.Masks.{summed_mask}
use Rattle.mask_keys.specs.Pictures.{with_draw}
use Rattle.mask_keys.specs.Values.{composite_value, mask_value}
use Rattle.made_values.specs.Parts.{masks_of, placed_masks}
use Rattle.made_values.proofs.KeyLemmas.{placed_are}
use Rattle.local_caches.specs.Painting.{IsFrontPainted}

-- ---- parts

pub masks-more : (fonts now : List FontValue) (parts : List Part) (i : ℕ) (part : Part) (masks : List MaskValue) (mask : MaskValue) → i < length parts → part ≡ get_or parts i part → now ≡ fonts
    → masks ≡ masks_of fonts (take i parts) → mask ≡ mask_value now part.mask → masks ++ mask ∷ [] ≡ masks_of fonts (take (i + 1) parts)
masks-more fonts now parts i part masks mask below is same so own =
    let f : Part → MaskValue = λ p. mask_value fonts p.mask in
    let value : mask ≡ f (get_or parts i part) = own ∙ (ap (λ (g : List FontValue). mask_value g part.mask) same ∙ ap f is) in
    ap (λ (ms : List MaskValue). ms ++ mask ∷ []) so ∙ (ap (λ (m : MaskValue). masks_of fonts (take i parts) ++ m ∷ []) value ∙ sym (map_more f parts i part below))

pub composite-made : (fonts : List FontValue) (key : CompositeKey) (parts : List Part) (made read : List MaskValue) (mask : MaskValue) → parts ≡ key.parts → made ≡ masks_of fonts parts → read ≡ made
    → mask ≡ summed_mask (placed_masks parts read) → mask ≡ composite_value fonts key
composite-made fonts key parts made read mask is own same summed =
    summed
    ∙ (ap (λ (masks : List MaskValue). summed_mask (placed_masks parts masks)) (same ∙ own)
    ∙ (ap (λ (ps : List Part). summed_mask (placed_masks ps (masks_of fonts ps))) is ∙ ap summed_mask (placed_are fonts key.parts)))

-- ---- draws

pub painted-more : (fonts now : List FontValue) (draws : List Draw) (i : ℕ) (draw : Draw) (old before after : CanvasValue) → i < length draws → draw ≡ get_or draws i draw → now ≡ fonts
    → before ≡ fold (with_draw fonts) old (take i draws) → after ≡ with_draw now before draw → after ≡ fold (with_draw fonts) old (take (i + 1) draws)
painted-more fonts now draws i draw old before after below is same so step =
    step
    ∙ (ap (λ (f : List FontValue). with_draw f before draw) same
    ∙ (ap (λ (canvas : CanvasValue). with_draw fonts canvas draw) so
    ∙ (ap (λ (d : Draw). with_draw fonts (fold (with_draw fonts) old (take i draws)) d) is ∙ sym (fold_more (with_draw fonts) old draws i draw below))))

pub painted-front : (fonts : List FontValue) (draws : List Draw) (i : ℕ) (old before after : CanvasValue) → before ≡ fold (with_draw fonts) old (take i draws) → after ≡ before → IsFrontPainted fonts draws old after
painted-front fonts draws i old before after so same = record { front = take i draws; back = drop i draws; is = sym (take-append-drop i draws); painted = same ∙ so }
