-- Images that are lent draw by draw.
use Rattle.std.proofs.Common.{◌≡◌, ℕ, ◌+◌, ◌<◌, List, [], ◌∷◌, ◌++◌, length, map, take, drop, get_or, refl, sym, ap, ap₂, ◌∙◌, subst}
use Rattle.std.proofs.lemmas.List.{map-append, map_more}
use Rattle.ass_num.specs.Masks.{MaskValue}
use Rattle.bdf_font.specs.Fonts.{FontValue}
use Rattle.blend.specs.Blending as blend
use Rattle.mask_keys.specs.declared.composite_key.CompositeKey.{CompositeKey}
use Rattle.mask_keys.specs.declared.plans.Draw.{Draw}
use Rattle.mask_keys.proofs.PlanKeyLemmas.{plan_keys-cut, plan_keys-more}
use Rattle.mask_keys.specs.Pictures.{image_of_draw, image_with, stencil_of}
use Rattle.mask_keys.specs.Values.{composite_value}
use Rattle.mask_caches.specs.Leases.{lease_value}
use Rattle.mask_caches.specs.Caches.{IsPassOf}
use Rattle.mask_caches.specs.declared.caches.Caches.{Caches}
use Rattle.mask_caches.specs.declared.passes.CachesPass.{CachesPass}
use Rattle.renderer.specs.ShownFrames.{FrameImage, FrameStencil, MaskLease, image_shown, leases_of, leases_of_image, stencil_shown}
use Rattle.mask_keys.specs.PlanKeys.{draw_keys, plan_keys}
use Rattle.renderer.specs.Leasing.{IsLent, IsUnlent}
use Rattle.renderer.proofs.Leasing.{lent-none, lent-then, unlent-front, unlent-then}
use Rattle.renderer.proofs.GivenLeases.{GivesLeases, images-leases}

-- the image of a draw, with leases that have the masks of its keys
pub image-lent : (fonts : List FontValue) (draw : Draw) (lease : MaskLease) (clip : FrameStencil) (image : FrameImage) → image ≡ image_with draw lease clip
    → lease_value lease ≡ composite_value fonts draw.key → stencil_shown clip ≡ stencil_of fonts draw.clip → image_shown image ≡ image_of_draw fonts draw
image-lent fonts draw lease clip image is mask stencil =
    ap image_shown is
    ∙ ap₂ (λ (m : MaskValue) (s : blend.StencilValue). let shown : blend.Image = record { mask = m; x = draw.x; y = draw.y; left = draw.left; right = draw.right; edge = draw.edge; stencil = s } in shown) mask stencil

-- the images are those of the draws, with what was had of their keys
pub record AreLent (caches : Caches) (fonts : List FontValue) (p q : CachesPass) (draws : List Draw) (images : List FrameImage) : Type 0 where
  pub lent : IsLent caches p q (plan_keys draws) (leases_of images)
  pub shown : map image_shown images ≡ map (image_of_draw fonts) draws

module _ (caches : Caches) (fonts : List FontValue) (p : CachesPass) (draws : List Draw) where
  pub images-none : IsPassOf caches p → AreLent caches fonts p p (take 0 draws) []
  images-none of = record { lent = lent-none caches p of; shown = refl }

  pub images-more : (q r : CachesPass) (i : ℕ) (draw : Draw) (images after : List FrameImage) (image : FrameImage) → i < length draws → draw ≡ get_or draws i draw → after ≡ images ++ image ∷ [] → AreLent caches fonts p q (take i draws) images
      → IsLent caches q r (draw_keys draw) (leases_of_image image) → image_shown image ≡ image_of_draw fonts draw → AreLent caches fonts p r (take (i + 1) draws) after
  images-more q r i draw images after image below is pushed had lent shown = record {
    lent =
        subst (λ (l : List MaskLease). IsLent caches p r (plan_keys (take (i + 1) draws)) l) (sym (ap leases_of pushed ∙ images-leases images image))
        (subst (λ (l : List CompositeKey). IsLent caches p r l (leases_of images ++ leases_of_image image)) (sym (plan_keys-more draws i draw below is))
        (lent-then caches p q r (plan_keys (take i draws)) (draw_keys draw) (leases_of images) (leases_of_image image) had.lent lent));
    shown =
        ap (map image_shown) pushed
        ∙ (map-append image_shown images (image ∷ [])
        ∙ (ap (λ (l : List blend.Image). l ++ image_shown image ∷ []) had.shown
        ∙ (ap (λ (z : blend.Image). map (image_of_draw fonts) (take i draws) ++ z ∷ []) (shown ∙ ap (image_of_draw fonts) is) ∙ sym (map_more (image_of_draw fonts) draws i draw below))));
  }

  -- a draw's image wasn't lent, and those before it are given back
  pub images-refused : (q r s : CachesPass) (i : ℕ) (draw : Draw) (images : List FrameImage) → i < length draws → draw ≡ get_or draws i draw → AreLent caches fonts p q (take i draws) images → IsUnlent caches q r (draw_keys draw)
      → IsPassOf caches s → GivesLeases caches r s (leases_of images) → IsUnlent caches p s (plan_keys draws)
  images-refused q r s i draw images below is had refused of back =
      subst (λ (l : List CompositeKey). IsUnlent caches p s l) (sym (plan_keys-cut draws (i + 1)))
      (unlent-front caches p s (plan_keys (take (i + 1) draws)) (plan_keys (drop (i + 1) draws))
      (subst (λ (l : List CompositeKey). IsUnlent caches p s l) (sym (plan_keys-more draws i draw below is))
      (unlent-then caches p q r s (plan_keys (take i draws)) (draw_keys draw) (leases_of images) had.lent refused of back)))
