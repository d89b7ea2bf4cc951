-- Images with leases that were had all at once.
use Rattle.std.proofs.Common.{◌≡◌, ℕ, ◌+◌, ◌<◌, ◌≤◌, List, [], ◌∷◌, ◌++◌, length, map, take, drop, reverse, get_or, refl, sym, ap, ◌∙◌, subst, append-nil, append_assoc, arith}
use Rattle.std.proofs.lemmas.List.{append_cancel_left, length-append, length-map, length-reverse, map-append, map_more, nil_from_length, reverse-append, take-append-le, take_all}
use Rattle.ass_num.specs.Masks.{MaskValue}
use Rattle.bdf_font.specs.Fonts.{FontValue}
use Rattle.blend.specs.Blending as blend
use Rattle.mask_keys.specs.declared.composite_key.CompositeKey.{CompositeKey}
use Rattle.mask_keys.specs.declared.plans.Draw.{Draw}
use Rattle.mask_keys.proofs.PlanKeyLemmas.{plan_keys-cut, plan_keys-more}
use Rattle.mask_keys.specs.Pictures.{image_of_draw, stencil_of}
use Rattle.mask_keys.specs.Values.{composite_value}
use Rattle.mask_caches.specs.Leases.{lease_value}
use Rattle.renderer.specs.ShownFrames.{FrameImage, FrameStencil, MaskLease, image_shown, leases_of, leases_of_clip, leases_of_image, stencil_shown}
use Rattle.mask_keys.specs.PlanKeys.{clip_keys, draw_keys, plan_keys}
use Rattle.renderer.proofs.GivenLeases.{images-leases}

-- ---- lists

-- lists with prefixes that are as long
pub fronts-same : {X : Type 0} (a c b d : List X) → length a ≡ length c → a ++ b ≡ c ++ d → a ≡ c
fronts-same {X} a c b d long same =
    sym (take_all (length a) a (omega arith))
    ∙ (sym (take-append-le (length a) a b (omega arith))
    ∙ (ap (λ (l : List X). take (length a) l) same
    ∙ (take-append-le (length a) c d (omega (arith, long)) ∙ take_all (length a) c (omega (arith, long)))))

pub backs-same : {X : Type 0} (a c b d : List X) → length a ≡ length c → a ++ b ≡ c ++ d → b ≡ d
backs-same {X} a c b d long same = append_cancel_left c b d (ap (λ (l : List X). l ++ b) (sym (fronts-same a c b d long same)) ∙ same)

-- what is taken from the end of a list is first in the list turned around
pub turned-first : {X : Type 0} (all left : List X) (x : X) → all ≡ left ++ x ∷ [] → reverse all ≡ x ∷ reverse left
turned-first {X} all left x is = ap reverse is ∙ reverse-append left (x ∷ [])

-- ---- one image

module _ (fonts : List FontValue) where
  abbrev values : List MaskLease → List MaskValue
  values leases = map lease_value leases

  abbrev made : List CompositeKey → List MaskValue
  made keys = map (composite_value fonts) keys

  -- the image of a draw, by what its leases have
  pub image-ready : (draw : Draw) (lease : MaskLease) (clip : FrameStencil) (image : FrameImage)
      → leases_of_image image ≡ lease ∷ leases_of_clip clip
      → image_shown image ≡ record { mask = lease_value lease; x = draw.x; y = draw.y; left = draw.left; right = draw.right; edge = draw.edge; stencil = stencil_shown clip }
      → (values (leases_of_clip clip) ≡ made (clip_keys draw.clip) → stencil_shown clip ≡ stencil_of fonts draw.clip)
      → values (leases_of_image image) ≡ made (draw_keys draw) → image_shown image ≡ image_of_draw fonts draw
  image-ready draw lease clip image leases shown clip_shown had =
      let all : lease_value lease ∷ values (leases_of_clip clip) ≡ composite_value fonts draw.key ∷ made (clip_keys draw.clip) = ap values (sym leases) ∙ had in
      let first : lease_value lease ≡ composite_value fonts draw.key = ap (λ (l : List MaskValue). get_or l 0 (lease_value lease)) all in
      let later : values (leases_of_clip clip) ≡ made (clip_keys draw.clip) = ap (λ (l : List MaskValue). drop 1 l) all in
      let with_mask : MaskValue → blend.Image = λ (m : MaskValue). record { mask = m; x = draw.x; y = draw.y; left = draw.left; right = draw.right; edge = draw.edge; stencil = stencil_shown clip } in
      let with_stencil : blend.StencilValue → blend.Image = λ (s : blend.StencilValue). record { mask = composite_value fonts draw.key; x = draw.x; y = draw.y; left = draw.left; right = draw.right; edge = draw.edge; stencil = s } in
      shown ∙ (ap with_mask first ∙ ap with_stencil (clip_shown later))

-- ---- images

-- there is a lease for each key of the draws, and where the leases have the keys' masks the images are those of the draws
pub record AreReady (draws : List Draw) (images : List FrameImage) : Type 0 where
  pub many : length (leases_of images) ≡ length (plan_keys draws)
  pub shown : (fonts : List FontValue) → map lease_value (leases_of images) ≡ map (composite_value fonts) (plan_keys draws) → map image_shown images ≡ map (image_of_draw fonts) draws

pub ready-none : AreReady [] []
ready-none = record { many = refl; shown = λ fonts had. refl }

module _ (draws : List Draw) (i : ℕ) (draw : Draw) (below : i < length draws) (is : draw ≡ get_or draws i draw) where
  -- there are leases left for a draw
  pub ready-left : (images : List FrameImage) (left all : List MaskLease) → AreReady (take i draws) images → leases_of images ++ reverse left ≡ all → length all ≡ length (plan_keys draws) → length (draw_keys draw) ≤ length left
  ready-left images left all ready split many =
      let whole : length (leases_of images) + length left ≡ length all = omega (arith, ap length split, length-append (leases_of images) (reverse left), length-reverse left) in
      let cut : length (plan_keys draws) ≡ length (plan_keys (take (i + 1) draws)) + length (plan_keys (drop (i + 1) draws)) = ap length (plan_keys-cut draws (i + 1)) ∙ length-append (plan_keys (take (i + 1) draws)) (plan_keys (drop (i + 1) draws)) in
      let more : length (plan_keys (take (i + 1) draws)) ≡ length (plan_keys (take i draws)) + length (draw_keys draw) = ap length (plan_keys-more draws i draw below is) ∙ length-append (plan_keys (take i draws)) (draw_keys draw) in
      let had = ready.many in
      omega (arith, whole, cut, more, had, many)

  module _ (images after : List FrameImage) (image : FrameImage) (pushed : after ≡ images ++ image ∷ []) where
    grown : leases_of after ≡ leases_of images ++ leases_of_image image
    grown = ap leases_of pushed ∙ images-leases images image

    pub ready-split : (left rest all : List MaskLease) → leases_of images ++ reverse left ≡ all → reverse left ≡ leases_of_image image ++ reverse rest → leases_of after ++ reverse rest ≡ all
    ready-split left rest all split taken =
        ap (λ (l : List MaskLease). l ++ reverse rest) grown
        ∙ (append_assoc (leases_of images) (leases_of_image image) (reverse rest)
        ∙ (ap (λ (l : List MaskLease). leases_of images ++ l) (sym taken) ∙ split))

    pub ready-more : AreReady (take i draws) images → length (leases_of_image image) ≡ length (draw_keys draw)
        → ((fonts : List FontValue) → map lease_value (leases_of_image image) ≡ map (composite_value fonts) (draw_keys draw) → image_shown image ≡ image_of_draw fonts draw) → AreReady (take (i + 1) draws) after
    ready-more ready many shown = record {
      many =
          let had = ready.many in
          omega (arith, ap length grown, ap length (plan_keys-more draws i draw below is), length-append (leases_of images) (leases_of_image image), length-append (plan_keys (take i draws)) (draw_keys draw), had, many);
      shown = λ fonts had.
          let front = map lease_value (leases_of images) in let back = map lease_value (leases_of_image image) in
          let front_keys = map (composite_value fonts) (plan_keys (take i draws)) in let back_keys = map (composite_value fonts) (draw_keys draw) in
          let whole : front ++ back ≡ front_keys ++ back_keys =
          sym (map-append lease_value (leases_of images) (leases_of_image image))
          ∙ (ap (map lease_value) (sym grown)
          ∙ (had ∙ (ap (map (composite_value fonts)) (plan_keys-more draws i draw below is) ∙ map-append (composite_value fonts) (plan_keys (take i draws)) (draw_keys draw)))) in
          let long : length front ≡ length front_keys = length-map (leases_of images) lease_value ∙ (ready.many ∙ sym (length-map (plan_keys (take i draws)) (composite_value fonts))) in
          ap (map image_shown) pushed
          ∙ (map-append image_shown images (image ∷ [])
          ∙ (ap (λ (l : List blend.Image). l ++ image_shown image ∷ []) (ready.shown fonts (fronts-same front front_keys back back_keys long whole))
          ∙ (ap (λ (z : blend.Image). map (image_of_draw fonts) (take i draws) ++ z ∷ []) (shown fonts (backs-same front front_keys back back_keys long whole) ∙ ap (image_of_draw fonts) is)
          ∙ sym (map_more (image_of_draw fonts) draws i draw below))));
    }

-- ---- all images

module _ (draws : List Draw) (n : ℕ) (images : List FrameImage) (left all : List MaskLease) (past : length draws ≤ n) (ready : AreReady (take n draws) images) (split : leases_of images ++ reverse left ≡ all) (many : length all ≡ length (plan_keys draws)) where
  pub ready-all : AreReady draws images
  ready-all = subst (λ (l : List Draw). AreReady l images) (take_all n draws past) ready

  pub nothing-left : left ≡ []
  nothing-left =
      let had = ready-all.many in
      nil_from_length left (omega (arith, ap length split, length-append (leases_of images) (reverse left), length-reverse left, had, many))

  pub leases-same : leases_of images ≡ all
  leases-same = sym (ap (λ (l : List MaskLease). leases_of images ++ reverse l) nothing-left ∙ append-nil (leases_of images)) ∙ split
