-- What own masks cost, image by image.
use Rattle.std.proofs.Common.{◌≡◌, ℕ, ◌+◌, ◌<◌, List, [], ◌∷◌, ◌++◌, length, take, get_or, sym, ap, ◌∙◌, append-nil}
use Rattle.std.proofs.lemmas.Grind.{flat_map-append}
use Rattle.std.proofs.lemmas.List.{take_more}
use Rattle.std.proofs.lemmas.List.Sums.{sum_by-append}
use Rattle.renderer.specs.Owning.{cost_of_owned, own_cost}
use Rattle.renderer.specs.ShownFrames.{FrameImage, MaskLease, leases_of, leases_of_image}

-- one image more
pub owned-more : (images : List FrameImage) (n : ℕ) (image : FrameImage) → n < length images → image ≡ get_or images n image
    → cost_of_owned (leases_of (take (n + 1) images)) ≡ cost_of_owned (leases_of (take n images)) + cost_of_owned (leases_of_image image)
owned-more images n image there is =
    let more : take (n + 1) images ≡ take n images ++ image ∷ [] = take_more images n image there ∙ ap (λ (x : FrameImage). take n images ++ x ∷ []) (sym is) in
    let apart : leases_of (take (n + 1) images) ≡ leases_of (take n images) ++ leases_of_image image =
    ap leases_of more ∙ (flat_map-append leases_of_image (take n images) (image ∷ []) ∙ ap (λ (l : List MaskLease). leases_of (take n images) ++ l) (append-nil (leases_of_image image))) in
    ap cost_of_owned apart ∙ sum_by-append own_cost (leases_of (take n images)) (leases_of_image image)
