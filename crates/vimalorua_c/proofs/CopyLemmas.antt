-- Images one after the other, as numbers and as bytes.
use Rattle.std.proofs.Common.{◌≡◌, ℕ, ◌+◌, ◌≤◌, ◌<◌, List, [], ◌∷◌, ◌++◌, length, get_or, take, drop, sym, ap, ◌∙◌, append_assoc, arith}
use Rattle.std.proofs.Math.Seq.{take-append_seam}
use Rattle.std.proofs.lemmas.List.{flat_map_more, length-append, length-take-le, take-append-drop, take_more}
use Rattle.std.specs.List.{flat_map}
use Rattle.std.proofs.lemmas.List.Sums.{sum_by-append, sum_by-cons}
use Rattle.plain_images.specs.declared.plain.PlainImage.{PlainImage}
use Rattle.player.specs.Players.{mask_bytes}
use Rattle.vimalorua_c.specs.Calls.{all_numbers, image_numbers}
use Rattle.vimalorua_c.specs.declared.listing.ImageNumbers.{ImageNumbers}

-- bytes that were put behind a front
pub front_put : (at : ℕ) (xs ys rest : List ℕ) → at ≤ length xs → take (at + length ys) (take at xs ++ (ys ++ rest)) ≡ take at xs ++ ys
front_put at xs ys rest fits =
    let long : at + length ys ≡ length (take at xs ++ ys) = omega (arith, length-append (take at xs) ys, length-take-le at xs fits) in
    ap (take (at + length ys)) (sym (append_assoc (take at xs) ys rest)) ∙ ap (λ (n : ℕ). take n ((take at xs ++ ys) ++ rest)) long ∙ take-append_seam (take at xs ++ ys) rest

-- ---- one image more

numbers_behind : (images : List PlainImage) (image : PlainImage) (at : ℕ) → all_numbers (images ++ image ∷ []) at ≡ all_numbers images at ++ image_numbers image (at + mask_bytes images) ∷ []
numbers_behind [] image at = let same : at ≡ at + 0 = omega arith in ap (λ (n : ℕ). image_numbers image n ∷ []) same
numbers_behind (x ∷ images) image at =
    let place : (at + length x.mask.bytes) + mask_bytes images ≡ at + mask_bytes (x ∷ images) = omega (arith, sum_by-cons (λ (y : PlainImage). length y.mask.bytes) x images) in
    ap (λ (ns : List ImageNumbers). image_numbers x at ∷ ns)
    (numbers_behind images image (at + length x.mask.bytes) ∙ ap (λ (n : ℕ). all_numbers images (at + length x.mask.bytes) ++ image_numbers image n ∷ []) place)

pub numbers_more : (images : List PlainImage) (i : ℕ) (image : PlainImage) → i < length images → image ≡ get_or images i image
    → all_numbers (take (i + 1) images) 0 ≡ all_numbers (take i images) 0 ++ image_numbers image (mask_bytes (take i images)) ∷ []
numbers_more images i image below is =
    let more : take (i + 1) images ≡ take i images ++ image ∷ [] = take_more images i image below ∙ ap (λ (x : PlainImage). take i images ++ x ∷ []) (sym is) in
    let place : 0 + mask_bytes (take i images) ≡ mask_bytes (take i images) = omega arith in
    ap (λ (xs : List PlainImage). all_numbers xs 0) more ∙ numbers_behind (take i images) image 0
    ∙ ap (λ (n : ℕ). all_numbers (take i images) 0 ++ image_numbers image n ∷ []) place

pub bytes_more : (images : List PlainImage) (i : ℕ) (image : PlainImage) → i < length images → image ≡ get_or images i image
    → mask_bytes (take (i + 1) images) ≡ mask_bytes (take i images) + length image.mask.bytes
bytes_more images i image below is =
    let more : take (i + 1) images ≡ take i images ++ image ∷ [] = take_more images i image below ∙ ap (λ (x : PlainImage). take i images ++ x ∷ []) (sym is) in
    let one : mask_bytes (image ∷ []) ≡ length image.mask.bytes + 0 = sum_by-cons (λ (y : PlainImage). length y.mask.bytes) image [] in
    ap mask_bytes more ∙ omega (arith, sum_by-append (λ (y : PlainImage). length y.mask.bytes) (take i images) (image ∷ []), one)

pub bytes_within : (images : List PlainImage) (i : ℕ) (image : PlainImage) → i < length images → image ≡ get_or images i image
    → mask_bytes (take i images) + length image.mask.bytes ≤ mask_bytes images
bytes_within images i image below is =
    let parts : mask_bytes (take (i + 1) images ++ drop (i + 1) images) ≡ mask_bytes images = ap mask_bytes (take-append-drop (i + 1) images) in
    let sum : mask_bytes (take (i + 1) images ++ drop (i + 1) images) ≡ mask_bytes (take (i + 1) images) + mask_bytes (drop (i + 1) images) =
    sum_by-append (λ (y : PlainImage). length y.mask.bytes) (take (i + 1) images) (drop (i + 1) images) in
    omega (arith, parts, sum, bytes_more images i image below is)

pub masks_more : (images : List PlainImage) (i : ℕ) (image : PlainImage) → i < length images → image ≡ get_or images i image
    → flat_map (λ (y : PlainImage). y.mask.bytes) (take (i + 1) images) ≡ flat_map (λ (y : PlainImage). y.mask.bytes) (take i images) ++ image.mask.bytes
masks_more images i image below is =
    let more : take (i + 1) images ≡ take i images ++ image ∷ [] = take_more images i image below ∙ ap (λ (x : PlainImage). take i images ++ x ∷ []) (sym is) in
    ap (flat_map (λ (y : PlainImage). y.mask.bytes)) more ∙ sym (flat_map_more (λ (y : PlainImage). y.mask.bytes) [] (take i images) image)
