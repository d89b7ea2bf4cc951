-- A picture that is painted chunk by chunk, each of some whole rows, is painted in bands.
use Rattle.std.proofs.Common.{◌≡◌, ℕ, zero, suc, ◌+◌, ◌-◌, ◌*◌, ◌/◌, ◌%◌, ◌<◌, ◌≤◌, min, Bool, false, ⊎_elim, List, [], ◌∷◌, ◌++◌, length, take, drop, fold, sum, refl, sym, ap, ◌∙◌, arith, length-drop}
use Rattle.std.specs.Bool.{◌==◌}
use Rattle.std.specs.Fork.{IsChunk, slice_chunk}
use Rattle.std.proofs.Math.Nat.{div-add-mod', div-mul-le_self, lt-div-mul-add, lt_of_mul-lt-mul_left, mul-add, mul-div_cancel_left, mul-le-mul_left, mul-le-mul_right, mul-lt-mul_of_pos_left, mul_assoc, mul_left_comm, mul-zero, suc-mul, zero-mul}
use Rattle.std.proofs.lemmas.Bool.{cases_lt}
use Rattle.std.proofs.lemmas.List.{append-nil, drop-drop, take_all, take-append-drop}
use Rattle.std.proofs.lemmas.List.Sums.{sum_by-cons}
use Rattle.ass_num.specs.declared.size.Size.{Size}
use Rattle.blend.specs.Bands.{painted_all, painted_bands}
use Rattle.blend.specs.Blending.{Image}
use Rattle.blend.specs.Canvases.{CanvasValue, drawn}
use Rattle.blend.proofs.BandLemmas.{bands_make_the_picture}
use Rattle.blend.specs.Painting.{IsBand, canvas_at}

-- the heights of n bands of so many rows, and of the band of the rows that are left
abbrev heights : ℕ → ℕ → ℕ → List ℕ
heights rows zero h = h ∷ []
heights rows (suc n) h = rows ∷ heights rows n (h - rows)

sum-heights : (rows n h : ℕ) → n * rows ≤ h → sum (heights rows n h) ≡ h
sum-heights rows zero h fits = omega arith
sum-heights rows (suc n) h fits =
    let more = suc-mul n rows in
    let rest = sum-heights rows n (h - rows) (omega arith) in
    omega (arith, sum_by-cons (λ (k : ℕ). k) rows (heights rows n (h - rows)))

first-chunk : (size : ℕ) (xs : List ℕ) → length xs ≤ size → slice_chunk xs size 0 ≡ xs
first-chunk size xs fits = ap (λ (k : ℕ). take size (drop k xs)) (zero-mul size) ∙ take_all size xs fits

later-chunk : (size i : ℕ) (xs : List ℕ) → slice_chunk (drop size xs) size i ≡ slice_chunk xs size (suc i)
later-chunk size i xs =
    let more = suc-mul i size in
    ap (take size) (drop-drop (i * size) size xs ∙ ap (λ (k : ℕ). drop k xs) (omega arith))

front-chunk : (size : ℕ) (xs : List ℕ) → slice_chunk xs size 0 ≡ take size xs
front-chunk size xs = ap (λ (k : ℕ). take size (drop k xs)) (zero-mul size)

module _ (images : List Image) (w rows size : ℕ) (is : size ≡ 3 * (w * rows)) where
  bands-from : (n h top : ℕ) (old new : List ℕ) → length old ≡ 3 * (w * h) → length new ≡ 3 * (w * h) → n * rows ≤ h → h ≤ n * rows + rows
      → ((i : ℕ) → i ≤ n → slice_chunk new size i ≡ painted_all images w (w * (top + i * rows)) (slice_chunk old size i))
      → painted_bands images w top (heights rows n h) old ≡ new
  bands-from zero h top old new len same least most each =
      let none = zero-mul rows in
      let within : w * h ≤ w * rows = mul-le-mul_left w (omega arith) in
      let here : top + 0 * rows ≡ top = omega arith in
      append-nil (painted_all images w (w * top) (take (3 * (w * h)) old))
      ∙ (ap (painted_all images w (w * top)) (take_all (3 * (w * h)) old (omega arith) ∙ sym (first-chunk size old (omega arith)))
      ∙ (ap (λ (k : ℕ). painted_all images w (w * k) (slice_chunk old size 0)) (sym here) ∙ (sym (each 0 (omega arith)) ∙ first-chunk size new (omega arith))))
  bands-from (suc n) h top old new len same least most each =
      let more = suc-mul n rows in
      let none = zero-mul rows in
      let parts : w * h ≡ w * rows + w * (h - rows) = ap (λ (k : ℕ). w * k) (omega arith) ∙ mul-add w rows (h - rows) in
      let here : top + 0 * rows ≡ top = omega arith in
      let front : painted_all images w (w * top) (take (3 * (w * rows)) old) ≡ take size new =
      ap (λ (k : ℕ). painted_all images w (w * top) (take k old)) (sym is)
      ∙ (ap (painted_all images w (w * top)) (sym (front-chunk size old))
      ∙ (ap (λ (k : ℕ). painted_all images w (w * k) (slice_chunk old size 0)) (sym here) ∙ (sym (each 0 (omega arith)) ∙ front-chunk size new))) in
      let back : painted_bands images w (top + rows) (heights rows n (h - rows)) (drop (3 * (w * rows)) old) ≡ drop size new =
      ap (λ (k : ℕ). painted_bands images w (top + rows) (heights rows n (h - rows)) (drop k old)) (sym is)
      ∙ bands-from n (h - rows) (top + rows) (drop size old) (drop size new) (omega (arith, length-drop size old)) (omega (arith, length-drop size new)) (omega arith) (omega arith)
      (λ i le.
      let next = suc-mul i rows in
      let place : top + suc i * rows ≡ (top + rows) + i * rows = omega arith in
      later-chunk size i new
      ∙ (each (suc i) (omega arith)
      ∙ (ap (λ (k : ℕ). painted_all images w (w * k) (slice_chunk old size (suc i))) place
      ∙ ap (painted_all images w (w * ((top + rows) + i * rows))) (sym (later-chunk size i old))))) in
      ap (λ (s : List ℕ). s ++ painted_bands images w (top + rows) (heights rows n (h - rows)) (drop (3 * (w * rows)) old)) front
      ∙ (ap (λ (s : List ℕ). take size new ++ s) back ∙ take-append-drop size new)

-- chunks of whole rows, each painted by itself, make the picture
chunks-make-the-picture : (c : CanvasValue) (images : List Image) (rows size n : ℕ) (new : List ℕ) → length c.bytes ≡ 3 * (c.w * c.h) → length new ≡ 3 * (c.w * c.h) → size ≡ 3 * (c.w * rows)
    → n * rows ≤ c.h → c.h ≤ n * rows + rows
    → ((i : ℕ) → i ≤ n → slice_chunk new size i ≡ painted_all images c.w (c.w * (i * rows)) (slice_chunk c.bytes size i))
    → (record c { bytes = new }) ≡ fold drawn c images
chunks-make-the-picture c images rows size n new len same is least most each =
    let bytes = bands-from images c.w rows size is n c.h 0 c.bytes new len same least most
    (λ i le.
    let here : 0 + i * rows ≡ i * rows = omega arith in
    each i le ∙ ap (λ (k : ℕ). painted_all images c.w (c.w * k) (slice_chunk c.bytes size i)) (sym here)) in
    ap (λ (s : List ℕ). let p : CanvasValue = record c { bytes = s } in p) (sym bytes) ∙ bands_make_the_picture c images (heights rows n c.h) len (sum-heights rows n c.h least)

-- one band of all rows
pub whole-drawn : (size : Size) (images : List Image) (old new : List ℕ) → length old ≡ 3 * (size.w * size.h) → new ≡ painted_all images size.w (size.w * 0) old
    → canvas_at size new ≡ fold drawn (canvas_at size old) images
whole-drawn size images old new len is =
    let w = size.w in
    let front : take (3 * (w * size.h)) old ≡ old = take_all (3 * (w * size.h)) old (omega arith) in
    let bytes : painted_bands images w 0 (size.h ∷ []) old ≡ new =
    append-nil (painted_all images w (w * 0) (take (3 * (w * size.h)) old)) ∙ (ap (painted_all images w (w * 0)) front ∙ sym is) in
    ap (canvas_at size) (sym bytes) ∙ bands_make_the_picture (canvas_at size old) images (size.h ∷ []) len (omega arith)

-- ---- where chunks begin and end

unit-rows : (w n rows : ℕ) → n * (3 * w * rows) ≡ 3 * (w * (n * rows))
unit-rows w n rows = mul_left_comm n (3 * w) rows ∙ mul_assoc 3 w (n * rows)

pub rows-of : (w k : ℕ) → 0 < w → 3 * (w * k) / (3 * w) ≡ k
rows-of w k wide = ap (λ (n : ℕ). n / (3 * w)) (sym (mul_assoc 3 w k)) ∙ mul-div_cancel_left k {n = 3 * w} (omega arith)

pub some-sides : (w h : ℕ) → 0 < 3 * (w * h) → (0 < w) × (0 < h)
some-sides zero h some = absurd (omega (arith, zero-mul h))
some-sides (suc w) zero some = absurd (omega (arith, mul-zero (suc w)))
some-sides (suc w) (suc h) some = (omega arith, omega arith)

pub some-chunk : (w rows : ℕ) → 0 < w → 0 < rows → 0 < 3 * w * rows
some-chunk w rows wide some = let least : 3 * w * 1 ≤ 3 * w * rows = mul-le-mul_left (3 * w) (omega (arith, some)) in omega (arith, least, wide)

pub some-bytes : (b : Bool) (n k : ℕ) → b ≡ (n == 0) → b ≡ false → n ≡ k → 0 < k
some-bytes b zero k is not same = cc
some-bytes b (suc n) k is not same = omega arith

some-quotient : (q r b h : ℕ) → q * b + r ≡ h → 0 < h → 0 < q + min 1 r
some-quotient zero r b h is some = omega (arith, zero-mul b)
some-quotient (suc q) r b h is some = omega arith

pub some-rows : (h bands : ℕ) → 0 < h → 0 < h / bands + min 1 (h % bands)
some-rows h bands some = some-quotient (h / bands) (h % bands) bands h (div-add-mod' h bands) some

module _ (size : Size) (rows start : ℕ) (xs ys : List ℕ) (wide : 0 < size.w) (len : length xs ≡ 3 * (size.w * size.h)) (chunk : IsChunk xs (3 * size.w * rows) start ys) where
  begins-there : start ≡ 3 * (size.w * (start / (3 * size.w * rows) * rows))
  begins-there =
      let whole = div-add-mod' start (3 * size.w * rows) in
      let even = chunk.start_is_multiple in
      let at : start ≡ start / (3 * size.w * rows) * (3 * size.w * rows) = omega arith in
      at ∙ unit-rows size.w (start / (3 * size.w * rows)) rows

  pub chunk-is-band : IsBand size start (length ys)
  chunk-is-band =
      let w = size.w in
      let t = start / (3 * size.w * rows) * rows in
      let place = begins-there in
      let is = chunk.len in
      let some = chunk.nonempty in
      let inside = chunk.in_bounds in
      let below : t < size.h = lt_of_mul-lt-mul_left w (omega arith) in
      let parts : w * size.h ≡ w * t + w * (size.h - t) = ap (λ (k : ℕ). w * k) (omega arith) ∙ mul-add w t (size.h - t) in
      let unit = mul_assoc 3 w rows in
      ⊎_elim
      (λ less. let within : w * rows ≤ w * (size.h - t) = mul-le-mul_left w (omega arith) in record { top = t; h = rows; begins = place; rows = omega arith; within = omega arith })
      (λ more. let within : w * (size.h - t) ≤ w * rows = mul-le-mul_left w more in record { top = t; h = size.h - t; begins = place; rows = omega arith; within = omega arith })
      (cases_lt rows (size.h - t))

-- ---- a frame's pixels

-- on no pixel nothing is drawn
none-drawn : (size : Size) (images : List Image) → canvas_at size [] ≡ fold drawn (canvas_at size []) images
none-drawn size [] = refl
none-drawn size (image ∷ images) = none-drawn size images

pub empty-drawn : (size : Size) (images : List Image) (bytes : List ℕ) → length bytes ≡ 0 → canvas_at size bytes ≡ fold drawn (canvas_at size bytes) images
empty-drawn size images [] none = none-drawn size images
empty-drawn size images (b ∷ bytes) none = absurd (omega arith)

pub pixels-drawn : (size : Size) (images : List Image) (rows : ℕ) (old new : List ℕ) → 0 < size.w → 0 < size.h → 0 < rows → length old ≡ 3 * (size.w * size.h) → length new ≡ length old
    → ((n top : ℕ) → n * (3 * size.w * rows) < length old → n * (3 * size.w * rows) ≡ 3 * (size.w * top)
    → slice_chunk new (3 * size.w * rows) n ≡ painted_all images size.w (size.w * top) (slice_chunk old (3 * size.w * rows) n))
    → canvas_at size new ≡ fold drawn (canvas_at size old) images
pixels-drawn size images rows old new wide tall some len same each =
    let w = size.w in
    let last = (size.h - 1) / rows in
    let least = div-mul-le_self (size.h - 1) rows in
    let most = lt-div-mul-add {a = size.h - 1} {b = rows} some in
    chunks-make-the-picture (canvas_at size old) images rows (3 * w * rows) last new len (same ∙ len) (mul_assoc 3 w rows) (omega arith) (omega arith)
    (λ n le.
    let rows_before : n * rows ≤ last * rows = mul-le-mul_right rows le in
    let inside : w * (n * rows) < w * size.h = mul-lt-mul_of_pos_left (omega arith) wide in
    let at = unit-rows w n rows in
    each n (n * rows) (omega arith) at)
