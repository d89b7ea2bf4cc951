-- A picture that is painted chunk by chunk, each of some whole rows.
use Rattle.std.proofs.Common.{◌≡◌, ℕ, zero, suc, ◌+◌, ◌-◌, ◌*◌, ◌/◌, ◌%◌, ◌^◌, ◌<◌, ◌≤◌, min, ⊎_elim, List, [], ◌∷◌, length, get_or, sym, ap, subst, ◌∙◌, arith}
use Rattle.std.specs.Fork.{IsChunk}
use Rattle.std.proofs.Math.Nat.{div-add-mod', lt_of_mul-lt-mul_left, mul-add, mul-div_cancel_left, mul-le-mul_left, mul-le-mul_right, mul_assoc, mul_left_comm, mul-zero, zero-mul}
use Rattle.std.proofs.lemmas.Bool.{cases_lt}
use Rattle.ass_num.specs.declared.size.Size.{Size}
use Rattle.alpha_bands.specs.AlphaBands.{AreBandRows}
use Rattle.alpha_canvas.specs.Alpha.{AreAlphaRows, byte_of, formed_pixel, layers_at}
use Rattle.alpha_canvas.specs.declared.pixel.AlphaForm.{AlphaForm}
use Rattle.blend.specs.Blending.{Image}

pub rows-of : (w k : ℕ) → 0 < w → 4 * (w * k) / (4 * w) ≡ k
rows-of w k wide = ap (λ (n : ℕ). n / (4 * w)) (sym (mul_assoc 4 w k)) ∙ mul-div_cancel_left k {n = 4 * w} (omega arith)

pub some-sides : (w h : ℕ) → 0 < 4 * (h * w) → (0 < w) × (0 < h)
some-sides w zero some = absurd (omega (arith, zero-mul w))
some-sides zero (suc h) some = absurd (omega (arith, mul-zero (suc h)))
some-sides (suc w) (suc h) some = (omega arith, omega arith)

pub some-chunk : (w rows : ℕ) → 0 < w → 0 < rows → 0 < 4 * w * rows
some-chunk w rows wide some = let least : 4 * w * 1 ≤ 4 * w * rows = mul-le-mul_left (4 * w) (omega (arith, some)) in omega (arith, least, wide)

module _ (size : Size) (rows start : ℕ) (xs ys : List ℕ) (wide : 0 < size.w) (high : size.h < 2 ^ 32) (len : length xs ≡ 4 * (size.h * size.w)) (chunk : IsChunk xs (4 * size.w * rows) start ys) where
  begins-there : start ≡ 4 * (size.w * (start / (4 * size.w * rows) * rows))
  begins-there =
      let whole = div-add-mod' start (4 * size.w * rows) in
      let even = chunk.start_is_multiple in
      let at : start ≡ start / (4 * size.w * rows) * (4 * size.w * rows) = omega arith in
      at ∙ (mul_left_comm (start / (4 * size.w * rows)) (4 * size.w) rows ∙ mul_assoc 4 size.w (start / (4 * size.w * rows) * rows))

  -- a chunk is whole rows
  pub chunk-is-band : AreBandRows size.w start (length ys)
  chunk-is-band =
      let w = size.w in
      let t = start / (4 * size.w * rows) * rows in
      let place = begins-there in
      let is = chunk.len in
      let some = chunk.nonempty in
      let inside = chunk.in_bounds in
      let turned : size.h * w ≡ w * size.h = omega arith in
      let below : t < size.h = lt_of_mul-lt-mul_left w (omega arith) in
      let parts : w * size.h ≡ w * t + w * (size.h - t) = ap (λ (k : ℕ). w * k) (omega arith) ∙ mul-add w t (size.h - t) in
      let unit = mul_assoc 4 w rows in
      ⊎_elim
      (λ less. let within : w * rows ≤ w * (size.h - t) = mul-le-mul_left w (omega arith) in record { top = t; h = rows; begins = place; rows = omega arith; small = omega arith })
      (λ more. let within : w * (size.h - t) ≤ w * rows = mul-le-mul_left w more in record { top = t; h = size.h - t; begins = place; rows = omega arith; small = omega arith })
      (cases_lt rows (size.h - t))

-- A byte of a band is that of the picture.
pub byte-there : (form : AlphaForm) (images : List Image) (w top h start offset i j c : ℕ) (band : List ℕ) → AreAlphaRows form images w top h band → start ≡ 4 * (w * top)
    → start + offset ≡ 4 * (j * w + i) + c → offset < 4 * (w * h) → i < w → c < 4 → get_or band offset 0 ≡ byte_of (formed_pixel form (layers_at images i j)) c
byte-there form images w top h start offset i j c band are begins at inside column small =
    let turned : j * w ≡ w * j = omega arith in
    let below : w * top < w * (j + 1) = (let more : w * (j + 1) ≡ w * j + w = omega arith in omega (arith, begins, at, turned, more, column, small)) in
    let from : top ≤ j = (let lt : top < j + 1 = lt_of_mul-lt-mul_left w below in omega (arith, lt)) in
    let parts : w * j ≡ w * top + w * (j - top) = ap (λ (k : ℕ). w * k) (let sum : j ≡ top + (j - top) = omega (arith, from) in sum) ∙ mul-add w top (j - top) in
    let back : (j - top) * w ≡ w * (j - top) = omega arith in
    let place : offset ≡ 4 * ((j - top) * w + i) + c = omega (arith, begins, at, turned, parts, back) in
    let row : j - top < h = lt_of_mul-lt-mul_left w (omega (arith, place, back, inside)) in
    let here : top + (j - top) ≡ j = omega (arith, from) in
    ap (λ (k : ℕ). get_or band k 0) place ∙ are.each i (j - top) c column row small ∙ ap (λ (k : ℕ). byte_of (formed_pixel form (layers_at images i k)) c) here

-- where no byte is, there is no pixel
pub no-rows : (form : AlphaForm) (images : List Image) (w h : ℕ) (bytes : List ℕ) → length bytes ≡ 4 * (h * w) → length bytes ≡ 0 → AreAlphaRows form images w 0 h bytes
no-rows form images w h bytes len none = record {
  count = len;
  each = λ i j c column row small.
      let rows : (j + 1) * w ≤ h * w = mul-le-mul_right w (let next : j + 1 ≤ h = omega (arith, row) in next) in
      let more : (j + 1) * w ≡ j * w + w = omega arith in
      absurd (omega (arith, rows, more, column, len, none));
}

-- bands make the picture
pub rows-painted : (form : AlphaForm) (images : List Image) (w h : ℕ) (old new : List ℕ) → length old ≡ 4 * (h * w) → length new ≡ length old
    → ((k : ℕ) → k < length old → (start offset top rows : ℕ) × (band : List ℕ) × (start + offset ≡ k) × (start ≡ 4 * (w * top)) × (offset < 4 * (w * rows))
    × AreAlphaRows form images w top rows band × (get_or band offset 0 ≡ get_or new k 0))
    → AreAlphaRows form images w 0 h new
rows-painted form images w h old new len same each = record {
  count = same ∙ len;
  each = λ i j c column row small.
      let most : (j + 1) * w ≤ h * w = mul-le-mul_right w (let next : j + 1 ≤ h = omega (arith, row) in next) in
      let more : (j + 1) * w ≡ j * w + w = omega arith in
      let (start, offset, top, rows, band, at, begins, inside, are, is) = each (4 * (j * w + i) + c) (omega (arith, len, most, more, column, small)) in
      let from_top : 0 + j ≡ j = omega arith in
      sym is ∙ byte-there form images w top rows start offset i j c band are begins at inside column small
      ∙ ap (λ (k : ℕ). byte_of (formed_pixel form (layers_at images i k)) c) (sym from_top);
}
