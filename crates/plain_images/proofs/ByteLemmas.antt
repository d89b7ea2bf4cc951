-- Bytes that are added row by row, and masks that are made of them.
use Rattle.std.proofs.Common.{◌≡◌, ℕ, ◌+◌, ◌-◌, ◌*◌, ◌<◌, ◌≤◌, ℤ, pos, true, false, ◌==◌, List, [], ◌∷◌, ◌++◌, length, get_or, slice_index, refl, sym, ◌∙◌, ⊎_elim, arith, length-append}
use Rattle.std.proofs.lemmas.Bool.{cases_lt}
use Rattle.std.proofs.lemmas.Bool.Decides.{nat_tests}
use Rattle.std.proofs.lemmas.Int.{ints}
use Rattle.std.proofs.lemmas.List.{get_or_append_left, get_or-append-add}
use Rattle.std.proofs.Math.Seq.{get_or-append_seam}
use Rattle.ass_num.specs.Masks.{MaskValue, is_mask, value_at}
use Rattle.ass_num.proofs.MaskLemmas.{cell_below, value_inside}
use Rattle.blend.specs.Blending.{StencilValue}
use Rattle.plain_images.specs.Cutting.{AddsBytes, AreRowsOf, IsCutOf, IsCuttable, IsRowCovered, stencilled_at}
use Rattle.plain_images.specs.Panes.{box_pane}
use Rattle.plain_images.specs.declared.panes.Pane.{Pane}
use Rattle.plain_images.proofs.PaneLemmas.{bounds, has}

-- ---- rows of a mask

-- the rows of a pane are covered where the pane can be cut
pub row_covered : (moved : MaskValue × ℤ × ℤ) (pane : Pane) (x y w h j : ℕ) → IsCuttable moved pane → 0 < w
    → pane.x1 ≡ pos x → pane.x2 ≡ pos (x + w) → pane.y1 ≡ pos y → pane.y2 ≡ pos (y + h) → y ≤ j → j < y + h → IsRowCovered moved x w j
row_covered moved pane x y w h j is some x1 x2 y1 y2 from to =
    let box = is.box in
    record {
      some = some;
      first = has (box_pane moved.0 moved.1 moved.2) (pos x) (pos j)
          (omega (arith, ints, box.left, x1)) (omega (arith, ints, box.right, x2)) (omega (arith, ints, box.top, y1)) (omega (arith, ints, box.bottom, y2));
      last = has (box_pane moved.0 moved.1 moved.2) (pos (x + w - 1)) (pos j)
          (omega (arith, ints, box.left, x1)) (omega (arith, ints, box.right, x2)) (omega (arith, ints, box.top, y1)) (omega (arith, ints, box.bottom, y2));
    }

-- ---- adding bytes

pub adds_none : (f : ℕ → ℕ) (old : List ℕ) → AddsBytes f 0 old old
adds_none f old = record { count = omega arith; kept = λ k h. refl; added = λ k h. absurd (omega arith) }

-- one byte more
pub adds_one : (f : ℕ → ℕ) (n byte : ℕ) (old mid : List ℕ) → AddsBytes f n old mid → byte ≡ f n → AddsBytes f (n + 1) old (mid ++ byte ∷ [])
adds_one f n byte old mid adds is = record {
  count = length-append mid (byte ∷ []) ∙ omega (arith, adds.count);
  kept = λ k h. get_or_append_left mid (byte ∷ []) 0 k (omega (arith, adds.count)) ∙ adds.kept k h;
  added = λ k h. ⊎_elim
      (λ (less : k < n). get_or_append_left mid (byte ∷ []) 0 (length old + k) (omega (arith, adds.count)) ∙ adds.added k less)
      (λ (last : n ≤ k).
      let at : length old + k ≡ length mid = omega (arith, adds.count) in
      let number : k ≡ n = omega arith in
      rw (at, number) (get_or-append_seam mid byte [] 0 ∙ is))
      (cases_lt k n);
}

-- a whole row
pub adds_row : (f : ℕ → ℕ) (w : ℕ) (old row new : List ℕ) → new ≡ old ++ row → length row ≡ w → ((k : ℕ) → k < w → slice_index row k ≡ f k) → AddsBytes f w old new
adds_row f w old row new is count each = rw is (record {
  count = length-append old row ∙ omega (arith, count);
  kept = λ k h. get_or_append_left old row 0 k h;
  added = λ k h. get_or-append-add old row k 0 ∙ each k h;
})

-- the same bytes by other words
pub adds_same : (f g : ℕ → ℕ) (n w : ℕ) (old new : List ℕ) → AddsBytes f n old new → n ≡ w → ((k : ℕ) → k < w → f k ≡ g k) → AddsBytes g w old new
adds_same f g n w old new adds count same = record {
  count = omega (arith, adds.count, count);
  kept = adds.kept;
  added = λ k h. adds.added k (omega (arith, count)) ∙ same k h;
}

-- ---- rows one after the other

pub rows_none : (f : ℕ → ℕ → ℕ) (w : ℕ) → AreRowsOf f w 0 []
rows_none f w = record { count = omega arith; each = λ k l a b. absurd (omega arith) }

-- one row more
pub rows_more : (f : ℕ → ℕ → ℕ) (w n : ℕ) (old new : List ℕ) → AreRowsOf f w n old → AddsBytes (λ k. f k n) w old new → AreRowsOf f w (n + 1) new
rows_more f w n old new rows adds = record {
  count = omega (arith, rows.count, adds.count);
  each = λ k l a b. ⊎_elim
      (λ (less : l < n).
      let inside : l * w + k < n * w = omega (arith, cell_below k l w n a less) in
      adds.kept (l * w + k) (omega (arith, rows.count)) ∙ rows.each k l a less)
      (λ (last : n ≤ l).
      let number : l ≡ n = omega arith in
      let at : n * w + k ≡ length old + k = omega (arith, rows.count) in
      rw (number, at) (adds.added k a))
      (cases_lt l n);
}

-- ---- masks

-- rows of bytes with a pixel make a mask
pub rows_mask : (x y : ℤ) (w h : ℕ) (bytes : List ℕ) → length bytes ≡ h * w → 0 < w → 0 < h → is_mask (record { x = x; y = y; w = w; h = h; bytes = bytes }) ≡ true
rows_mask x y w h bytes count a b =
    let some : 0 < w * h = omega (arith, cell_below 0 0 w h a b) in
    let same : (length bytes == w * h) ≡ true = let e : length bytes ≡ w * h = omega (arith, count) in grind (arith, nat_tests) in
    let full : (length bytes == 0) ≡ false = let e : 0 < length bytes = omega (arith, count) in grind (arith, nat_tests) in
    rw (same, full) refl

pub cut_is : (moved : MaskValue × ℤ × ℤ) (stencil : StencilValue) (pane : Pane) (x y w h : ℕ) (mask : MaskValue) → 0 < w → 0 < h
    → pane.x1 ≡ pos x → pane.x2 ≡ pos (x + w) → pane.y1 ≡ pos y → pane.y2 ≡ pos (y + h)
    → mask.x ≡ pos x → mask.y ≡ pos y → mask.w ≡ w → mask.h ≡ h → is_mask mask ≡ true
    → AreRowsOf (λ k l. stencilled_at moved stencil (x + k) (y + l)) w h mask.bytes → IsCutOf moved stencil pane mask
cut_is moved stencil pane x y w h mask wide high x1 x2 y1 y2 left top columns rows whole are = record {
  left = left ∙ sym x1;
  top = top ∙ sym y1;
  right = omega (arith, ints, left, columns, x2);
  bottom = omega (arith, ints, top, rows, y2);
  whole = whole;
  values = λ i j inside.
      let b = bounds pane (pos i) (pos j) inside in
      let low : x ≤ i = omega (arith, ints, b.left, x1) in
      let under : i < x + w = omega (arith, ints, b.right, x2) in
      let down : y ≤ j = omega (arith, ints, b.top, y1) in
      let over : j < y + h = omega (arith, ints, b.bottom, y2) in
      let column : x + (i - x) ≡ i = omega arith in
      let row : y + (j - y) ≡ j = omega arith in
      let at : value_at mask (pos i) (pos j) ≡ get_or mask.bytes ((j - y) * mask.w + (i - x)) 0 =
      value_inside mask (pos i) (pos j) (i - x) (j - y) (omega (arith, ints, left)) (omega (arith, ints, top)) (omega (arith, columns)) (omega (arith, rows)) in
      let byte : get_or mask.bytes ((j - y) * w + (i - x)) 0 ≡ stencilled_at moved stencil i j =
      rw (column, row) at (are.each (i - x) (j - y) (omega arith) (omega arith)) in
      at ∙ rw columns byte;
}
