-- The winding numbers of the rectangles of runs of set pixels are those of the pixels' quads.
use Rattle.std.proofs.Common.{◌≡◌, ℕ, zero, suc, ◌+◌, ◌-◌, ◌<◌, ◌≤◌, Bool, true, false, cond, if◌then◌else◌, ℤ, pos, neg_ℤ, ◌+ℤ◌, ◌-ℤ◌, ◌*ℤ◌, ◌≤ℤ◌, ◌<ℤ◌, List, [], ◌∷◌, ◌++◌, refl, sym, ap, ◌∙◌, append_assoc, arith, count_by, flat_map}
use Rattle.std.specs.List.{range_with_len}
use Rattle.std.proofs.Math.IntN.{*ℤ-zero}
use Rattle.std.proofs.lemmas.Grind.{flat_map-append}
use Rattle.std.proofs.lemmas.Int.{ints, by_lt_z}
use Rattle.std.proofs.lemmas.List.Sums.{sum_by-append}
use Rattle.ass_num.proofs.ListLemmas.{flat_more}
use Rattle.ass_num.proofs.OrderLemmas.{le_true, le_false, lt_false}
use Rattle.ass_num.specs.Bitmaps.{pixel_is_set}
use Rattle.ass_num.specs.Sine.{sine_of, cosine_of, sines}
use Rattle.ass_num.specs.Winding.{counts, edges, edges_of, place, winding}
use Rattle.ass_num.specs.declared.geometry.Matrix.{Matrix}
use Rattle.ass_num.specs.declared.geometry.Point.{Point}
use Rattle.outline_points.specs.Glyphs.{Bitmap, glyph_point, pixel_quads, quad, row_quads, scaled_pixel, set_quads}
use Rattle.outline_points.specs.Placing.{held_coordinate, turned_by}
use Rattle.bdf_font.specs.Fonts.{FontValue}
use Rattle.bdf_font.specs.GlyphRings.{bar_rings, rings_of_glyph, shape_rings}
use Rattle.bdf_font.specs.declared.glyphs.FontGlyph.{FontGlyph}
use Rattle.fixed_outline.specs.Runs.{IsGap, IsSetRun, run_quads, run_rings}

-- ---- rings of one list and of another
pub winding-append : (xs ys : List (List Point)) (i j : ℤ) → winding (xs ++ ys) i j ≡ winding xs i j +ℤ winding ys i j
winding-append xs ys i j =
    let forth : List (Point × Point) → ℕ = λ es. count_by (λ (e : Point × Point). counts e.0 e.1 (place i) (place j)) es in
    let back : List (Point × Point) → ℕ = λ es. count_by (λ (e : Point × Point). counts e.1 e.0 (place i) (place j)) es in
    let split : edges_of (xs ++ ys) ≡ edges_of xs ++ edges_of ys = flat_map-append edges xs ys in
    let a : forth (edges_of (xs ++ ys)) ≡ forth (edges_of xs) + forth (edges_of ys) = ap forth split ∙ sum_by-append (λ (e : Point × Point). cond (counts e.0 e.1 (place i) (place j)) 1 0) (edges_of xs) (edges_of ys) in
    let b : back (edges_of (xs ++ ys)) ≡ back (edges_of xs) + back (edges_of ys) = ap back split ∙ sum_by-append (λ (e : Point × Point). cond (counts e.1 e.0 (place i) (place j)) 1 0) (edges_of xs) (edges_of ys) in
    omega (arith, ints, a, b)

-- ---- a ring with two level edges
abbrev one_if : Bool → ℕ
one_if b = cond b 1 0

level : (p q : Point) (x y : ℤ) → p.y ≡ q.y → one_if (counts p q x y) ≡ 0
level p q x y same = by_lt_z y p.y
    (λ (h : y <ℤ p.y). rw (le_false p.y y h) refl)
    (λ (h : p.y ≤ℤ y). rw (le_true p.y y h, lt_false y q.y (omega (arith, ints))) refl)

-- what the way from p to q counts, and less what the way back counts
abbrev way : Point → Point → ℤ → ℤ → ℤ
way p q i j = pos (one_if (counts p q (place i) (place j))) -ℤ pos (one_if (counts q p (place i) (place j)))

level_ring : (a b c d : Point) (i j : ℤ) → a.y ≡ b.y → c.y ≡ d.y → winding ((a ∷ b ∷ c ∷ d ∷ []) ∷ []) i j ≡ way b c i j -ℤ way a d i j
level_ring a b c d i j top bottom =
    let e = level a b (place i) (place j) top in
    let f = level b a (place i) (place j) (sym top) in
    let g = level c d (place i) (place j) bottom in
    let h = level d c (place i) (place j) (sym bottom) in
    omega (arith, ints, e, f, g, h)

-- ---- points of an upright glyph in the same row have the same height
sine-zero : sine_of (pos 0) ≡ pos 0
unfolding sine_of sines
sine-zero = refl

turned_level : (sine cosine : ℤ) (p q : Point) → sine ≡ pos 0 → p.y ≡ q.y → (turned_by sine cosine p).y ≡ (turned_by sine cosine q).y
turned_level sine cosine p q none same =
    let e : p.x *ℤ sine ≡ pos 0 = ap (λ s. p.x *ℤ s) none ∙ *ℤ-zero p.x in
    let f : q.x *ℤ sine ≡ pos 0 = ap (λ s. q.x *ℤ s) none ∙ *ℤ-zero q.x in
    rw (e, f, same) refl

glyph_level : (m : Matrix) (a c b : ℤ) → m.turn ≡ pos 0 → (glyph_point m a b).y ≡ (glyph_point m c b).y
glyph_level m a c b upright =
    ap held_coordinate (turned_level (sine_of m.turn) (cosine_of m.turn) (scaled_pixel m a b) (scaled_pixel m c b) (ap sine_of upright ∙ sine-zero) refl)

-- ---- rectangles of a row of an upright glyph
module _ (m : Matrix) (upright : m.turn ≡ pos 0) (top : ℤ) where
  -- the side at a column
  abbrev side : ℤ → ℤ → ℤ → ℤ
  side a i k = way (glyph_point m a top) (glyph_point m a (top +ℤ pos 1)) i k

  quad_winding : (left right i k : ℤ) → winding (quad m left top right (top +ℤ pos 1) ∷ []) i k ≡ side right i k -ℤ side left i k
  quad_winding left right i k =
      level_ring (glyph_point m left top) (glyph_point m right top) (glyph_point m right (top +ℤ pos 1)) (glyph_point m left (top +ℤ pos 1)) i k
      (glyph_level m left right top upright) (glyph_level m right left (top +ℤ pos 1) upright)

  -- with that of the bold rectangle
  abbrev sides : Bool → ℤ → ℤ → ℤ → ℤ
  sides bold a i k = side a i k +ℤ (if bold then side (a +ℤ pos 1) i k else pos 0)

  rings_winding : (bold : Bool) (left right i k : ℤ) → winding (run_rings m bold top left right) i k ≡ sides bold right i k -ℤ sides bold left i k
  rings_winding true left right i k =
      let first : List (List Point) = quad m left top right (top +ℤ pos 1) ∷ [] in
      let second : List (List Point) = quad m (left +ℤ pos 1) top (right +ℤ pos 1) (top +ℤ pos 1) ∷ [] in
      let a = winding-append first second i k in
      let b = quad_winding left right i k in
      let c = quad_winding (left +ℤ pos 1) (right +ℤ pos 1) i k in
      omega (arith, ints, a, b, c)
  rings_winding false left right i k = let b = quad_winding left right i k in omega (arith, ints, b)

-- ---- pixels of a row
abbrev top_of : Bitmap → ℕ → ℤ
top_of bitmap j = neg_ℤ ((bitmap.y +ℤ pos bitmap.h) -ℤ pos j)

module _ (m : Matrix) (bold : Bool) (bitmap : Bitmap) (j : ℕ) where
  abbrev pixels : ℕ → ℕ → List (List Point)
  pixels from n = flat_map (pixel_quads m bold bitmap j) (range_with_len from n)

  abbrev is_set : ℕ → Bool
  is_set c = pixel_is_set bitmap.w bitmap.bits c j

  clear_pixels : (from n : ℕ) → ((c : ℕ) → from ≤ c → c < from + n → is_set c ≡ false) → pixels from n ≡ []
  clear_pixels from zero clear = refl
  clear_pixels from (suc n) clear =
      let here : pixel_quads m bold bitmap j from ≡ [] = ap (λ t. if t then set_quads m bold (bitmap.x +ℤ pos from) (top_of bitmap j) else []) (clear from (omega arith) (omega arith)) in
      ap (λ rings. rings ++ pixels (from + 1) n) here ∙ clear_pixels (from + 1) n (λ c l h. clear c (omega arith) (omega arith))

  set_pixels : (upright : m.turn ≡ pos 0) (from n : ℕ) (left right i k : ℤ) → ((c : ℕ) → from ≤ c → c < from + n → is_set c ≡ true)
      → left ≡ bitmap.x +ℤ pos from → right ≡ left +ℤ pos n → winding (pixels from n) i k ≡ sides m upright (top_of bitmap j) bold right i k -ℤ sides m upright (top_of bitmap j) bold left i k
  set_pixels upright from zero left right i k set begins ends =
      let e : right ≡ left = omega (arith, ints) in
      let f = ap (λ z. sides m upright (top_of bitmap j) bold z i k) e in
      omega (arith, ints, f)
  set_pixels upright from (suc n) left right i k set begins ends =
      let here : pixel_quads m bold bitmap j from ≡ run_rings m bold (top_of bitmap j) left (left +ℤ pos 1) =
      ap (λ t. if t then set_quads m bold (bitmap.x +ℤ pos from) (top_of bitmap j) else []) (set from (omega arith) (omega arith))
      ∙ ap (λ z. set_quads m bold z (top_of bitmap j)) (sym begins) in
      let a = winding-append (pixel_quads m bold bitmap j from) (pixels (from + 1) n) i k in
      let b = ap (λ rings. winding rings i k) here in
      let c = rings_winding m upright (top_of bitmap j) bold left (left +ℤ pos 1) i k in
      let d = set_pixels upright (from + 1) n (left +ℤ pos 1) right i k (λ c l h. set c (omega arith) (omega arith)) (omega (arith, ints)) (omega (arith, ints)) in
      omega (arith, ints, a, b, c, d)

  -- the pixels of a run are its rectangle
  run_winding : m.turn ≡ pos 0 → (from to : ℕ) (left right i k : ℤ) → IsSetRun bitmap j from to → left ≡ bitmap.x +ℤ pos from → right ≡ bitmap.x +ℤ pos to
      → winding (run_quads m bold bitmap j from to) i k ≡ winding (run_rings m bold (top_of bitmap j) left right) i k
  run_winding upright from to left right i k run begins ends =
      let order : from ≤ to = run.ordered in
      let a = rings_winding m upright (top_of bitmap j) bold left right i k in
      let b = set_pixels upright from (to - from) left right i k (λ c l h. run.set c l (omega arith)) begins (omega (arith, ints)) in
      omega (arith, ints, a, b)

  -- what is added with a run
  pub run_added : m.turn ≡ pos 0 → (from to : ℕ) (left right top : ℤ) (rings new : List (List Point)) → from < to → IsSetRun bitmap j from to
      → left ≡ bitmap.x +ℤ pos from → right ≡ (bitmap.x +ℤ pos (to - 1)) +ℤ pos 1 → top ≡ top_of bitmap j → new ≡ rings ++ run_rings m bold top left right
      → (i k : ℤ) → winding new i k ≡ winding rings i k +ℤ winding (run_quads m bold bitmap j from to) i k
  run_added upright from to left right top rings new some run begins ends row is i k =
      let e : right ≡ bitmap.x +ℤ pos to = omega (arith, ints) in
      let a = ap (λ rs. winding rs i k) (is ∙ ap (λ t. rings ++ run_rings m bold t left right) row) in
      let b = winding-append rings (run_rings m bold (top_of bitmap j) left right) i k in
      let c = run_winding upright from to left right i k run begins e in
      omega (arith, ints, a, b, c)

  -- ---- the row so far
  range-append : (a p q b n : ℕ) → b ≡ a + p → n ≡ p + q → range_with_len a n ≡ range_with_len a p ++ range_with_len b q
  range-append a zero q b n e f = let g : b ≡ a = omega arith in let h : n ≡ q = omega arith in rw (g, h) refl
  range-append a (suc p) q b n e f = let h : n ≡ suc (p + q) = omega arith in rw h (ap (λ ns. a ∷ ns) (range-append (a + 1) p q b (p + q) (omega arith) refl))

  front_more : (from to : ℕ) → from ≤ to → run_quads m bold bitmap j 0 to ≡ run_quads m bold bitmap j 0 from ++ run_quads m bold bitmap j from to
  front_more from to order =
      ap (flat_map (pixel_quads m bold bitmap j)) (range-append 0 (from - 0) (to - from) from (to - 0) (omega arith) (omega arith))
      ∙ flat_map-append (pixel_quads m bold bitmap j) (range_with_len 0 (from - 0)) (range_with_len from (to - from))

  -- what a run adds to the row
  pub front_run : (from to : ℕ) (i k : ℤ) → IsSetRun bitmap j from to
      → winding (run_quads m bold bitmap j 0 to) i k ≡ winding (run_quads m bold bitmap j 0 from) i k +ℤ winding (run_quads m bold bitmap j from to) i k
  front_run from to i k run =
      ap (λ rings. winding rings i k) (front_more from to run.ordered) ∙ winding-append (run_quads m bold bitmap j 0 from) (run_quads m bold bitmap j from to) i k

  -- and a gap doesn't
  pub front_gap : (from to : ℕ) (i k : ℤ) → IsGap bitmap j from to → winding (run_quads m bold bitmap j 0 to) i k ≡ winding (run_quads m bold bitmap j 0 from) i k
  front_gap from to i k gap =
      let order : from ≤ to = gap.ordered in
      let none = clear_pixels from (to - from) (λ c l h. gap.clear c l (omega arith)) in
      let a = ap (λ rings. winding rings i k) (front_more from to order) in
      let b = winding-append (run_quads m bold bitmap j 0 from) (run_quads m bold bitmap j from to) i k in
      let c = ap (λ rings. winding rings i k) none in
      omega (arith, ints, a, b, c)

  -- the row up to its end
  pub front_all : (end : ℕ) (i k : ℤ) → end ≡ bitmap.w → winding (run_quads m bold bitmap j 0 end) i k ≡ winding (row_quads m bold bitmap j) i k
  front_all end i k whole = let e : end - 0 ≡ bitmap.w = omega arith in ap (λ n. winding (pixels 0 n) i k) e

-- ---- all rows
-- what one more row adds
pub rows_more : (m : Matrix) (bold : Bool) (bitmap : Bitmap) (n : ℕ) (i k : ℤ)
    → winding (flat_map (row_quads m bold bitmap) (range_with_len 0 (n + 1))) i k ≡ winding (flat_map (row_quads m bold bitmap) (range_with_len 0 n)) i k +ℤ winding (row_quads m bold bitmap n) i k
rows_more m bold bitmap n i k =
    let f = row_quads m bold bitmap in
    let all = flat_map f (range_with_len 0 n) in
    ap (λ rings. winding rings i k) (sym (flat_more f [] all (all ++ f n) n refl refl)) ∙ winding-append all (f n) i k

-- ---- the rings of a run
pub bold_added : (m : Matrix) (bold : Bool) (top left right : ℤ) (rings first second : List (List Point)) → bold ≡ true → first ≡ rings ++ quad m left top right (top +ℤ pos 1) ∷ []
    → second ≡ first ++ quad m (left +ℤ pos 1) top (right +ℤ pos 1) (top +ℤ pos 1) ∷ [] → second ≡ rings ++ run_rings m bold top left right
bold_added m bold top left right rings first second is p q =
    let a : List (List Point) = quad m left top right (top +ℤ pos 1) ∷ [] in
    let b : List (List Point) = quad m (left +ℤ pos 1) top (right +ℤ pos 1) (top +ℤ pos 1) ∷ [] in
    q ∙ ap (λ rs. rs ++ b) p ∙ append_assoc rings a b ∙ ap (λ t. rings ++ run_rings m t top left right) (sym is)

pub plain_added : (m : Matrix) (bold : Bool) (top left right : ℤ) (rings first : List (List Point)) → bold ≡ false → first ≡ rings ++ quad m left top right (top +ℤ pos 1) ∷ []
    → first ≡ rings ++ run_rings m bold top left right
plain_added m bold top left right rings first is p = p ∙ ap (λ t. rings ++ run_rings m t top left right) (sym is)

-- ---- the whole glyph
pub glyph_winding : (m n : Matrix) (bold strong underline strikeout : Bool) (font : FontValue) (g : FontGlyph) (r u : List (List Point)) → m ≡ n → bold ≡ strong
    → ((i k : ℤ) → winding r i k ≡ winding (shape_rings m bold font.bold_step g.shape) i k) → u ≡ (r ++ bar_rings m underline g.advance font.underline) ++ bar_rings m strikeout g.advance font.strikeout
    → (i k : ℤ) → winding u i k ≡ winding (rings_of_glyph n strong underline strikeout font g) i k
glyph_winding m n bold strong underline strikeout font g r u same thick shape bars i k =
    let first = bar_rings m underline g.advance font.underline in
    let second = bar_rings m strikeout g.advance font.strikeout in
    let rings = shape_rings m bold font.bold_step g.shape in
    let e : rings_of_glyph m bold underline strikeout font g ≡ rings_of_glyph n strong underline strikeout font g = rw (same, thick) refl in
    let a = ap (λ rs. winding rs i k) bars in
    let b = winding-append (r ++ first) second i k in
    let c = winding-append r first i k in
    let d = shape i k in
    let f = winding-append (rings ++ first) second i k in
    let h = winding-append rings first i k in
    let w = ap (λ rs. winding rs i k) e in
    omega (arith, ints, a, b, c, d, f, h, w)
