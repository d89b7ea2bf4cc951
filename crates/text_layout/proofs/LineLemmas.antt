-- Sums and greatest numbers along a list of extents, and where they put lines and items.
use Rattle.std.proofs.Common.{◌≡◌, ℕ, ◌+◌, ◌-◌, ◌<◌, ◌≤◌, List, [], ◌∷◌, ◌++◌, map, fold, length, take, drop, get_or, ℤ, pos, ◌+ℤ◌, ◌≤ℤ◌, sym, ap, ap₂, subst, ◌∙◌, append_assoc, arith}
use Rattle.std.proofs.lemmas.Int.{ints, clamps}
use Rattle.std.proofs.lemmas.List.{drop_more, take-map, get_or-map, length-map}
use Rattle.std.proofs.lemmas.List.Elements.{All-cons, All-head, All-nil, All-tail}
use Rattle.std.proofs.lemmas.List.FromFn.{map-range_with_len_more}
use Rattle.std.proofs.lemmas.List.Sums.{fold_more}
use Rattle.std.specs.Int.{int_max}
use Rattle.std.specs.List.{All, range_with_len}
use Rattle.line_layout.specs.Breaks.{width}
use Rattle.line_layout.proofs.PenLemmas.{pen-more}
use Rattle.text_layout.specs.declared.anchors.AnchorSide.{AnchorSide}
use Rattle.text_layout.specs.declared.laid.Line.{Line}
use Rattle.text_layout.specs.declared.laid.Placed.{Placed}
use Rattle.text_layout.specs.declared.spans.Span.{Span}
use Rattle.text_layout.specs.declared.extents.Extent.{Extent}
use Rattle.text_layout.specs.Limits.{max_line}
use Rattle.text_layout.specs.Lines.{IsLineExtent, advances_of, block_width, length_sum, line_at, lines_from, placed_from, placed_in}

-- ---- sums

-- one more item of a list of lengths
pub fold-map_more : (f : ℤ → ℤ → ℤ) (a : ℤ) (g : Extent → ℤ) (xs : List Extent) (k : ℕ) (d : Extent) → k < length xs
    → fold f a (map g (take (k + 1) xs)) ≡ f (fold f a (map g (take k xs))) (g (get_or xs k d))
fold-map_more f a g xs k d l =
    let long : k < length (map g xs) = subst (λ (n : ℕ). k < n) (sym (length-map xs g)) l in
    ap (fold f a) (sym (take-map g (k + 1) xs)) ∙ fold_more f a (map g xs) k (g d) long ∙ ap₂ f (ap (fold f a) (take-map g k xs)) (get_or-map g xs k d (g d) l)

-- a sum from a number on
fold-from : (a : ℤ) (xs : List ℤ) → fold ◌+ℤ◌ a xs ≡ a +ℤ length_sum xs
fold-from a [] = omega (arith, ints)
fold-from a (x ∷ xs) =
    let f = fold-from (a +ℤ x) xs in
    let g = fold-from (pos 0 +ℤ x) xs in
    omega (arith, ints, f, g)

pub total-cons : (x : ℤ) (xs : List ℤ) → length_sum (x ∷ xs) ≡ x +ℤ length_sum xs
total-cons x xs = let f = fold-from (pos 0 +ℤ x) xs in omega (arith, ints, f)

pub total-append : (xs ys : List ℤ) → length_sum (xs ++ ys) ≡ length_sum xs +ℤ length_sum ys
total-append [] ys = omega (arith, ints)
total-append (x ∷ xs) ys =
    let both = total-cons x (xs ++ ys) in
    let one = total-cons x xs in
    let rest = total-append xs ys in
    omega (arith, ints, both, one, rest)

-- ---- greatest numbers

greatest-above : (a : ℤ) (xs : List ℤ) → a ≤ℤ fold int_max a xs
greatest-above a [] = omega (arith, ints)
greatest-above a (x ∷ xs) = let h = greatest-above (int_max a x) xs in omega (arith, ints, clamps, h)

greatest-each : (a : ℤ) (es : List Extent) → All (λ (e : Extent). e.advance ≤ℤ fold int_max a (advances_of es)) es
greatest-each a [] = All-nil (λ (e : Extent). e.advance ≤ℤ a)
greatest-each a (e ∷ es) =
    let h = greatest-above (int_max a e.advance) (advances_of es) in
    All-cons (λ (d : Extent). d.advance ≤ℤ fold int_max (int_max a e.advance) (advances_of es)) e es (omega (arith, ints, clamps, h)) (greatest-each (int_max a e.advance) es)

greatest-most : (a m : ℤ) (es : List Extent) → a ≤ℤ m → All (λ (e : Extent). e.advance ≤ℤ m) es → fold int_max a (advances_of es) ≤ℤ m
greatest-most a m [] l h = l
greatest-most a m (e ∷ es) l h =
    let one = All-head (λ (d : Extent). d.advance ≤ℤ m) e es h in
    greatest-most (int_max a e.advance) m es (omega (arith, ints, clamps, one, l)) (All-tail (λ (d : Extent). d.advance ≤ℤ m) e es h)

pub width-widest : (es : List Extent) → All (λ (e : Extent). e.advance ≤ℤ block_width es) es
width-widest es = greatest-each (pos 0) es

pub width-from_zero : (es : List Extent) → pos 0 ≤ℤ block_width es
width-from_zero es = greatest-above (pos 0) (advances_of es)

pub width-most : (es : List Extent) → All IsLineExtent es → block_width es ≤ℤ pos max_line
width-most es h = greatest-most (pos 0) (pos max_line) es (omega (arith, ints)) (λ k d l. (h k d l).advance)

-- ---- lines

-- one more line
pub lines_step : (column : AnchorSide) (width top next : ℤ) (spans : List Span) (extents : List Extent) (k : ℕ) (s : Span) (e : Extent) (before after all : List Line) (line : Line)
    → k < length spans → k < length extents → before ++ lines_from column width top (drop k spans) (drop k extents) ≡ all → after ≡ before ++ line ∷ []
    → line ≡ line_at column width (get_or spans k s) (get_or extents k e) top → next ≡ top +ℤ ((get_or extents k e).ascent +ℤ (get_or extents k e).descent)
    → after ++ lines_from column width next (drop (k + 1) spans) (drop (k + 1) extents) ≡ all
lines_step column width top next spans extents k s e before after all line l m h push is below =
    let rest = lines_from column width next (drop (k + 1) spans) (drop (k + 1) extents) in
    ap (λ z. z ++ rest) push
    ∙ append_assoc before (line ∷ []) rest
    ∙ ap₂ (λ (x : Line) (y : ℤ). before ++ x ∷ lines_from column width y (drop (k + 1) spans) (drop (k + 1) extents)) is below
    ∙ ap (λ z. before ++ z) (sym (ap₂ (lines_from column width top) (drop_more spans k s l) (drop_more extents k e m)))
    ∙ h

-- the items of one more line
pub placed_step : (advances : List ℤ) (lines : List Line) (k : ℕ) (line : Line) (before after all : List Placed) → k < length lines
    → before ++ placed_from advances k (drop k lines) ≡ all → after ≡ before ++ placed_in advances k (get_or lines k line)
    → after ++ placed_from advances (k + 1) (drop (k + 1) lines) ≡ all
placed_step advances lines k line before after all l h push =
    let rest = placed_from advances (k + 1) (drop (k + 1) lines) in
    ap (λ z. z ++ rest) push
    ∙ append_assoc before (placed_in advances k (get_or lines k line)) rest
    ∙ ap (λ z. before ++ placed_from advances k z) (sym (drop_more lines k line l))
    ∙ h

-- ---- items of a line

-- one more item
pub item_step : {X : Type 0} (f : ℕ → X) (a i : ℕ) (start before after : List X) (r : X) → a ≤ i → before ≡ start ++ map f (range_with_len a (i - a)) → after ≡ before ++ r ∷ [] → r ≡ f i
    → after ≡ start ++ map f (range_with_len a (i + 1 - a))
item_step f a i start before after r l h push is =
    let more = map-range_with_len_more f a (i - a) i (omega (arith, l)) in
    push
    ∙ ap₂ (λ x y. x ++ y ∷ []) h is
    ∙ append_assoc start (map f (range_with_len a (i - a))) (f i ∷ [])
    ∙ ap (λ z. start ++ z) (sym more)
    ∙ ap (λ n. start ++ map f (range_with_len a n)) (omega (arith, l))

-- how far items are from one to the next
pub width-more : (ws : List ℤ) (from k : ℕ) → k < length ws → width ws from (k + 1) ≡ width ws from k +ℤ get_or ws k (pos 0)
width-more ws from k l = let e = pen-more ws k l in omega (arith, ints, e)

pub width-none : (ws : List ℤ) (from : ℕ) → width ws from from ≡ pos 0
width-none ws from = omega (arith, ints)
