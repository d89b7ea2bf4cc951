-- Which of the panes of an image has a pixel: one of them, or none where nothing of the image shows there.
use Rattle.std.proofs.Common.{◌≡◌, ℕ, ◌⊎◌, ℤ, pos, ◌≤ℤ◌, ◌<ℤ◌, int_le, int_lt, Bool, true, false, ◌&&◌, List, [], ◌∷◌, refl, sym, ◌∙◌, inl, inr, arith}
use Rattle.std.proofs.lemmas.Int.{ints}
use Rattle.std.specs.Int.{int_min, int_max}
use Rattle.ass_num.proofs.OrderLemmas.{le_is, le_not, lt_is, lt_not}
use Rattle.blend.specs.Blending.{StencilValue, Free, Rect, Drawn, in_rect, stencilled}
use Rattle.blend.proofs.AreaLemmas.{IsBetween, and-pairs, between-rect, moved_value-outside, outside}
use Rattle.blend.proofs.DrawLemmas.{stencilled-none}
use Rattle.plain_images.specs.Panes.{HasSides, IsPartOf, in_pane, is_empty_pane, box_pane, both_panes, panes_around, panes_beside}
use Rattle.plain_images.specs.PlainImages.{stencil_panes}
use Rattle.plain_images.specs.declared.panes.Pane.{Pane}

-- None of the panes has the pixel.
abbrev pub Miss : List Pane → ℕ → ℕ → Type 0
Miss [] i j = Unit {0}
Miss (p ∷ ps) i j = (in_pane p (pos i) (pos j) ≡ false) × Miss ps i j

-- One of them has it, and no other; or none has it, and then the coverage m there is 0.
abbrev pub Cover : List Pane → ℕ → ℕ → ℕ → Type 0
Cover [] i j m = m ≡ 0
Cover (p ∷ ps) i j m = ((in_pane p (pos i) (pos j) ≡ false) × Cover ps i j m) ⊎ ((in_pane p (pos i) (pos j) ≡ true) × Miss ps i j)

-- ---- tests of panes

pub has : (p : Pane) (i j : ℤ) → p.x1 ≤ℤ i → i <ℤ p.x2 → p.y1 ≤ℤ j → j <ℤ p.y2 → in_pane p i j ≡ true
has p i j a b c d = grind (arith, ints)

pub lacks : (p : Pane) (i j : ℤ) → ((i <ℤ p.x1) ⊎ (p.x2 ≤ℤ i)) ⊎ ((j <ℤ p.y1) ⊎ (p.y2 ≤ℤ j)) → in_pane p i j ≡ false
lacks p i j out = grind (arith, ints)

-- what the test says
pub bounds : (p : Pane) (i j : ℤ) → in_pane p i j ≡ true → IsBetween p.x1 p.y1 p.x2 p.y2 i j
bounds p i j e = between-rect p.x1 p.y1 p.x2 p.y2 i j e

four_pairs : (a b c d e f g h : Bool) → (((a && b) && (c && d)) && ((e && f) && (g && h))) ≡ (((a && c) && (e && g)) && ((b && d) && (f && h)))
four_pairs a b c d e f g h = rw (and-pairs a b c d, and-pairs e f g h) (and-pairs (a && c) (b && d) (e && g) (f && h))

past_both : (a b i : ℤ) → int_le (int_max a b) i ≡ (int_le a i && int_le b i)
past_both a b i = grind (arith, ints)

before_both : (a b i : ℤ) → int_lt i (int_min a b) ≡ (int_lt i a && int_lt i b)
before_both a b i = grind (arith, ints)

pub in_both : (p q : Pane) (i j : ℤ) → in_pane (both_panes p q) i j ≡ (in_pane p i j && in_pane q i j)
in_both p q i j =
    rw (past_both p.x1 q.x1 i, before_both p.x2 q.x2 i, past_both p.y1 q.y1 j, before_both p.y2 q.y2 j)
    (four_pairs (int_le p.x1 i) (int_le q.x1 i) (int_lt i p.x2) (int_lt i q.x2) (int_le p.y1 j) (int_le q.y1 j) (int_lt j p.y2) (int_lt j q.y2))

-- an empty pane has no pixel
pub empty_lacks : (p : Pane) (i j : ℤ) → is_empty_pane p ≡ true → in_pane p i j ≡ false
empty_lacks p i j e = grind (arith, ints)

pub sides : (p : Pane) → is_empty_pane p ≡ false → HasSides p
sides p e = record { wide = grind (arith, ints); high = grind (arith, ints) }

-- ---- one pane, and those around a hole

one : (p : Pane) (i j m : ℕ) (b : Bool) → in_pane p (pos i) (pos j) ≡ b → (in_pane p (pos i) (pos j) ≡ false → m ≡ 0) → Cover (p ∷ []) i j m
one p i j m true e none = inr (e, tt)
one p i j m false e none = inl (e, none e)

abbrev pub above : Pane → Pane → Pane
above pane hole = record pane { y2 = hole.y1 }

abbrev pub below : Pane → Pane → Pane
below pane hole = record pane { y1 = hole.y2 }

abbrev pub left : Pane → Pane → Pane
left pane hole = record hole { x1 = pane.x1; x2 = hole.x1 }

abbrev pub right : Pane → Pane → Pane
right pane hole = record hole { x1 = hole.x2; x2 = pane.x2 }

-- where none has the pixel, and the coverage is 0
miss_cover : (ps : List Pane) (i j m : ℕ) → Miss ps i j → m ≡ 0 → Cover ps i j m
miss_cover [] i j m h e = e
miss_cover (p ∷ ps) i j m h e = inl (h.0, miss_cover ps i j m h.1 e)

four_around : (pane hole : Pane) (i j m : ℕ) → IsPartOf hole pane → HasSides hole → in_pane pane (pos i) (pos j) ≡ true
    → (in_pane hole (pos i) (pos j) ≡ true → m ≡ 0) → Cover (panes_beside pane hole) i j m
four_around pane hole i j m part sided inside none =
    go (int_lt (pos j) hole.y1) (int_le hole.y2 (pos j)) (int_lt (pos i) hole.x1) (int_le hole.x2 (pos i)) refl refl refl refl (bounds pane (pos i) (pos j) inside)
  where
    go : (u d l r : Bool) → int_lt (pos j) hole.y1 ≡ u → int_le hole.y2 (pos j) ≡ d → int_lt (pos i) hole.x1 ≡ l → int_le hole.x2 (pos i) ≡ r
        → IsBetween pane.x1 pane.y1 pane.x2 pane.y2 (pos i) (pos j) → Cover (panes_beside pane hole) i j m
    go true d l r eu ed el er b =
        let up : pos j <ℤ hole.y1 = lt_is (pos j) hole.y1 eu in
        let low : pos j <ℤ hole.y2 = omega (arith, ints, up, sided.high) in
        inr (
          has (above pane hole) (pos i) (pos j) b.left b.right b.top up,
          (
            lacks (below pane hole) (pos i) (pos j) (inr (inl low)),
            (
              lacks (left pane hole) (pos i) (pos j) (inr (inl up)),
              (lacks (right pane hole) (pos i) (pos j) (inr (inl up)), tt),
            ),
          ),
        )
    go false true l r eu ed el er b =
        let from : hole.y1 ≤ℤ pos j = lt_not (pos j) hole.y1 eu in
        let down : hole.y2 ≤ℤ pos j = le_is hole.y2 (pos j) ed in
        inl (
          lacks (above pane hole) (pos i) (pos j) (inr (inr from)),
          inr (
            has (below pane hole) (pos i) (pos j) b.left b.right down b.bottom,
            (
              lacks (left pane hole) (pos i) (pos j) (inr (inr down)),
              (lacks (right pane hole) (pos i) (pos j) (inr (inr down)), tt),
            ),
          ),
        )
    go false false true r eu ed el er b =
        let from : hole.y1 ≤ℤ pos j = lt_not (pos j) hole.y1 eu in
        let to : pos j <ℤ hole.y2 = le_not hole.y2 (pos j) ed in
        let before : pos i <ℤ hole.x1 = lt_is (pos i) hole.x1 el in
        let short : pos i <ℤ hole.x2 = omega (arith, ints, before, sided.wide) in
        inl (
          lacks (above pane hole) (pos i) (pos j) (inr (inr from)),
          inl (
            lacks (below pane hole) (pos i) (pos j) (inr (inl to)),
            inr (
              has (left pane hole) (pos i) (pos j) b.left before from to,
              (lacks (right pane hole) (pos i) (pos j) (inl (inl short)), tt),
            ),
          ),
        )
    go false false false true eu ed el er b =
        let from : hole.y1 ≤ℤ pos j = lt_not (pos j) hole.y1 eu in
        let to : pos j <ℤ hole.y2 = le_not hole.y2 (pos j) ed in
        let past : hole.x1 ≤ℤ pos i = lt_not (pos i) hole.x1 el in
        let behind : hole.x2 ≤ℤ pos i = le_is hole.x2 (pos i) er in
        inl (
          lacks (above pane hole) (pos i) (pos j) (inr (inr from)),
          inl (
            lacks (below pane hole) (pos i) (pos j) (inr (inl to)),
            inl (
              lacks (left pane hole) (pos i) (pos j) (inl (inr past)),
              inr (has (right pane hole) (pos i) (pos j) behind b.right from to, tt),
            ),
          ),
        )
    go false false false false eu ed el er b =
        let from : hole.y1 ≤ℤ pos j = lt_not (pos j) hole.y1 eu in
        let to : pos j <ℤ hole.y2 = le_not hole.y2 (pos j) ed in
        let past : hole.x1 ≤ℤ pos i = lt_not (pos i) hole.x1 el in
        let short : pos i <ℤ hole.x2 = le_not hole.x2 (pos i) er in
        inl (
          lacks (above pane hole) (pos i) (pos j) (inr (inr from)),
          inl (
            lacks (below pane hole) (pos i) (pos j) (inr (inl to)),
            inl (
              lacks (left pane hole) (pos i) (pos j) (inl (inr past)),
              inl (
                lacks (right pane hole) (pos i) (pos j) (inl (inl short)),
                none (has hole (pos i) (pos j) past short from to),
              ),
            ),
          ),
        )

-- ---- parts of panes

-- Each pane lies in this one.
abbrev pub AreParts : List Pane → Pane → Type 0
AreParts [] outer = Unit {0}
AreParts (p ∷ ps) outer = IsPartOf p outer × AreParts ps outer

part_lacks : (part pane : Pane) (i j : ℤ) → IsPartOf part pane → in_pane pane i j ≡ false → in_pane part i j ≡ false
part_lacks part pane i j is out = elim (outside pane.x1 pane.y1 pane.x2 pane.y2 i j out) [
  | inl (inl h) ↦ lacks part i j (inl (inl (omega (arith, ints, h, is.left))))
  | inl (inr h) ↦ lacks part i j (inl (inr (omega (arith, ints, h, is.right))))
  | inr (inl h) ↦ lacks part i j (inr (inl (omega (arith, ints, h, is.top))))
  | inr (inr h) ↦ lacks part i j (inr (inr (omega (arith, ints, h, is.bottom))))
]

pub part_has : (part pane : Pane) (i j : ℤ) → IsPartOf part pane → in_pane part i j ≡ true → in_pane pane i j ≡ true
part_has part pane i j is inside =
    let b = bounds part i j inside in
    has pane i j (omega (arith, ints, b.left, is.left)) (omega (arith, ints, b.right, is.right)) (omega (arith, ints, b.top, is.top)) (omega (arith, ints, b.bottom, is.bottom))

miss_parts : (ps : List Pane) (outer : Pane) (i j : ℕ) → AreParts ps outer → in_pane outer (pos i) (pos j) ≡ false → Miss ps i j
miss_parts [] outer i j are out = tt
miss_parts (p ∷ ps) outer i j are out = (part_lacks p outer (pos i) (pos j) are.0 out, miss_parts ps outer i j are.1 out)

pub part_of_part : (p q r : Pane) → IsPartOf p q → IsPartOf q r → IsPartOf p r
part_of_part p q r a b = record {
  left = omega (arith, ints, a.left, b.left);
  top = omega (arith, ints, a.top, b.top);
  right = omega (arith, ints, a.right, b.right);
  bottom = omega (arith, ints, a.bottom, b.bottom);
}

whole_part : (p : Pane) → IsPartOf p p
whole_part p = record { left = omega (arith, ints); top = omega (arith, ints); right = omega (arith, ints); bottom = omega (arith, ints) }

-- what lies around a part that has pixels
pub above_part : (pane hole : Pane) → IsPartOf hole pane → HasSides hole → IsPartOf (above pane hole) pane
above_part pane hole is sided = record { left = omega (arith, ints); top = omega (arith, ints); right = omega (arith, ints); bottom = omega (arith, ints, sided.high, is.bottom) }

pub below_part : (pane hole : Pane) → IsPartOf hole pane → HasSides hole → IsPartOf (below pane hole) pane
below_part pane hole is sided = record { left = omega (arith, ints); top = omega (arith, ints, sided.high, is.top); right = omega (arith, ints); bottom = omega (arith, ints) }

pub left_part : (pane hole : Pane) → IsPartOf hole pane → HasSides hole → IsPartOf (left pane hole) pane
left_part pane hole is sided = record { left = omega (arith, ints); top = is.top; right = omega (arith, ints, sided.wide, is.right); bottom = is.bottom }

pub right_part : (pane hole : Pane) → IsPartOf hole pane → HasSides hole → IsPartOf (right pane hole) pane
right_part pane hole is sided = record { left = omega (arith, ints, sided.wide, is.left); top = is.top; right = omega (arith, ints); bottom = is.bottom }

four_parts : (pane hole outer : Pane) → IsPartOf hole pane → HasSides hole → IsPartOf pane outer → AreParts (panes_beside pane hole) outer
four_parts pane hole outer is sided inner = (
  part_of_part (above pane hole) pane outer (above_part pane hole is sided) inner,
  (
    part_of_part (below pane hole) pane outer (below_part pane hole is sided) inner,
    (
      part_of_part (left pane hole) pane outer (left_part pane hole is sided) inner,
      (part_of_part (right pane hole) pane outer (right_part pane hole is sided) inner, tt),
    ),
  ),
)

pub both_part : (p q : Pane) → IsPartOf (both_panes p q) p
both_part p q = record { left = grind (arith, ints); top = grind (arith, ints); right = grind (arith, ints); bottom = grind (arith, ints) }

pub other_part : (p q : Pane) → IsPartOf (both_panes p q) q
other_part p q = record { left = grind (arith, ints); top = grind (arith, ints); right = grind (arith, ints); bottom = grind (arith, ints) }

-- What lies around the part of a pane in a rectangle covers what lies outside the rectangle.
around : (pane rect : Pane) (i j m : ℕ) → (in_pane pane (pos i) (pos j) ≡ false → m ≡ 0) → (in_pane rect (pos i) (pos j) ≡ true → m ≡ 0)
    → Cover (panes_around pane (both_panes pane rect)) i j m
around pane rect i j m outside inside = go (is_empty_pane (both_panes pane rect)) refl (in_pane pane (pos i) (pos j)) refl
  where
    hole : Pane
    hole = both_panes pane rect

    in_rect_of : in_pane hole (pos i) (pos j) ≡ true → in_pane rect (pos i) (pos j) ≡ true
    in_rect_of e = let both : (in_pane pane (pos i) (pos j) && in_pane rect (pos i) (pos j)) ≡ true = sym (in_both pane rect (pos i) (pos j)) ∙ e in grind arith

    go : (e : Bool) → is_empty_pane hole ≡ e → (b : Bool) → in_pane pane (pos i) (pos j) ≡ b → Cover (panes_around pane hole) i j m
    go true is b at = rw is (one pane i j m b at outside)
    go false is true at = rw is (four_around pane hole i j m (both_part pane rect) (sides hole is) at (λ e. inside (in_rect_of e)))
    go false is false at =
        rw is (miss_cover (panes_beside pane hole) i j m
        (miss_parts (panes_beside pane hole) pane i j (four_parts pane hole pane (both_part pane rect) (sides hole is) (whole_part pane)) at) (outside at))

-- ---- stencils

-- The panes of a stencil in a pane cover what the stencil leaves of a mask that has nothing outside the pane.
pub stencil_cover : (stencil : StencilValue) (pane : Pane) (i j m : ℕ) → (in_pane pane (pos i) (pos j) ≡ false → m ≡ 0)
    → Cover (stencil_panes stencil pane) i j (stencilled stencil i j m)
stencil_cover Free pane i j m outside = one pane i j m (in_pane pane (pos i) (pos j)) refl outside
stencil_cover (Rect x1 y1 x2 y2 false) pane i j m outside = go (in_pane pane (pos i) (pos j)) (in_rect x1 y1 x2 y2 (pos i) (pos j)) refl refl
  where
    rect : Pane
    rect = record { x1 = x1; y1 = y1; x2 = x2; y2 = y2 }

    go : (b r : Bool) → in_pane pane (pos i) (pos j) ≡ b → in_rect x1 y1 x2 y2 (pos i) (pos j) ≡ r
        → Cover (both_panes pane rect ∷ []) i j (stencilled (Rect x1 y1 x2 y2 false) i j m)
    go true true e f = inr (in_both pane rect (pos i) (pos j) ∙ rw (e, f) refl, tt)
    go true false e f = inl (in_both pane rect (pos i) (pos j) ∙ rw (e, f) refl, rw f refl)
    go false r e f = inl (in_both pane rect (pos i) (pos j) ∙ rw e refl, stencilled-none (Rect x1 y1 x2 y2 false) i j m (outside e))
stencil_cover (Rect x1 y1 x2 y2 true) pane i j m outside =
    around pane (record { x1 = x1; y1 = y1; x2 = x2; y2 = y2 }) i j (stencilled (Rect x1 y1 x2 y2 true) i j m)
    (λ e. stencilled-none (Rect x1 y1 x2 y2 true) i j m (outside e))
    (λ e. let f : in_rect x1 y1 x2 y2 (pos i) (pos j) ≡ true = e in rw f refl)
stencil_cover (Drawn c x y false) pane i j m outside = go (in_pane pane (pos i) (pos j)) (in_pane (box_pane c x y) (pos i) (pos j)) refl refl
  where
    go : (b r : Bool) → in_pane pane (pos i) (pos j) ≡ b → in_pane (box_pane c x y) (pos i) (pos j) ≡ r
        → Cover (both_panes pane (box_pane c x y) ∷ []) i j (stencilled (Drawn c x y false) i j m)
    go true true e f = inr (in_both pane (box_pane c x y) (pos i) (pos j) ∙ rw (e, f) refl, tt)
    go true false e f = inl (in_both pane (box_pane c x y) (pos i) (pos j) ∙ rw (e, f) refl, rw (moved_value-outside (c, x, y) i j f) (omega arith))
    go false r e f = inl (in_both pane (box_pane c x y) (pos i) (pos j) ∙ rw e refl, stencilled-none (Drawn c x y false) i j m (outside e))
stencil_cover (Drawn c x y true) pane i j m outside =
    one pane i j (stencilled (Drawn c x y true) i j m) (in_pane pane (pos i) (pos j)) refl (λ e. stencilled-none (Drawn c x y true) i j m (outside e))

pub stencil_parts : (stencil : StencilValue) (pane outer : Pane) → IsPartOf pane outer → AreParts (stencil_panes stencil pane) outer
stencil_parts Free pane outer h = (h, tt)
stencil_parts (Rect x1 y1 x2 y2 false) pane outer h =
    (part_of_part (both_panes pane (record { x1 = x1; y1 = y1; x2 = x2; y2 = y2 })) pane outer (both_part pane (record { x1 = x1; y1 = y1; x2 = x2; y2 = y2 })) h, tt)
stencil_parts (Rect x1 y1 x2 y2 true) pane outer h = go (is_empty_pane hole) refl
  where
    hole : Pane
    hole = both_panes pane (record { x1 = x1; y1 = y1; x2 = x2; y2 = y2 })

    go : (e : Bool) → is_empty_pane hole ≡ e → AreParts (panes_around pane hole) outer
    go true is = rw is (h, tt)
    go false is = rw is (four_parts pane hole outer (both_part pane (record { x1 = x1; y1 = y1; x2 = x2; y2 = y2 })) (sides hole is) h)
stencil_parts (Drawn c x y false) pane outer h = (part_of_part (both_panes pane (box_pane c x y)) pane outer (both_part pane (box_pane c x y)) h, tt)
stencil_parts (Drawn c x y true) pane outer h = (h, tt)

-- Where a pane lacks a pixel, so do the panes of a stencil in it.
pub stencil_miss : (stencil : StencilValue) (pane : Pane) (i j : ℕ) → in_pane pane (pos i) (pos j) ≡ false → Miss (stencil_panes stencil pane) i j
stencil_miss stencil pane i j out = miss_parts (stencil_panes stencil pane) pane i j (stencil_parts stencil pane pane (whole_part pane)) out

-- ---- panes as the code makes them

pub same_pane : (x1 y1 x2 y2 a b c d : ℤ) → x1 ≡ a → y1 ≡ b → x2 ≡ c → y2 ≡ d
    → ◌≡◌ {A = Pane} (record { x1 = x1; y1 = y1; x2 = x2; y2 = y2 }) (record { x1 = a; y1 = b; x2 = c; y2 = d })
same_pane x1 y1 x2 y2 a b c d e f g h = rw (e, f, g, h) refl
