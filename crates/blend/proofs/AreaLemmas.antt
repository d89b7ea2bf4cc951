-- Lemmas on areas and rectangles.
use Rattle.std.proofs.Common.{◌≡◌, ℕ, ◌+◌, ◌*◌, ◌<◌, ◌≤◌, ℤ, pos, negsuc, ◌-◌, ◌+ℤ◌, ◌-ℤ◌, ◌≤ℤ◌, ◌<ℤ◌, ◌⊎◌, Bool, true, false, not, List, ◌&&◌, nat_le, nat_lt, int_le, int_lt, length, get_or, take, drop, slice_index, refl, sym, ap, ◌∙◌, inl, inr, ⊎_elim, arith}
use Rattle.std.proofs.lemmas.Int.{ints}
use Rattle.std.proofs.lemmas.Nat.{mul-add-lt}
use Rattle.std.proofs.lemmas.List.{get_or-take, get_or-drop}
use Rattle.std.proofs.lemmas.Bool.{cases_lt, true≢false}
use Rattle.std.proofs.lemmas.Bool.Decides.{nat_tests}
use Rattle.ass_num.specs.Masks.{MaskValue, is_mask}
use Rattle.blend.specs.declared.area.Area.{Area}
use Rattle.blend.specs.declared.area.Band.{Band}
use Rattle.ass_num.specs.Coverage.{moved_value}
use Rattle.ass_num.proofs.OrderLemmas.{le_is, le_not, lt_is, lt_not}
use Rattle.ass_num.proofs.MaskLemmas.{mask_length, offset_inside, value_beside, value_over}
use Rattle.blend.specs.Blending.{in_rect}
use Rattle.blend.specs.Areas.{in_area, in_moved_box, IsPart, IsAreaCovered, IsMeeting}

pub lt-yes : (a b : ℕ) → a < b → nat_lt a b ≡ true
lt-yes a b h = grind (arith, nat_tests)

pub lt-no : (a b : ℕ) → b ≤ a → nat_lt a b ≡ false
lt-no a b h = grind (arith, nat_tests)

pub le-yes : (a b : ℕ) → a ≤ b → nat_le a b ≡ true
le-yes a b h = grind (arith, nat_tests)

pub le-no : (a b : ℕ) → b < a → nat_le a b ≡ false
le-no a b h = grind (arith, nat_tests)

int_le-not : (x : ℤ) (i : ℕ) → int_le x (pos i) ≡ not (int_lt (pos i) x)
int_le-not (pos a) i = grind (arith, nat_tests)
int_le-not (negsuc a) i = refl

-- what two bounds have between them, which do what x1 and x2 do
between-bounds : (low high l r i : ℕ) (x1 x2 : ℤ) → low ≤ l → l ≤ r → r ≤ high
    → ((k : ℕ) → low ≤ k → k < high → nat_lt k l ≡ int_lt (pos k) x1) → ((k : ℕ) → l ≤ k → k < high → nat_lt k r ≡ int_lt (pos k) x2)
    → (nat_le l i && nat_lt i r) ≡ ((nat_le low i && nat_lt i high) && (int_le x1 (pos i) && int_lt (pos i) x2))
between-bounds low high l r i x1 x2 p q h left right =
    ⊎_elim
    (λ (before : i < low). rw (le-no l i (omega arith), le-no low i before) refl)
    (λ (from : low ≤ i). ⊎_elim
    (λ (inside : i < high). ⊎_elim
    (λ (less : i < l).
    rw (le-no l i less, le-yes low i from, lt-yes i high inside, int_le-not x1 i, ← left i from inside, lt-yes i l less) refl)
    (λ (past : l ≤ i).
    rw (le-yes l i past, le-yes low i from, lt-yes i high inside, int_le-not x1 i, ← left i from inside, lt-no i l past) (right i past inside))
    (cases_lt i l))
    (λ (past : high ≤ i). rw (le-yes l i (omega arith), lt-no i r (omega arith), le-yes low i from, lt-no i high past) refl)
    (cases_lt i high))
    (cases_lt i low)

-- what two held bounds have between them; a call is shown x1 and x2 by their bits
pub between-held : (low high l r i : ℕ) (x1 x2 y1 y2 : ℤ) → y1 ≡ x1 → y2 ≡ x2 → low ≤ l → l ≤ r → r ≤ high
    → ((k : ℕ) → low ≤ k → k < high → nat_lt k l ≡ int_lt (pos k) y1) → ((k : ℕ) → l ≤ k → k < high → nat_lt k r ≡ int_lt (pos k) y2)
    → (nat_le l i && nat_lt i r) ≡ ((nat_le low i && nat_lt i high) && (int_le x1 (pos i) && int_lt (pos i) x2))
between-held low high l r i x1 x2 y1 y2 e f p q h left right =
    between-bounds low high l r i x1 x2 p q h (λ k a b. left k a b ∙ ap (int_lt (pos k)) e) (λ k a b. right k a b ∙ ap (int_lt (pos k)) f)

pub and-pairs : (a b p q : Bool) → ((a && b) && (p && q)) ≡ ((a && p) && (b && q))
and-pairs true true p q = refl
and-pairs true false true q = refl
and-pairs true false false q = refl
and-pairs false b p q = refl

-- the columns and the rows of a part
pub cut-both : (area part : Area) (x1 y1 x2 y2 : ℤ) (i j : ℕ)
    → (nat_le part.left i && nat_lt i part.right) ≡ ((nat_le area.left i && nat_lt i area.right) && (int_le x1 (pos i) && int_lt (pos i) x2))
    → (nat_le part.top j && nat_lt j part.bottom) ≡ ((nat_le area.top j && nat_lt j area.bottom) && (int_le y1 (pos j) && int_lt (pos j) y2))
    → in_area part i j ≡ (in_area area i j && in_rect x1 y1 x2 y2 (pos i) (pos j))
cut-both area part x1 y1 x2 y2 i j columns rows =
    ap (λ (b : Bool). b && (nat_le part.top j && nat_lt j part.bottom)) columns
    ∙ (ap (λ (b : Bool). ((nat_le area.left i && nat_lt i area.right) && (int_le x1 (pos i) && int_lt (pos i) x2)) && b) rows
    ∙ and-pairs (nat_le area.left i && nat_lt i area.right) (int_le x1 (pos i) && int_lt (pos i) x2)
    (nat_le area.top j && nat_lt j area.bottom) (int_le y1 (pos j) && int_lt (pos j) y2))

pub and-first : (a b : Bool) → (a && b) ≡ true → a ≡ true
and-first true b e = refl
and-first false b e = e

pub and-second : (a b : Bool) → (a && b) ≡ true → b ≡ true
and-second true b e = e
and-second false b e = cc

-- what a rectangle's test says
pub record IsBetween (x1 y1 x2 y2 i j : ℤ) : Type 0 where
  pub left : x1 ≤ℤ i
  pub right : i <ℤ x2
  pub top : y1 ≤ℤ j
  pub bottom : j <ℤ y2

pub between-rect : (x1 y1 x2 y2 i j : ℤ) → in_rect x1 y1 x2 y2 i j ≡ true → IsBetween x1 y1 x2 y2 i j
between-rect x1 y1 x2 y2 i j e =
    let columns : (int_le x1 i && int_lt i x2) ≡ true = and-first (int_le x1 i && int_lt i x2) (int_le y1 j && int_lt j y2) e in
    let rows : (int_le y1 j && int_lt j y2) ≡ true = and-second (int_le x1 i && int_lt i x2) (int_le y1 j && int_lt j y2) e in
    record {
      left = le_is x1 i (and-first (int_le x1 i) (int_lt i x2) columns);
      right = lt_is i x2 (and-second (int_le x1 i) (int_lt i x2) columns);
      top = le_is y1 j (and-first (int_le y1 j) (int_lt j y2) rows);
      bottom = lt_is j y2 (and-second (int_le y1 j) (int_lt j y2) rows);
    }

-- where a piece of a row begins in a mask's bytes, and that it lies in them
pub record IsPlace (m : MaskValue) (count p q : ℕ) : Type 0 where
  pub row : q < m.h
  pub columns : p + count ≤ m.w
  pub bytes : q * m.w + p + count ≤ length m.bytes

pub place : (m : MaskValue) (x y : ℤ) (left right j p q : ℕ) → is_mask m ≡ true → left < right → in_moved_box (m, x, y) left j ≡ true → in_moved_box (m, x, y) (right - 1) j ≡ true
    → pos left -ℤ x -ℤ m.x ≡ pos p → pos j -ℤ y -ℤ m.y ≡ pos q → IsPlace m (right - left) p q
place m x y left right j p q canonical some first last column row =
    let a : IsBetween (m.x +ℤ x) (m.y +ℤ y) (m.x +ℤ x +ℤ pos m.w) (m.y +ℤ y +ℤ pos m.h) (pos left) (pos j) = between-rect _ _ _ _ _ _ first in
    let b : IsBetween (m.x +ℤ x) (m.y +ℤ y) (m.x +ℤ x +ℤ pos m.w) (m.y +ℤ y +ℤ pos m.h) (pos (right - 1)) (pos j) = between-rect _ _ _ _ _ _ last in
    let in_h : q < m.h = omega (arith, ints) in
    let in_w : p + (right - left) ≤ m.w = omega (arith, ints) in
    let inside : q * m.w + (p + (right - left) - 1) < m.w * m.h = mul-add-lt q m.w (p + (right - left) - 1) m.h in_h (omega arith) in
    record { row = in_h; columns = in_w; bytes = omega (arith, mask_length m canonical) }

-- the values of a piece of a row
pub values-inside : (m : MaskValue) (x y : ℤ) (left j p q count k : ℕ) (s : List ℕ) → IsPlace m count p q → pos left -ℤ x -ℤ m.x ≡ pos p → pos j -ℤ y -ℤ m.y ≡ pos q
    → s ≡ take count (drop (q * m.w + p) m.bytes) → k < count → slice_index s k ≡ moved_value (m, x, y) (pos (left + k)) (pos j)
values-inside m x y left j p q count k s inside column row is less =
    let at : pos (left + k) -ℤ x -ℤ m.x ≡ pos (p + k) = omega (arith, ints) in
    let value : moved_value (m, x, y) (pos (left + k)) (pos j) ≡ get_or m.bytes (q * m.w + (p + k)) 0 =
    offset_inside m _ _ (p + k) q at row (omega (arith, inside.columns)) inside.row in
    let index : q * m.w + p + k ≡ q * m.w + (p + k) = omega arith in
    ap (λ (t : List ℕ). get_or t k 0) is
    ∙ (get_or-take count (drop (q * m.w + p) m.bytes) k 0 less ∙ (get_or-drop (q * m.w + p) m.bytes k 0 ∙ (ap (λ i. get_or m.bytes i 0) index ∙ sym value)))

pub and-false : (b : Bool) → (b && false) ≡ false
and-false true = refl
and-false false = refl

pub in_area-yes : (a : Area) (i j : ℕ) → a.left ≤ i → i < a.right → a.top ≤ j → j < a.bottom → in_area a i j ≡ true
in_area-yes a i j p q r s = rw (le-yes a.left i p, lt-yes i a.right q, le-yes a.top j r, lt-yes j a.bottom s) refl

pub in_area-left : (a : Area) (i j : ℕ) → i < a.left → in_area a i j ≡ false
in_area-left a i j p = rw (le-no a.left i p) refl

pub in_area-right : (a : Area) (i j : ℕ) → a.right ≤ i → in_area a i j ≡ false
in_area-right a i j p = rw (lt-no i a.right p, and-false (nat_le a.left i)) refl

pub in_area-top : (a : Area) (i j : ℕ) → j < a.top → in_area a i j ≡ false
in_area-top a i j p = rw (le-no a.top j p) (and-false (nat_le a.left i && nat_lt i a.right))

pub in_area-bottom : (a : Area) (i j : ℕ) → a.bottom ≤ j → in_area a i j ≡ false
in_area-bottom a i j p = rw (lt-no j a.bottom p, and-false (nat_le a.top j)) (and-false (nat_le a.left i && nat_lt i a.right))

-- what an area's test says
pub record IsInside (a : Area) (i j : ℕ) : Type 0 where
  pub left : a.left ≤ i
  pub right : i < a.right
  pub top : a.top ≤ j
  pub bottom : j < a.bottom

nat_le-true : (a b : ℕ) → nat_le a b ≡ true → a ≤ b
nat_le-true a b e = grind (arith, nat_tests)

nat_lt-true : (a b : ℕ) → nat_lt a b ≡ true → a < b
nat_lt-true a b e = grind (arith, nat_tests)

pub inside : (a : Area) (i j : ℕ) → in_area a i j ≡ true → IsInside a i j
inside a i j e =
    let columns : (nat_le a.left i && nat_lt i a.right) ≡ true = and-first (nat_le a.left i && nat_lt i a.right) (nat_le a.top j && nat_lt j a.bottom) e in
    let rows : (nat_le a.top j && nat_lt j a.bottom) ≡ true = and-second (nat_le a.left i && nat_lt i a.right) (nat_le a.top j && nat_lt j a.bottom) e in
    record {
      left = nat_le-true a.left i (and-first (nat_le a.left i) (nat_lt i a.right) columns);
      right = nat_lt-true i a.right (and-second (nat_le a.left i) (nat_lt i a.right) columns);
      top = nat_le-true a.top j (and-first (nat_le a.top j) (nat_lt j a.bottom) rows);
      bottom = nat_lt-true j a.bottom (and-second (nat_le a.top j) (nat_lt j a.bottom) rows);
    }

-- the test of a box, whose bounds are known
pub box-both : (area part : Area) (p : MaskValue × ℤ × ℤ) (i j : ℕ) (x1 y1 x2 y2 : ℤ) → x1 ≡ p.0.x +ℤ p.1 → y1 ≡ p.0.y +ℤ p.2 → x2 ≡ p.0.x +ℤ p.1 +ℤ pos p.0.w → y2 ≡ p.0.y +ℤ p.2 +ℤ pos p.0.h
    → in_area part i j ≡ (in_area area i j && in_rect x1 y1 x2 y2 (pos i) (pos j)) → in_area part i j ≡ (in_area area i j && in_moved_box p i j)
box-both area part p i j x1 y1 x2 y2 e f g h both = rw (e, f, g, h) at both

-- what a cut leaves lies in the box
pub part-covered : (area part : Area) (p : MaskValue × ℤ × ℤ) → ((i j : ℕ) → in_area part i j ≡ (in_area area i j && in_moved_box p i j)) → IsAreaCovered part p
part-covered area part p both = record { covered = λ i j e. and-second (in_area area i j) (in_moved_box p i j) (sym (both i j) ∙ e) }

-- the rows of a band
abbrev pub whole_band : Band → Area
whole_band band = record { left = 0; top = band.top; right = band.w; bottom = band.top + band.h }

pub meeting-is : (r : Area) (band : Band) (p : MaskValue × ℤ × ℤ) → IsPart r (whole_band band)
    → ((i j : ℕ) → in_area r i j ≡ (in_area (whole_band band) i j && in_moved_box p i j)) → IsMeeting r band p
meeting-is r band p part both = record {
  in_band = record { columns = part.columns; right = part.right; top = part.top; rows = part.rows; bottom = part.bottom };
  covered = part-covered (whole_band band) r p both;
  whole = λ i j a b c. both i j ∙ ap (λ (t : Bool). t && in_moved_box p i j) (in_area-yes (whole_band band) i j (omega arith) a b c);
}

-- what lies outside a rectangle lies beside it, or over or under it
pub outside : (x1 y1 x2 y2 i j : ℤ) → in_rect x1 y1 x2 y2 i j ≡ false → ((i <ℤ x1) ⊎ (x2 ≤ℤ i)) ⊎ ((j <ℤ y1) ⊎ (y2 ≤ℤ j))
outside x1 y1 x2 y2 i j out = go (int_le x1 i) (int_lt i x2) (int_le y1 j) (int_lt j y2) refl refl refl refl out
  where
    go : (l r t b : Bool) → int_le x1 i ≡ l → int_lt i x2 ≡ r → int_le y1 j ≡ t → int_lt j y2 ≡ b → ((l && r) && (t && b)) ≡ false
        → ((i <ℤ x1) ⊎ (x2 ≤ℤ i)) ⊎ ((j <ℤ y1) ⊎ (y2 ≤ℤ j))
    go false r t b el er et eb f = inl (inl (le_not x1 i el))
    go true false t b el er et eb f = inl (inr (lt_not i x2 er))
    go true true false b el er et eb f = inr (inl (le_not y1 j et))
    go true true true false el er et eb f = inr (inr (lt_not j y2 eb))
    go true true true true el er et eb f = absurd (true≢false f)

pub moved_value-outside : (p : MaskValue × ℤ × ℤ) (i j : ℕ) → in_moved_box p i j ≡ false → moved_value p (pos i) (pos j) ≡ 0
moved_value-outside p i j out =
    let x : ℤ = pos i -ℤ p.1 in
    let y : ℤ = pos j -ℤ p.2 in
    elim (outside (p.0.x +ℤ p.1) (p.0.y +ℤ p.2) (p.0.x +ℤ p.1 +ℤ pos p.0.w) (p.0.y +ℤ p.2 +ℤ pos p.0.h) (pos i) (pos j) out) [
      | inl (inl h) ↦ value_beside p.0 x y (inl (let g : x <ℤ p.0.x = omega (arith, ints, h) in g))
      | inl (inr h) ↦ value_beside p.0 x y (inr (let g : (p.0.x +ℤ pos p.0.w) ≤ℤ x = omega (arith, ints, h) in g))
      | inr (inl h) ↦ value_over p.0 x y (inl (let g : y <ℤ p.0.y = omega (arith, ints, h) in g))
      | inr (inr h) ↦ value_over p.0 x y (inr (let g : (p.0.y +ℤ pos p.0.h) ≤ℤ y = omega (arith, ints, h) in g))
    ]

-- the test of a rectangle, whose bounds are known
pub rect-both : (area part : Area) (i j : ℕ) (x1 y1 x2 y2 p1 q1 p2 q2 : ℤ) → p1 ≡ x1 → q1 ≡ y1 → p2 ≡ x2 → q2 ≡ y2
    → in_area part i j ≡ (in_area area i j && in_rect p1 q1 p2 q2 (pos i) (pos j)) → in_area part i j ≡ (in_area area i j && in_rect x1 y1 x2 y2 (pos i) (pos j))
rect-both area part i j x1 y1 x2 y2 p1 q1 p2 q2 e f g h both = rw (e, f, g, h) at both
