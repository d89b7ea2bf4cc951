-- Lemmas on tints that fall on an area, row by row.
use Rattle.std.proofs.Common.{◌≡◌, ℕ, ◌+◌, ◌-◌, ◌*◌, ◌/◌, ◌%◌, ◌<◌, ◌≤◌, ◌⊎◌, ℤ, pos, int_lt, Bool, true, false, ◌&&◌, nat_le, nat_lt, if◌then◌else◌, List, length, take, drop, refl, sym, ap, ◌∙◌, inl, inr, ⊎_elim, arith}
use Rattle.std.proofs.lemmas.Bool.{cases_lt}
use Rattle.std.proofs.lemmas.Nat.{div-mul-add, mod-mul-add}
use Rattle.std.proofs.Math.Nat.{mul-le-mul_left}
use borrow.Rule.Slice.PartMut.{put_mid}
use Rattle.blend.specs.declared.area.Area.{Area}
use Rattle.ass_num.specs.Masks.{MaskValue}
use Rattle.ass_num.specs.Coverage.{moved_value}
use Rattle.ass_num.specs.declared.colour.Rgba.{Rgba}
use Rattle.blend.specs.Blending.{Tint, by_255, stencilled, tint_of, tinted, by_number}
use Rattle.blend.specs.Areas.{in_area, IsAreaCovered, placed_stencil, within, no_tint}
use Rattle.blend.proofs.AreaLemmas.{lt-yes, lt-no, le-yes, in_area-yes, in_area-left, in_area-right, in_area-top, in_area-bottom, inside}
use Rattle.blend.proofs.TintedLemmas.{IsSame, IsJoined, tinted-none, tinted-write, tinted-tinted, weightless}

-- the rows of an area above row j
abbrev pub to_row : Area → ℕ → Area
to_row area j = record area { bottom = j }

pub within-yes : (area : Area) (tint : ℕ → ℕ → Tint) (i j : ℕ) → in_area area i j ≡ true → within area tint i j ≡ tint i j
within-yes area tint i j e = rw e refl

pub within-no : (area : Area) (tint : ℕ → ℕ → Tint) (i j : ℕ) → in_area area i j ≡ false → within area tint i j ≡ no_tint
within-no area tint i j e = rw e refl

-- a pixel of another row, or outside the columns, is as it was
within-row : (area : Area) (tint : ℕ → ℕ → Tint) (i r j : ℕ) → (r ≡ j → (i < area.left) ⊎ (area.right ≤ i))
    → within (to_row area j) tint i r ≡ within (to_row area (j + 1)) tint i r
within-row area tint i r j outside =
    ⊎_elim
    (λ (less : r < j). rw (lt-yes r j less, lt-yes r (j + 1) (omega arith)) refl)
    (λ (from : j ≤ r). within-no (to_row area j) tint i r (in_area-bottom (to_row area j) i r from)
    ∙ sym (within-no (to_row area (j + 1)) tint i r
    (⊎_elim
    (λ (same : r < j + 1). ⊎_elim
    (λ (l : i < area.left). in_area-left (to_row area (j + 1)) i r l)
    (λ (h : area.right ≤ i). in_area-right (to_row area (j + 1)) i r h)
    (outside (omega arith)))
    (λ (more : j + 1 ≤ r). in_area-bottom (to_row area (j + 1)) i r more)
    (cases_lt r (j + 1)))))
    (cases_lt r j)

-- the row and the column of a place
row-of : (w j i k : ℕ) → i < w → k ≡ j * w + i → k / w ≡ j
row-of w j i k h e = rw e (div-mul-add j w i h)

column-of : (w j i k : ℕ) → i < w → k ≡ j * w + i → k % w ≡ i
column-of w j i k h e = rw e (mod-mul-add j w i h)

-- a place by its row and column
place-of : (w k j : ℕ) → 0 < w → k / w ≡ j → k ≡ w * j + k % w
place-of w k j h e = rw (← e) (omega arith)

-- One more row of an area gets its tints.
pub row-step : (w top j d at len : ℕ) (area : Area) (tint : ℕ → ℕ → Tint) (f : ℕ → Tint) (first s t : List ℕ)
    → j ≡ top + d → area.left < area.right → area.right ≤ w → area.top ≤ j → at ≡ 3 * (d * w + area.left) → len ≡ 3 * (area.right - area.left)
    → s ≡ tinted (by_number w (within (to_row area j) tint)) (w * top) first → 3 * (d * w + area.left + (area.right - area.left)) ≤ length first
    → t ≡ tinted f 0 (take len (drop at s)) → ((k : ℕ) → k < area.right - area.left → f k ≡ tint (area.left + k) j)
    → put_mid at len s t ≡ tinted (by_number w (within (to_row area (j + 1)) tint)) (w * top) first
row-step w top j d at len area tint f first s t j_is some in_w below_top at_is len_is was fits is same =
    let g : ℕ → Tint = by_number w (within (to_row area j) tint) in
    let h : ℕ → Tint = by_number w (within (to_row area (j + 1)) tint) in
    let n : ℕ = w * top in
    let a : ℕ = d * w + area.left in
    let c : ℕ = area.right - area.left in
    let begin : n + a ≡ j * w + area.left = rw j_is (omega arith) in
    let inside : (k : ℕ) → k < c → IsSame (f k) (h (n + a + k)) = λ k l.
    let in_row : area.left + k < w = omega arith in
    let number : n + a + k ≡ j * w + (area.left + k) = omega arith in
    let at_row : h (n + a + k) ≡ within (to_row area (j + 1)) tint (area.left + k) j =
    rw (row-of w j (area.left + k) (n + a + k) in_row number, column-of w j (area.left + k) (n + a + k) in_row number) refl in
    inl (same k l ∙ sym (at_row ∙ within-yes (to_row area (j + 1)) tint (area.left + k) j
    (in_area-yes (to_row area (j + 1)) (area.left + k) j (omega arith) (omega arith) below_top (omega arith)))) in
    let free : (k : ℕ) → n + a ≤ k → k < n + a + c → (g k).weight ≡ 0 = λ k l m.
    let in_row : k - j * w < w = omega arith in
    let number : k ≡ j * w + (k - j * w) = omega arith in
    weightless (g k) (within-no (to_row area j) tint (k % w) (k / w)
    (in_area-bottom (to_row area j) (k % w) (k / w) (rw (row-of w j (k - j * w) k in_row number) (omega arith)))) in
    let before : (k : ℕ) → n ≤ k → k < n + a → IsSame (g k) (h k) = λ k l m.
    inl (within-row area tint (k % w) (k / w) j (λ e. inl (let p : k ≡ w * j + k % w = place-of w k j (omega arith) e in omega arith))) in
    let after : (k : ℕ) → n + a + c ≤ k → IsSame (g k) (h k) = λ k l.
    inl (within-row area tint (k % w) (k / w) j (λ e. inr (let p : k ≡ w * j + k % w = place-of w k j (omega arith) e in omega arith))) in
    tinted-write f g h n a c at len first s t at_is len_is was fits is inside free before after

-- no pixel lies in the area
pub fill-none : (w n : ℕ) (area : Area) (tint : ℕ → ℕ → Tint) (s : List ℕ) → ((i j : ℕ) → in_area area i j ≡ false) → s ≡ tinted (by_number w (within area tint)) n s
fill-none w n area tint s empty =
    sym (tinted-none (by_number w (within area tint)) n (length s) s (omega arith)
    (λ k l. weightless (by_number w (within area tint) (n + k)) (within-no area tint ((n + k) % w) ((n + k) / w) (empty ((n + k) % w) ((n + k) / w)))))

pub no-columns : (area : Area) → area.right ≤ area.left → (i j : ℕ) → in_area area i j ≡ false
no-columns area h i j =
    ⊎_elim (λ (l : i < area.left). in_area-left area i j l) (λ (r : area.left ≤ i). in_area-right area i j (omega arith)) (cases_lt i area.left)

pub no-rows : (area : Area) → area.bottom ≤ area.top → (i j : ℕ) → in_area area i j ≡ false
no-rows area h i j =
    ⊎_elim (λ (l : j < area.top). in_area-top area i j l) (λ (r : area.top ≤ j). in_area-bottom area i j (omega arith)) (cases_lt j area.top)

-- all rows of the area
pub fill-end : (w n j : ℕ) (area : Area) (tint : ℕ → ℕ → Tint) (s t : List ℕ) → j ≡ area.bottom
    → t ≡ tinted (by_number w (within (to_row area j) tint)) n s → t ≡ tinted (by_number w (within area tint)) n s
fill-end w n j area tint s t e was = rw e at was

-- the bytes of a row of an area lie in the rows
pub row-bytes : (w d e left right count : ℕ) → d < e → left ≤ right → right ≤ w → 3 * (w * e) ≤ count → 3 * (d * w + left + (right - left)) ≤ count
row-bytes w d e left right count below ordered in_w fits =
    let more : w * (d + 1) ≤ w * e = mul-le-mul_left w (let h : d + 1 ≤ e = omega arith in h) in
    omega arith

-- Tints are added on an area, where none fell before.
pub add-area : (w n : ℕ) (b : Area) (g before after : ℕ → ℕ → Tint) (s t u : List ℕ) → t ≡ tinted (by_number w before) n s → u ≡ tinted (by_number w (within b g)) n t
    → ((i j : ℕ) → in_area b i j ≡ true → ((before i j).weight ≡ 0) × (g i j ≡ after i j))
    → ((i j : ℕ) → in_area b i j ≡ false → before i j ≡ after i j)
    → u ≡ tinted (by_number w after) n s
add-area w n b g before after s t u was is inside outside =
    is ∙ (ap (tinted (by_number w (within b g)) n) was
    ∙ tinted-tinted (by_number w before) (by_number w (within b g)) (by_number w after) n s (λ k _. joined (k % w) (k / w) (in_area b (k % w) (k / w)) refl))
  where
    joined : (i j : ℕ) (x : Bool) → in_area b i j ≡ x → IsJoined (before i j) (within b g i j) (after i j)
    joined i j true e = let both = inside i j e in inr (both.0, inl (within-yes b g i j e ∙ both.1))
    joined i j false e = inl (weightless (within b g i j) (within-no b g i j e), inl (outside i j e))

-- Two halves of an area, left and right of a column.
pub halves : (w n middle : ℕ) (area : Area) (left right tint : ℕ → ℕ → Tint) (s t u : List ℕ) → area.left ≤ middle → middle ≤ area.right
    → ((i j : ℕ) → area.left ≤ i → i < middle → left i j ≡ tint i j) → ((i j : ℕ) → middle ≤ i → i < area.right → right i j ≡ tint i j)
    → t ≡ tinted (by_number w (within (record area { right = middle }) left)) n s
    → u ≡ tinted (by_number w (within (record area { left = middle }) right)) n t
    → u ≡ tinted (by_number w (within area tint)) n s
halves w n middle area left right tint s t u low high on_left on_right was is =
    let a : Area = record area { right = middle } in
    let b : Area = record area { left = middle } in
    add-area w n b right (within a left) (within area tint) s t u was is
    (λ i j e.
    let p = inside b i j e in (
      weightless (within a left i j) (within-no a left i j (in_area-right a i j p.left)),
      on_right i j p.left p.right ∙ sym (within-yes area tint i j (in_area-yes area i j (omega arith) p.right p.top p.bottom)),
    ))
    (λ i j e. ⊎_elim
    (λ (less : i < middle). same_at i j less (in_area a i j) refl)
    (λ (past : middle ≤ i).
    within-no a left i j (in_area-right a i j past)
    ∙ sym (within-no area tint i j (ap (λ (x : Bool). (x && nat_lt i area.right) && (nat_le area.top j && nat_lt j area.bottom)) (le-yes area.left i (omega arith) ∙ sym (le-yes middle i past)) ∙ e)))
    (cases_lt i middle))
  where
    same_at : (i j : ℕ) → i < middle → (x : Bool) → in_area (record area { right = middle }) i j ≡ x → within (record area { right = middle }) left i j ≡ within area tint i j
    same_at i j less true e =
        let p = inside (record area { right = middle }) i j e in
        within-yes (record area { right = middle }) left i j e ∙ (on_left i j p.left less ∙ sym (within-yes area tint i j (in_area-yes area i j p.left (omega arith) p.top p.bottom)))
    same_at i j less false e =
        within-no (record area { right = middle }) left i j e
        ∙ sym (within-no area tint i j
        (ap (λ (x : Bool). (nat_le area.left i && x) && (nat_le area.top j && nat_lt j area.bottom)) (lt-yes i area.right (omega arith) ∙ sym (lt-yes i middle less)) ∙ e))

-- the colour of a column on either side of the edge, which a call is shown by its bits
pub colour-left : (left right : Rgba) (i middle : ℕ) (edge shown : ℤ) → shown ≡ edge → i < middle → nat_lt i middle ≡ int_lt (pos i) shown → (if int_lt (pos i) edge then left else right) ≡ left
colour-left left right i middle edge shown edge_is less same =
    let e : int_lt (pos i) edge ≡ true = ap (int_lt (pos i)) (sym edge_is) ∙ (sym same ∙ lt-yes i middle less) in
    rw e refl

pub colour-right : (left right : Rgba) (i middle : ℕ) (edge shown : ℤ) → shown ≡ edge → middle ≤ i → nat_lt i middle ≡ int_lt (pos i) shown → (if int_lt (pos i) edge then left else right) ≡ right
colour-right left right i middle edge shown edge_is past same =
    let e : int_lt (pos i) edge ≡ false = ap (int_lt (pos i)) (sym edge_is) ∙ (sym same ∙ lt-no i middle past) in
    rw e refl

-- a pixel under a stencil, from the values of both masks
pub stencilled-value : (colour : Rgba) (over : MaskValue × ℤ × ℤ) (inverse : Bool) (i j m n v : ℕ) → m ≡ v → n ≡ moved_value over (pos i) (pos j)
    → tint_of colour (by_255 (m * (if inverse then 255 - n else n))) ≡ tint_of colour (stencilled (placed_stencil over inverse) i j v)
stencilled-value colour over inverse i j m n v p q = rw (p, q) refl

-- a part of an area is covered where the area is
pub IsAreaCovered-part : (area part : Area) (p : MaskValue × ℤ × ℤ) → area.left ≤ part.left → part.right ≤ area.right → area.top ≤ part.top → part.bottom ≤ area.bottom
    → IsAreaCovered area p → IsAreaCovered part p
IsAreaCovered-part area part p l r t b whole = record {
  covered = λ i j e.
      let q = inside part i j e in
      whole.covered i j (in_area-yes area i j (omega arith) (omega arith) (omega arith) (omega arith));
}
