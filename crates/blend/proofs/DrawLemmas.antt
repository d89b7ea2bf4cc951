-- Lemmas on whole images: a hole in an area, and what an image's tints are in and outside its box.
use Rattle.std.proofs.Common.{◌≡◌, ℕ, ℤ, pos, int_lt, ◌+◌, ◌*◌, ◌/◌, ◌%◌, ◌<◌, ◌≤◌, ◌⊎◌, Bool, true, false, ◌&&◌, if◌then◌else◌, List, length, refl, sym, ap, ◌∙◌, inl, inr, ⊎_elim, arith}
use Rattle.std.proofs.lemmas.Bool.{cases_lt}
use Rattle.std.proofs.lemmas.Nat.{mod_below, le-div, div_below}
use Rattle.ass_num.specs.Masks.{MaskValue}
use Rattle.ass_num.specs.Coverage.{moved_value}
use Rattle.ass_num.specs.declared.colour.Rgba.{Rgba}
use Rattle.blend.specs.declared.area.Area.{Area}
use Rattle.blend.specs.declared.area.Band.{Band}
use Rattle.blend.specs.Blending.{Tint, Image, StencilValue, Free, Rect, Drawn, in_rect, stencilled, tint_of, tint_at, tinted, by_number, painted}
use Rattle.blend.specs.Areas.{in_area, in_moved_box, IsPart, IsMeeting, within, without, no_tint, tints, placed_stencil, with_tints}
use Rattle.blend.proofs.AreaLemmas.{in_area-yes, in_area-left, in_area-right, in_area-top, in_area-bottom, inside, and-first, moved_value-outside}
use Rattle.blend.proofs.TintedLemmas.{IsSame, tinted-none, tinted-shift, weightless, tint_of-none, by_255-none}
use Rattle.blend.proofs.FillLemmas.{within-yes, within-no, add-area}

pub without-yes : (area : Area) (tint : ℕ → ℕ → Tint) (i j : ℕ) → in_area area i j ≡ true → without area tint i j ≡ no_tint
without-yes area tint i j e = rw e refl

pub without-no : (area : Area) (tint : ℕ → ℕ → Tint) (i j : ℕ) → in_area area i j ≡ false → without area tint i j ≡ tint i j
without-no area tint i j e = rw e refl

-- A pixel of a whole lies in just one of two parts, and no other pixel lies in either.
abbrev IsSplit : Bool → Bool → Bool → Type 0
IsSplit whole a b = ((whole ≡ true) × (a ≡ true) × (b ≡ false)) ⊎ (((whole ≡ true) × (a ≡ false) × (b ≡ true)) ⊎ ((whole ≡ false) × (a ≡ false) × (b ≡ false)))

split-turned : (whole a b : Bool) → IsSplit whole a b → IsSplit whole b a
split-turned whole a b (inl e) = inr (inl (e.0, e.2, e.1))
split-turned whole a b (inr (inl e)) = inl (e.0, e.2, e.1)
split-turned whole a b (inr (inr e)) = inr (inr (e.0, e.2, e.1))

-- what is not in an area is not in its part
not-in-part : (whole part : Area) (i j : ℕ) → (in_area part i j ≡ true → in_area whole i j ≡ true) → in_area whole i j ≡ false → in_area part i j ≡ false
not-in-part whole part i j up out = go (in_area part i j) up
  where
    go : (b : Bool) → (b ≡ true → in_area whole i j ≡ true) → b ≡ false
    go true f = let e : in_area whole i j ≡ true = f refl in cc
    go false f = refl

split-rows : (a : Area) (r i j : ℕ) → a.top ≤ r → r ≤ a.bottom → IsSplit (in_area a i j) (in_area (record a { bottom = r }) i j) (in_area (record a { top = r }) i j)
split-rows a r i j low high = go (in_area a i j) refl
  where
    upper : Area
    upper = record a { bottom = r }

    lower : Area
    lower = record a { top = r }

    go : (b : Bool) → in_area a i j ≡ b → IsSplit b (in_area (record a { bottom = r }) i j) (in_area (record a { top = r }) i j)
    go true e =
        let p = inside a i j e in
        ⊎_elim
        (λ (less : j < r). inl (refl, in_area-yes (record a { bottom = r }) i j p.left p.right p.top less, in_area-top (record a { top = r }) i j less))
        (λ (past : r ≤ j). inr (inl (refl, in_area-bottom (record a { bottom = r }) i j past, in_area-yes (record a { top = r }) i j p.left p.right past p.bottom)))
        (cases_lt j r)
    go false e = inr (inr (
      refl,
      not-in-part a (record a { bottom = r }) i j (λ t. let p = inside (record a { bottom = r }) i j t in in_area-yes a i j p.left p.right p.top (omega (arith, p.bottom))) e,
      not-in-part a (record a { top = r }) i j (λ t. let p = inside (record a { top = r }) i j t in in_area-yes a i j p.left p.right (omega (arith, p.top)) p.bottom) e,
    ))

split-columns : (a : Area) (r i j : ℕ) → a.left ≤ r → r ≤ a.right → IsSplit (in_area a i j) (in_area (record a { right = r }) i j) (in_area (record a { left = r }) i j)
split-columns a r i j low high = go (in_area a i j) refl
  where
    go : (b : Bool) → in_area a i j ≡ b → IsSplit b (in_area (record a { right = r }) i j) (in_area (record a { left = r }) i j)
    go true e =
        let p = inside a i j e in
        ⊎_elim
        (λ (less : i < r). inl (refl, in_area-yes (record a { right = r }) i j p.left less p.top p.bottom, in_area-left (record a { left = r }) i j less))
        (λ (past : r ≤ i). inr (inl (refl, in_area-right (record a { right = r }) i j past, in_area-yes (record a { left = r }) i j past p.right p.top p.bottom)))
        (cases_lt i r)
    go false e = inr (inr (
      refl,
      not-in-part a (record a { right = r }) i j (λ t. let p = inside (record a { right = r }) i j t in in_area-yes a i j p.left (omega (arith, p.right)) p.top p.bottom) e,
      not-in-part a (record a { left = r }) i j (λ t. let p = inside (record a { left = r }) i j t in in_area-yes a i j (omega (arith, p.left)) p.right p.top p.bottom) e,
    ))

-- A hole shrinks by a part that gets its tints.
shrink : (w n : ℕ) (area hole part rest : Area) (tint : ℕ → ℕ → Tint) (s t u : List ℕ) → t ≡ tinted (by_number w (without hole (within area tint))) n s
    → u ≡ tinted (by_number w (within part tint)) n t → ((i j : ℕ) → IsSplit (in_area hole i j) (in_area part i j) (in_area rest i j))
    → ((i j : ℕ) → in_area part i j ≡ true → in_area area i j ≡ true) → u ≡ tinted (by_number w (without rest (within area tint))) n s
shrink w n area hole part rest tint s t u was is split inner =
    add-area w n part tint (without hole (within area tint)) (without rest (within area tint)) s t u was is
    (λ i j e. on_part i j (inner i j e) e (split i j))
    (λ i j e. elsewhere i j e (split i j))
  where
    on_part : (i j : ℕ) → in_area area i j ≡ true → in_area part i j ≡ true → IsSplit (in_area hole i j) (in_area part i j) (in_area rest i j)
        → ((without hole (within area tint) i j).weight ≡ 0) × (tint i j ≡ without rest (within area tint) i j)
    on_part i j y e (inl h) = (
      weightless (without hole (within area tint) i j) (without-yes hole (within area tint) i j h.0),
      sym (without-no rest (within area tint) i j h.2 ∙ within-yes area tint i j y),
    )
    on_part i j y e (inr (inl h)) = absurd (let f : in_area part i j ≡ false = h.1 in cc)
    on_part i j y e (inr (inr h)) = absurd (let f : in_area part i j ≡ false = h.1 in cc)

    elsewhere : (i j : ℕ) → in_area part i j ≡ false → IsSplit (in_area hole i j) (in_area part i j) (in_area rest i j)
        → without hole (within area tint) i j ≡ without rest (within area tint) i j
    elsewhere i j e (inl h) = absurd (let f : in_area part i j ≡ true = h.1 in cc)
    elsewhere i j e (inr (inl h)) = without-yes hole (within area tint) i j h.0 ∙ sym (without-yes rest (within area tint) i j h.2)
    elsewhere i j e (inr (inr h)) = without-no hole (within area tint) i j h.0 ∙ sym (without-no rest (within area tint) i j h.2)

-- nothing is drawn yet: the hole is the whole area
no-tints : (w n : ℕ) (area : Area) (tint : ℕ → ℕ → Tint) (s : List ℕ) → s ≡ tinted (by_number w (without area (within area tint))) n s
no-tints w n area tint s =
    sym (tinted-none (by_number w (without area (within area tint))) n (length s) s (omega arith)
    (λ k l. weightless (by_number w (without area (within area tint)) (n + k)) (none ((n + k) % w) ((n + k) / w) (in_area area ((n + k) % w) ((n + k) / w)) refl)))
  where
    none : (i j : ℕ) (b : Bool) → in_area area i j ≡ b → without area (within area tint) i j ≡ no_tint
    none i j true e = without-yes area (within area tint) i j e
    none i j false e = without-no area (within area tint) i j e ∙ within-no area tint i j e

-- The parts above, below, left and right of a hole get their tints one after the other.
pub around : (w n : ℕ) (area hole : Area) (tint : ℕ → ℕ → Tint) (s a b c d : List ℕ) → IsPart hole area
    → a ≡ tinted (by_number w (within (record area { bottom = hole.top }) tint)) n s
    → b ≡ tinted (by_number w (within (record area { top = hole.bottom }) tint)) n a
    → c ≡ tinted (by_number w (within (record hole { left = area.left; right = hole.left }) tint)) n b
    → d ≡ tinted (by_number w (within (record hole { left = hole.right; right = area.right }) tint)) n c
    → d ≡ tinted (by_number w (without hole (within area tint))) n s
around w n area hole tint s a b c d part above below before after =
    let first : Area = record area { top = hole.top } in
    let second : Area = record first { bottom = hole.bottom } in
    let third : Area = record second { left = hole.left } in
    let one = shrink w n area area (record area { bottom = hole.top }) first tint s s a (no-tints w n area tint s) above
    (λ i j. split-rows area hole.top i j part.top (omega (arith, part.rows, part.bottom)))
    (λ i j e. let p = inside (record area { bottom = hole.top }) i j e in in_area-yes area i j p.left p.right p.top (omega (arith, p.bottom, part.rows, part.bottom))) in
    let two = shrink w n area first (record first { top = hole.bottom }) second tint s a b one below
    (λ i j. split-turned _ _ _ (split-rows first hole.bottom i j part.rows part.bottom))
    (λ i j e. let p = inside (record first { top = hole.bottom }) i j e in in_area-yes area i j p.left p.right (omega (arith, p.top, part.top, part.rows)) p.bottom) in
    let three = shrink w n area second (record second { right = hole.left }) third tint s b c two before
    (λ i j. split-columns second hole.left i j part.left (omega (arith, part.columns, part.right)))
    (λ i j e. let p = inside (record second { right = hole.left }) i j e in
    in_area-yes area i j p.left (omega (arith, p.right, part.columns, part.right)) (omega (arith, p.top, part.top)) (omega (arith, p.bottom, part.bottom))) in
    shrink w n area third (record third { left = hole.right }) hole tint s c d three after
    (λ i j. split-turned _ _ _ (split-columns third hole.right i j part.columns part.right))
    (λ i j e. let p = inside (record third { left = hole.right }) i j e in
    in_area-yes area i j (omega (arith, p.left, part.left, part.columns)) p.right (omega (arith, p.top, part.top)) (omega (arith, p.bottom, part.bottom)))

-- tints that do the same
pub same-tints : (band : Band) (f g : ℕ → ℕ → Tint) (s t : List ℕ) → t ≡ with_tints band f s → ((i j : ℕ) → IsSame (f i j) (g i j)) → t ≡ with_tints band g s
same-tints band f g s t was same =
    was ∙ tinted-shift (by_number band.w f) (by_number band.w g) (band.w * band.top) (band.w * band.top) (length s) s (omega arith)
    (λ k _. same ((band.w * band.top + k) % band.w) ((band.w * band.top + k) / band.w))

-- Under a rectangle, of which the area has a part: its inside has all tints.
pub rect-inside : (colour : Rgba) (p : MaskValue × ℤ × ℤ) (x1 y1 x2 y2 : ℤ) (area part : Area) (i j : ℕ)
    → in_area part i j ≡ (in_area area i j && in_rect x1 y1 x2 y2 (pos i) (pos j))
    → IsSame (within part (tints colour p Free) i j) (within area (tints colour p (Rect x1 y1 x2 y2 false)) i j)
rect-inside colour p x1 y1 x2 y2 area part i j both = go (in_area area i j) (in_rect x1 y1 x2 y2 (pos i) (pos j)) refl refl
  where
    go : (b r : Bool) → in_area area i j ≡ b → in_rect x1 y1 x2 y2 (pos i) (pos j) ≡ r
        → IsSame (within part (tints colour p Free) i j) (within area (tints colour p (Rect x1 y1 x2 y2 false)) i j)
    go true true e f = let q : in_area part i j ≡ true = both ∙ rw (e, f) refl in inl (rw (q, e, f) refl)
    go true false e f = let q : in_area part i j ≡ false = both ∙ rw (e, f) refl in inr (rw q refl, rw (e, f) (tint_of-none colour 0 refl))
    go false r e f = let q : in_area part i j ≡ false = both ∙ rw e refl in inl (rw (q, e) refl)

-- And outside it has all, where it is inverse.
pub rect-outside : (colour : Rgba) (p : MaskValue × ℤ × ℤ) (x1 y1 x2 y2 : ℤ) (area part : Area) (i j : ℕ)
    → in_area part i j ≡ (in_area area i j && in_rect x1 y1 x2 y2 (pos i) (pos j))
    → IsSame (without part (within area (tints colour p Free)) i j) (within area (tints colour p (Rect x1 y1 x2 y2 true)) i j)
rect-outside colour p x1 y1 x2 y2 area part i j both = go (in_area area i j) (in_rect x1 y1 x2 y2 (pos i) (pos j)) refl refl
  where
    go : (b r : Bool) → in_area area i j ≡ b → in_rect x1 y1 x2 y2 (pos i) (pos j) ≡ r
        → IsSame (without part (within area (tints colour p Free)) i j) (within area (tints colour p (Rect x1 y1 x2 y2 true)) i j)
    go true true e f = let q : in_area part i j ≡ true = both ∙ rw (e, f) refl in inr (rw q refl, rw (e, f) (tint_of-none colour 0 refl))
    go true false e f = let q : in_area part i j ≡ false = both ∙ rw (e, f) refl in inl (rw (q, e, f) refl)
    go false r e f = let q : in_area part i j ≡ false = both ∙ rw e refl in inl (rw (q, e) refl)

-- Under a mask, of whose box the area has a part: the rest has no tints.
pub under-inside : (colour : Rgba) (p over : MaskValue × ℤ × ℤ) (area part : Area) (i j : ℕ) → in_area part i j ≡ (in_area area i j && in_moved_box over i j)
    → IsSame (within part (tints colour p (placed_stencil over false)) i j) (within area (tints colour p (placed_stencil over false)) i j)
under-inside colour p over area part i j both = go (in_area area i j) (in_moved_box over i j) refl refl
  where
    go : (b r : Bool) → in_area area i j ≡ b → in_moved_box over i j ≡ r
        → IsSame (within part (tints colour p (placed_stencil over false)) i j) (within area (tints colour p (placed_stencil over false)) i j)
    go true true e f = let q : in_area part i j ≡ true = both ∙ rw (e, f) refl in inl (rw (q, e) refl)
    go true false e f =
        let q : in_area part i j ≡ false = both ∙ rw (e, f) refl in
        let none : stencilled (placed_stencil over false) i j (moved_value p (pos i) (pos j)) ≡ 0 = rw (moved_value-outside over i j f) (omega arith) in
        inr (rw q refl, rw e (tint_of-none colour _ none))
    go false r e f = let q : in_area part i j ≡ false = both ∙ rw e refl in inl (rw (q, e) refl)

-- And has all, where it is inverse.
pub under-outside : (colour : Rgba) (p over : MaskValue × ℤ × ℤ) (area part : Area) (i j : ℕ) → in_area part i j ≡ (in_area area i j && in_moved_box over i j) → in_area part i j ≡ false
    → without part (within area (tints colour p Free)) i j ≡ within area (tints colour p (placed_stencil over true)) i j
under-outside colour p over area part i j both q = go (in_area area i j) refl
  where
    go : (b : Bool) → in_area area i j ≡ b → without part (within area (tints colour p Free)) i j ≡ within area (tints colour p (placed_stencil over true)) i j
    go true e =
        let f : in_moved_box over i j ≡ false = sym (both ∙ rw e refl) ∙ q in
        let v : moved_value p (pos i) (pos j) ≡ stencilled (placed_stencil over true) i j (moved_value p (pos i) (pos j)) = rw (moved_value-outside over i j f) (omega arith) in
        rw (q, e) (ap (tint_of colour) v)
    go false e = rw (q, e) refl

-- What lies around a mask's box gets its tints, and then what lies in it.
pub under-inverse : (band : Band) (colour : Rgba) (p over : MaskValue × ℤ × ℤ) (area part : Area) (s t u : List ℕ)
    → ((i j : ℕ) → in_area part i j ≡ (in_area area i j && in_moved_box over i j))
    → t ≡ with_tints band (without part (within area (tints colour p Free))) s
    → u ≡ with_tints band (within part (tints colour p (placed_stencil over true))) t
    → u ≡ with_tints band (within area (tints colour p (placed_stencil over true))) s
under-inverse band colour p over area part s t u both was is =
    add-area band.w (band.w * band.top) part (tints colour p (placed_stencil over true)) (without part (within area (tints colour p Free)))
    (within area (tints colour p (placed_stencil over true))) s t u was is
    (λ i j e. (
      weightless _ (without-yes part (within area (tints colour p Free)) i j e),
      sym (within-yes area (tints colour p (placed_stencil over true)) i j (and-first (in_area area i j) (in_moved_box over i j) (sym (both i j) ∙ e))),
    ))
    (λ i j e. under-outside colour p over area part i j (both i j) e)

-- no stencil makes coverage where there is none
pub stencilled-none : (stencil : StencilValue) (i j m : ℕ) → m ≡ 0 → stencilled stencil i j m ≡ 0
stencilled-none Free i j m e = e
stencilled-none (Rect x1 y1 x2 y2 inverse) i j m e = either (in_rect x1 y1 x2 y2 (pos i) (pos j)) inverse
  where
    either : (r b : Bool) → (let left : ℕ = if r then (if b then 0 else m) else (if b then m else 0) in left) ≡ 0
    either true true = refl
    either true false = e
    either false true = e
    either false false = refl
stencilled-none (Drawn c x y inverse) i j m e = by_255-none m _ e

-- in a band an image's tints are those in its mask's box
same-inside : (area : Area) (image : Image) (i j : ℕ) (b : Bool) → in_area area i j ≡ b → in_area area i j ≡ in_moved_box (image.mask, image.x, image.y) i j → IsSame (within area (tint_at image) i j) (tint_at image i j)
same-inside area image i j true e at = inl (within-yes area (tint_at image) i j e)
same-inside area image i j false e at =
    inr (
      weightless (within area (tint_at image) i j) (within-no area (tint_at image) i j e),
      tint_of-none (if int_lt (pos i) image.edge then image.left else image.right) _ (stencilled-none image.stencil i j _ (moved_value-outside (image.mask, image.x, image.y) i j (sym at ∙ e))),
    )

-- The tints of an image in what a band has of its mask's box draw it on the band.
pub tints-drawn : (band : Band) (area : Area) (image : Image) (s t : List ℕ) → length s ≡ 3 * (band.w * band.h) → IsMeeting area band (image.mask, image.x, image.y)
    → t ≡ with_tints band (within area (tint_at image)) s → t ≡ painted image band.w (band.w * band.top) s
tints-drawn band area image s t len met was =
    was ∙ tinted-shift (by_number w (within area (tint_at image))) (by_number w (tint_at image)) (w * band.top) (w * band.top) (w * band.h) s (omega arith)
    (λ k l. at_pixel k l (⊎_elim (λ (p : 0 < w). p) (λ (z : w ≤ 0). absurd (let e : w ≡ 0 = omega arith in let f : k < 0 * band.h = rw e at l in omega arith)) (cases_lt 0 w)))
  where
    w : ℕ
    w = band.w

    at_pixel : (k : ℕ) → k < w * band.h → 0 < w → IsSame (by_number w (within area (tint_at image)) (w * band.top + k)) (by_number w (tint_at image) (w * band.top + k))
    at_pixel k l some =
        same-inside area image ((w * band.top + k) % w) ((w * band.top + k) / w) (in_area area ((w * band.top + k) % w) ((w * band.top + k) / w)) refl
        (met.whole ((w * band.top + k) % w) ((w * band.top + k) / w) (mod_below (w * band.top + k) w some) (le-div band.top (w * band.top + k) w some (omega arith))
        (div_below (w * band.top + k) w (band.top + band.h) some (omega arith)))
