-- Masks whose box grew.
use Rattle.std.proofs.Common.{◌≡◌, ℕ, ◌+◌, ◌*◌, ◌<◌, ℤ, pos, negsuc, ◌+ℤ◌, ◌-ℤ◌, ◌<ℤ◌, ◌≤ℤ◌, Bool, true, false, not, ◌&&◌, ◌||◌, eqb, cond, List, length, Result, Ok, Err, IfOk, refl, ap, sym, subst, ◌∙◌, arith, eqb-true}
use Rattle.std.proofs.lemmas.Bool.{and_parts}
use Rattle.std.proofs.lemmas.Bool.Decides.{nat_tests}
use Rattle.std.proofs.lemmas.Int.{ints, by_lt_z}
use Rattle.std.proofs.lemmas.Nat.{mul-lt}
use Rattle.std.specs.Ordering.{int_eq}
use Rattle.ass_num.specs.Coverage.{PixelBox, box_of}
use Rattle.ass_num.specs.Limits.{IsMaskWithin}
use Rattle.ass_num.specs.Masks.{MaskValue, is_mask, value_at}
use Rattle.mask_blur.specs.Growth.{grown_box}
use Rattle.mask_blur.specs.Shown.{Shows}
use Rattle.mask_blur.proofs.MaskLemmas.{mask_shows}
use Rattle.mask_blur.proofs.ShownLemmas.{shows_at}

-- how far u lies behind x
pub place_of : (u x d : ℤ) → u -ℤ x ≡ d → x ≤ℤ u → (i : ℕ) × (u ≡ x +ℤ pos i)
place_of u x (pos i) is behind = (i, omega (arith, ints))
place_of u x (negsuc i) is behind = absurd (omega (arith, ints))

-- bytes show one picture
shows_same : (f g : ℤ → ℤ → ℕ) (x y : ℤ) (w h : ℕ) (bytes : List ℕ) → Shows f x y w h bytes → Shows g x y w h bytes → (u v : ℤ) → f u v ≡ g u v
shows_same f g x y w h bytes a b u v =
    by_lt_z u x (λ out. (a.outside.rows v).before u out ∙ sym ((b.outside.rows v).before u out))
    (λ left. by_lt_z u (x +ℤ pos w)
    (λ right. by_lt_z v y (λ out. (a.outside.columns u).before v out ∙ sym ((b.outside.columns u).before v out))
    (λ top. by_lt_z v (y +ℤ pos h)
    (λ bottom. inside left right top bottom)
    (λ out. (a.outside.columns u).behind v out ∙ sym ((b.outside.columns u).behind v out))))
    (λ out. (a.outside.rows v).behind u out ∙ sym ((b.outside.rows v).behind u out)))
  where
    inside : x ≤ℤ u → u <ℤ (x +ℤ pos w) → y ≤ℤ v → v <ℤ (y +ℤ pos h) → f u v ≡ g u v
    inside left right top bottom =
        let column = place_of u x (u -ℤ x) refl left in
        let row = place_of v y (v -ℤ y) refl top in
        rw (column.1, row.1) (sym (a.inside.cells column.0 row.0 (omega (arith, ints, column.1)) (omega (arith, ints, row.1)))
        ∙ b.inside.cells column.0 row.0 (omega (arith, ints, column.1)) (omega (arith, ints, row.1)))

-- the values of a mask whose bytes show a picture
pub shown_value : (g : ℤ → ℤ → ℕ) (m : MaskValue) → Shows g m.x m.y m.w m.h m.bytes → (u v : ℤ) → value_at m u v ≡ g u v
shown_value g m shows = shows_same (value_at m) g m.x m.y m.w m.h m.bytes (mask_shows m) shows

-- a box of bytes with a pixel makes a mask
pub mask_ok : (x y : ℤ) (w h : ℕ) (bytes : List ℕ) → length bytes ≡ w * h → 0 < w → 0 < h → is_mask (record { x = x; y = y; w = w; h = h; bytes = bytes }) ≡ true
mask_ok x y w h bytes count a b =
    let some : 0 < w * h = omega (arith, mul-lt 0 0 w h a b) in
    let full : eqb (length bytes) 0 ≡ false = grind (arith, nat_tests) in
    let same : eqb (length bytes) (w * h) ≡ true = grind (arith, nat_tests) in
    rw (same, full) refl

-- a mask with a column has a pixel
pub mask_some : (m : MaskValue) → is_mask m ≡ true → (m.w ≡ 0 → ⊥) → eqb (length m.bytes) 0 ≡ false
mask_some m canonical wide = by_test (eqb (length m.bytes) 0) (and_parts (eqb (length m.bytes) (m.w * m.h)) _ canonical).1
  where
    by_test : (b : Bool) → (not b || (int_eq m.x (pos 0) && (int_eq m.y (pos 0) && (eqb m.w 0 && eqb m.h 0)))) ≡ true → b ≡ false
    by_test true zero_sides =
        let a = (and_parts (int_eq m.x (pos 0)) _ zero_sides).1 in
        let b = (and_parts (int_eq m.y (pos 0)) _ a).1 in
        absurd (wide (eqb-true m.w 0 (and_parts (eqb m.w 0) _ b).0))
    by_test false h = refl

-- a mask without a column has no pixel
pub mask_none : (m : MaskValue) → is_mask m ≡ true → m.w ≡ 0 → eqb (length m.bytes) 0 ≡ true
mask_none m canonical narrow =
    let count : length m.bytes ≡ m.w * m.h = eqb-true (length m.bytes) (m.w * m.h) (and_parts _ _ canonical).0 in
    let none : length m.bytes ≡ 0 = omega (arith, count, ap (λ n. n * m.h) narrow) in
    rw none refl

pub value_none : (m : MaskValue) → m.w ≡ 0 → (x y : ℤ) → value_at m x y ≡ 0
value_none m narrow x y = by_lt_z x m.x (λ out. ((mask_shows m).outside.rows y).before x out) (λ behind. ((mask_shows m).outside.rows y).behind x (omega (arith, ints, narrow)))

pub box_kept : (k : ℕ) (m : MaskValue) → eqb (length m.bytes) 0 ≡ true → box_of m ≡ grown_box k m
box_kept k m none = rw none refl

pub box_same : (m : MaskValue) → box_of m ≡ grown_box 0 m
box_same m =
    let x : m.x +ℤ pos 0 ≡ m.x = omega (arith, ints) in
    let y : m.y +ℤ pos 0 ≡ m.y = omega (arith, ints) in
    let w : m.w + 0 ≡ m.w = omega arith in
    let h : m.h + 0 ≡ m.h = omega arith in
    by_test (eqb (length m.bytes) 0) x y w h
  where
    by_test : (b : Bool) → m.x +ℤ pos 0 ≡ m.x → m.y +ℤ pos 0 ≡ m.y → m.w + 0 ≡ m.w → m.h + 0 ≡ m.h
        → box_of m ≡ cond b (box_of m) (record { x = m.x +ℤ pos 0; y = m.y +ℤ pos 0; w = m.w + 0; h = m.h + 0 })
    by_test true x y w h = refl
    by_test false x y w h = rw (x, y, w, h) refl

pub box_grown : (k : ℕ) (m : MaskValue) (x y : ℤ) (w h : ℕ) (bytes : List ℕ) → eqb (length m.bytes) 0 ≡ false
    → x ≡ m.x -ℤ pos k → y ≡ m.y -ℤ pos k → w ≡ m.w + 2 * k → h ≡ m.h + 2 * k
    → box_of (record { x = x; y = y; w = w; h = h; bytes = bytes }) ≡ grown_box k m
box_grown k m x y w h bytes some a b c d = rw (some, a, b, c, d) refl

-- the mask of the bytes of a grown box that show a picture
pub grown_value : (g : ℤ → ℤ → ℕ) (k : ℕ) (m : MaskValue) (x y : ℤ) (w h : ℕ) (bytes : List ℕ)
    → x ≡ m.x -ℤ pos k → y ≡ m.y -ℤ pos k → w ≡ m.w + 2 * k → h ≡ m.h + 2 * k
    → Shows g (m.x -ℤ pos k) (m.y -ℤ pos k) (m.w + 2 * k) (m.h + 2 * k) bytes
    → (u v : ℤ) → value_at (record { x = x; y = y; w = w; h = h; bytes = bytes }) u v ≡ g u v
grown_value g k m x y w h bytes a b c d shows = shown_value g (record { x = x; y = y; w = w; h = h; bytes = bytes })
    (shows_at g (m.x -ℤ pos k) (m.y -ℤ pos k) x y (m.w + 2 * k) (m.h + 2 * k) w h bytes shows (sym a) (sym b) (sym c) (sym d))

-- a copy has what the mask has
pub copy_has : {A E : Type 0} (r : Result A E) (m : A) (P : A → Type 0) → IfOk r (λ copy. copy ≡ m) → P m → IfOk r P
copy_has (Ok copy) m P same has = subst P (sym same) has
copy_has (Err e) m P same has = tt

-- ---- how far grown masks reach
pub grown_within : (k : ℕ) (m result : MaskValue) → box_of result ≡ grown_box k m → (corner side : ℕ) → IsMaskWithin corner side m → IsMaskWithin (corner + k) (side + 2 * k) result
grown_within k m result same corner side within = by_test (eqb (length m.bytes) 0) same
  where
    by_test : (b : Bool) → box_of result ≡ cond b (box_of m) (record { x = m.x -ℤ pos k; y = m.y -ℤ pos k; w = m.w + 2 * k; h = m.h + 2 * k }) → IsMaskWithin (corner + k) (side + 2 * k) result
    by_test true e =
        let x : result.x ≡ m.x = ap (λ (z : PixelBox). z.x) e in
        let y : result.y ≡ m.y = ap (λ (z : PixelBox). z.y) e in
        let w : result.w ≡ m.w = ap (λ (z : PixelBox). z.w) e in
        let h : result.h ≡ m.h = ap (λ (z : PixelBox). z.h) e in
        let a = within.x in let b = within.y in let c = within.w in let d = within.h in
        record { x = (omega (arith, ints, a.0), omega (arith, ints, a.1)); y = (omega (arith, ints, b.0), omega (arith, ints, b.1)); w = omega arith; h = omega arith }
    by_test false e =
        let x : result.x ≡ m.x -ℤ pos k = ap (λ (z : PixelBox). z.x) e in
        let y : result.y ≡ m.y -ℤ pos k = ap (λ (z : PixelBox). z.y) e in
        let w : result.w ≡ m.w + 2 * k = ap (λ (z : PixelBox). z.w) e in
        let h : result.h ≡ m.h + 2 * k = ap (λ (z : PixelBox). z.h) e in
        let a = within.x in let b = within.y in let c = within.w in let d = within.h in
        record { x = (omega (arith, ints, a.0), omega (arith, ints, a.1)); y = (omega (arith, ints, b.0), omega (arith, ints, b.1)); w = omega arith; h = omega arith }
