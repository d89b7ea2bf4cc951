-- How far an ellipse reaches in each of its rows.
use Rattle.std.proofs.Common.{◌≡◌, ℕ, ◌+◌, ◌-◌, ◌*◌, ◌/◌, ◌<◌, ◌≤◌, ⊎_elim, refl, sym, ap, ◌∙◌, arith, mul-le-mul, List, [], ◌∷◌, ◌++◌, length, slice_index, get_or}
use Rattle.std.proofs.Math.Nat.{div-mul-le_self, mul-le-mul_right, le_of_mul-le-mul_right}
use Rattle.std.proofs.lemmas.Nat.{le-div}
use Rattle.std.proofs.lemmas.Bool.{cases_lt}
use Rattle.std.proofs.lemmas.List.{get_or_append_left, get_or_push, length_push}
use Rattle.border_region.specs.Limits.{max_radius}
use Rattle.region_rows.specs.Widened.{square}
use Rattle.border_region.specs.Ellipse.{IsHalfWidth, AreHalfWidths, AreFalling}

pub square_le : (x y : ℕ) → x ≤ y → square x ≤ square y
square_le x y h = mul-le-mul h h

pub root_le : (x y : ℕ) → square x ≤ square y → x ≤ y
root_le x y h = ⊎_elim
    (λ (l : y < x). absurd (let k : square (y + 1) ≤ square x = square_le (y + 1) x (omega arith) in omega arith))
    (λ (l : x ≤ y). l) (cases_lt y x)

-- the middle row of an ellipse without height
pub flat : (rx : ℕ) → IsHalfWidth rx 0 0 rx
flat rx = λ a. (λ l. (l, omega arith), λ h. h.0)

-- what stands under the root, taken apart
difference : (a b d : ℕ) → d ≤ b → square a * (square b - square d) + square a * square d ≡ square a * square b
difference a b d l =
    let k = square_le d b l in
    let s : square b ≡ (square b - square d) + square d = omega arith in
    sym (ap (λ z. square a * z) s ∙ spread (square a) (square b - square d) (square d))
  where
    spread : (x y z : ℕ) → x * (y + z) ≡ x * y + x * z
    spread x y z = omega arith

-- the root w of the quotient q is the half width
pub half_width_is : (rx ry d w : ℕ) → 0 < ry → d ≤ ry → square w ≤ square rx * (square ry - square d) / square ry → square rx * (square ry - square d) / square ry < square (w + 1) → IsHalfWidth rx ry d w
half_width_is rx ry d w p l low high =
    let n : ℕ = square rx * (square ry - square d) in
    let b : ℕ = square ry in
    let q : ℕ = n / b in
    let e = difference rx ry d l in
    let pb : 0 < b = mul-le-mul {n₁ = 1} {m₁ = 1} {n₂ = ry} {m₂ = ry} p p in
    let under : q * b ≤ n = div-mul-le_self n b in
    λ a. (
      λ h.
          let s : square a * b ≤ q * b = mul-le-mul_right b (let k = square_le a w h in omega arith) in
          let t : square a * b ≤ square rx * b = omega arith in
          (root_le a rx (le_of_mul-le-mul_right t pb), (let c = commute (square d) (square rx) in omega arith)),
      λ h.
          let h1 = h.1 in
          let c = commute (square d) (square rx) in
          let s : square a ≤ q = le-div (square a) n b pb (omega arith) in
          ⊎_elim (λ (m : w < a). absurd (let k : square (w + 1) ≤ square a = square_le (w + 1) a (omega arith) in omega arith)) (λ (m : a ≤ w). m) (cases_lt w a),
    )
  where
    commute : (x y : ℕ) → x * y ≡ y * x
    commute x y = omega arith

-- the width is at most the radius, and falls from row to row
width_le : (rx ry d w : ℕ) → IsHalfWidth rx ry d w → w ≤ rx
width_le rx ry d w h = ((h w).0 (omega arith)).0

width_falls : (rx ry d w v : ℕ) → IsHalfWidth rx ry d w → IsHalfWidth rx ry (d + 1) v → v ≤ w
width_falls rx ry d w v h k =
    let p = (k v).0 (omega arith) in
    let p1 = p.1 in
    let s : square d * square rx ≤ square (d + 1) * square rx = mul-le-mul_right (square rx) (square_le d (d + 1) (omega arith)) in
    (h v).1 (p.0, omega arith)

pub falling : (rx ry : ℕ) (widths : List ℕ) → rx ≤ max_radius → ry ≤ max_radius → AreHalfWidths rx ry widths → AreFalling widths
falling rx ry widths a b w =
    let c = w.count in
    record {
      some = omega arith;
      few = omega arith;
      small = λ d l. let k = width_le rx ry d (get_or widths d 0) (w.each d (omega arith)) in omega arith;
      falls = λ d l. width_falls rx ry d (get_or widths d 0) (get_or widths (d + 1) 0) (w.each d (omega arith)) (w.each (d + 1) (omega arith));
    }

pub record HasWidths (rx ry n : ℕ) (widths : List ℕ) : Type 0 where
  pub count : length widths ≡ n
  pub each : (d : ℕ) → d < n → IsHalfWidth rx ry d (slice_index widths d)

pub widths_none : (rx ry : ℕ) → HasWidths rx ry 0 []
widths_none rx ry = record { count = refl; each = λ d l. absurd (omega arith) }

pub widths_more : (rx ry n w : ℕ) (widths : List ℕ) → HasWidths rx ry n widths → IsHalfWidth rx ry n w → HasWidths rx ry (n + 1) (widths ++ w ∷ [])
widths_more rx ry n w widths old h =
    let c = old.count in
    let more = length_push widths w in
    record {
      count = omega arith;
      each = λ d l. ⊎_elim
          (λ (a : d < n). rw (get_or_append_left widths (w ∷ []) 0 d (omega arith)) (old.each d a))
          (λ (a : n ≤ d). let e : d ≡ n = omega arith in rw (get_or_push widths w 0 d (omega arith), e) h)
          (cases_lt d n);
    }

pub widths_all : (rx ry n : ℕ) (widths : List ℕ) → n ≡ ry + 1 → HasWidths rx ry n widths → AreHalfWidths rx ry widths
widths_all rx ry n widths e old = record { count = old.count ∙ e; each = λ d l. old.each d (omega arith) }
