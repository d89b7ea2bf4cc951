-- How near layers with alpha come to the same layers on a background, by whole numbers. A composite is held 255 * fine times as great:
-- 255 times the channel of the layers, and the background times what the alpha leaves.
use Rattle.std.proofs.Common.{◌≡◌, ℕ, ◌+◌, ◌-◌, ◌*◌, ◌/◌, ◌<◌, ◌≤◌, false, if◌then◌else◌, inl, inr, ap, arith}
use Rattle.std.specs.Bool.{◌==◌}
use Rattle.std.proofs.Math.Nat.{mul-le-mul_left, mul-le-mul_right, mul-div-le, lt-div-mul-add}
use Rattle.std.proofs.lemmas.Bool.{cases_lt}
use Rattle.std.proofs.lemmas.Bool.Decides.{nat_tests}
use Rattle.blend.specs.Blending.{by_255, blended}
use Rattle.alpha_canvas.specs.Alpha.{fine, to_nearest}
use Rattle.alpha_canvas.specs.Nearness.{DifferByAtMost}

-- ---- one layer

-- a blended number, 255 times, is off by at most 127 for each step of the weight; a weight of 0 changes nothing
pub blended-near : (under over w q : ℕ) → q + w ≡ 255 → DifferByAtMost (127 * w) (255 * blended under over w) (under * q + over * w)
blended-near under over w q e =
    let left : 255 - w ≡ q = omega arith in
    rw left (elim (cases_lt 0 w) [
      | inl some ↦ record { above = omega arith; below = omega arith }
      | inr none ↦
          let w_is : w ≡ 0 = omega arith in
          let q_is : q ≡ 255 = omega arith in
          rw (w_is, q_is) (record { above = omega arith; below = omega arith })
    ])

-- what an alpha leaves, after one layer
pub rest-near : (a b w q next rest : ℕ) → q + w ≡ 255 → a + b ≡ fine * 255 → next + rest ≡ fine * 255 → DifferByAtMost (127 * w) (255 * next) (a * q + fine * 255 * w) → DifferByAtMost (127 * w) (255 * rest) (b * q)
rest-near a b w q next rest e whole left near =
    let parts : (a + b) * q ≡ fine * 255 * q = ap (λ (k : ℕ). k * q) whole in
    let all : (q + w) * (fine * 255) ≡ 255 * (fine * 255) = ap (λ (k : ℕ). k * (fine * 255)) e in
    record { above = omega (arith, near.below); below = omega (arith, near.above) }

-- the composite after one layer
pub composite-step : (v c b o w q c' b' : ℕ) → v ≤ 255 → DifferByAtMost (127 * w) (255 * c') (c * q + o * w) → DifferByAtMost (127 * w) (255 * b') (b * q)
    → DifferByAtMost (64770 * w) (255 * (255 * c' + v * b')) ((255 * c + v * b) * q + 255 * (o * w))
composite-step v c b o w q c' b' small near rest =
    let up = mul-le-mul_left v rest.above in
    let down = mul-le-mul_left v rest.below in
    let most = mul-le-mul_right (127 * w) small in
    record { above = omega (arith, near.above); below = omega (arith, near.below) }

-- the composite against the exact fraction
pub exact-step : (m m' x u o w q : ℕ) → q + w ≡ 255 → DifferByAtMost (64770 * w) (255 * m') (m * q + 255 * (fine * o * w)) → DifferByAtMost (64770 * u) (m * u) (255 * fine * x)
    → DifferByAtMost (64770 * (255 * u)) (m' * (255 * u)) (255 * fine * (x * q + u * (o * w)))
exact-step m m' x u o w q e step near =
    let whole : (q + w) * u ≡ 255 * u = ap (λ (k : ℕ). k * u) e in
    let a = mul-le-mul_left u step.above in
    let b = mul-le-mul_left u step.below in
    let c = mul-le-mul_left q near.above in
    let d = mul-le-mul_left q near.below in
    record { above = omega arith; below = omega arith }

-- a number of 255ths to the nearest
within-half : (n m : ℕ) → n ≡ m → DifferByAtMost 127 (255 * by_255 n) m
within-half n m e = rw e (record { above = omega arith; below = omega arith })

part-near : (g x u d o w q next : ℕ) → q + w ≡ 255 → DifferByAtMost 127 (255 * next) (g * q + o * w) → DifferByAtMost (127 * d * u) (255 * (g * u)) (255 * x)
    → DifferByAtMost (127 * (d + 1) * (255 * u)) (255 * (next * (255 * u))) (255 * (x * q + u * (o * w)))
part-near g x u d o w q next e step near =
    let most : q ≤ 255 = omega arith in
    let deep = mul-le-mul_right (d * u) most in
    let a = mul-le-mul_left u step.above in
    let b = mul-le-mul_left u step.below in
    let c = mul-le-mul_left q near.above in
    let f = mul-le-mul_left q near.below in
    record { above = omega arith; below = omega arith }

-- a canvas's channel after one layer, against the exact fraction
pub canvas-step : (g x u d o w q : ℕ) → q + w ≡ 255 → o ≤ 255 → DifferByAtMost (127 * d * u) (255 * (g * u)) (255 * x)
    → DifferByAtMost (127 * (if w == 0 then d else (if w == 255 then 0 else d + 1)) * (255 * u)) (255 * (blended g o w * (255 * u))) (255 * (x * q + u * (o * w)))
canvas-step g x u d o w q e small near = elim (cases_lt 0 w) [
  | inr none ↦ none-changes g x u d o w q (omega arith) (omega arith) near
  | inl some ↦ elim (cases_lt w 255) [
    | inr all ↦ all-hides g x u d o w q (omega arith) (omega arith)
    | inl part ↦ part-shows g x u d o w q e some part near
  ]
]
  where
    none-changes : (g x u d o w q : ℕ) → w ≡ 0 → q ≡ 255 → DifferByAtMost (127 * d * u) (255 * (g * u)) (255 * x)
        → DifferByAtMost (127 * (if w == 0 then d else (if w == 255 then 0 else d + 1)) * (255 * u)) (255 * (blended g o w * (255 * u))) (255 * (x * q + u * (o * w)))
    none-changes g x u d o w q w_is q_is near =
        rw (w_is, q_is) (
        let same : blended g o 0 ≡ g = omega arith in
        rw same (record { above = omega (arith, near.above); below = omega (arith, near.below) }))

    all-hides : (g x u d o w q : ℕ) → w ≡ 255 → q ≡ 0
        → DifferByAtMost (127 * (if w == 0 then d else (if w == 255 then 0 else d + 1)) * (255 * u)) (255 * (blended g o w * (255 * u))) (255 * (x * q + u * (o * w)))
    all-hides g x u d o w q w_is q_is =
        rw (w_is, q_is) (
        let same : blended g o 255 ≡ o = omega arith in
        rw same (record { above = omega arith; below = omega arith }))

    part-shows : (g x u d o w q : ℕ) → q + w ≡ 255 → 0 < w → w < 255 → DifferByAtMost (127 * d * u) (255 * (g * u)) (255 * x)
        → DifferByAtMost (127 * (if w == 0 then d else (if w == 255 then 0 else d + 1)) * (255 * u)) (255 * (blended g o w * (255 * u))) (255 * (x * q + u * (o * w)))
    part-shows g x u d o w q e some part near =
        let first : (w == 0) ≡ false = grind (arith, nat_tests) in
        let second : (w == 255) ≡ false = grind (arith, nat_tests) in
        rw (first, second) (part-near g x u d o w q (blended g o w) e (within-half (g * (255 - w) + o * w) (g * q + o * w) (let left : 255 - w ≡ q = omega arith in ap (λ (k : ℕ). g * k + o * w) left)) near)

-- ---- the pixel

-- where the alpha was rounded down
over-down : (v s c a b e A Q : ℕ) → v ≤ 255 → s ≤ 255 → A + Q ≡ 255 → a + b ≡ fine * 255 → a ≡ fine * A + e → 2 * e ≤ fine → DifferByAtMost a (2 * (s * a)) (510 * c)
    → DifferByAtMost (510 * fine) (2 * (fine * (v * Q + s * A))) (2 * (255 * c + v * b))
over-down v s c a b e A Q v_small s_small sum whole is few near =
    let left : fine * Q ≡ b + e = omega arith in
    let under : v * (fine * Q) ≡ v * (b + e) = ap (λ (k : ℕ). v * k) left in
    let over : s * a ≡ s * (fine * A + e) = ap (λ (k : ℕ). s * k) is in
    let p = mul-le-mul_right e v_small in
    let q = mul-le-mul_right e s_small in
    record { above = omega (arith, near.above); below = omega (arith, near.below) }

-- where it was rounded up
over-up : (v s c a b e A Q : ℕ) → v ≤ 255 → s ≤ 255 → A + Q ≡ 255 → a + b ≡ fine * 255 → fine * A ≡ a + e → 2 * e ≤ fine → DifferByAtMost a (2 * (s * a)) (510 * c)
    → DifferByAtMost (510 * fine) (2 * (fine * (v * Q + s * A))) (2 * (255 * c + v * b))
over-up v s c a b e A Q v_small s_small sum whole is few near =
    let left : fine * Q + e ≡ b = omega arith in
    let under : v * (fine * Q + e) ≡ v * b = ap (λ (k : ℕ). v * k) left in
    let over : s * (fine * A) ≡ s * (a + e) = ap (λ (k : ℕ). s * k) is in
    let p = mul-le-mul_right e v_small in
    let q = mul-le-mul_right e s_small in
    record { above = omega (arith, near.above); below = omega (arith, near.below) }

-- a number to the nearest of a unit
pub nearest-near : (n d : ℕ) → 0 < d → DifferByAtMost d (2 * (d * to_nearest n d)) (2 * n)
nearest-near n d some =
    let low = mul-div-le (n + d / 2) d in
    let high = lt-div-mul-add {a = n + d / 2} {b = d} some in
    record { above = omega arith; below = omega arith }

pub straight-near : (v s c a b A : ℕ) → v ≤ 255 → s ≤ 255 → A ≤ 255 → a + b ≡ fine * 255 → DifferByAtMost fine (2 * (fine * A)) (2 * a) → DifferByAtMost a (2 * (s * a)) (510 * c)
    → DifferByAtMost (382 * fine) (255 * fine * blended v s A) (255 * c + v * b)
straight-near v s c a b A v_small s_small A_small whole alpha near =
    let sum : A + (255 - A) ≡ 255 = omega arith in
    let z = v * (255 - A) + s * A in
    let composite : DifferByAtMost (510 * fine) (2 * (fine * (v * (255 - A) + s * A))) (2 * (255 * c + v * b)) = elim (cases_lt a (fine * A)) [
      | inl up ↦ over-up v s c a b (fine * A - a) A (255 - A) v_small s_small sum whole (omega arith) (omega (arith, alpha.above)) near
      | inr down ↦ over-down v s c a b (a - fine * A) A (255 - A) v_small s_small sum whole (omega arith) (omega (arith, alpha.below)) near
    ] in
    record { above = omega (arith, composite.above); below = omega (arith, composite.below) }

pub premultiplied-near : (v P c a b A : ℕ) → v ≤ 255 → A ≤ 255 → a + b ≡ fine * 255 → DifferByAtMost fine (2 * (fine * A)) (2 * a) → DifferByAtMost fine (2 * (fine * P)) (2 * c)
    → DifferByAtMost (382 * fine) (255 * fine * (P + by_255 (v * (255 - A)))) (255 * c + v * b)
premultiplied-near v P c a b A v_small A_small whole alpha near =
    let rest : DifferByAtMost (255 * fine) (2 * (fine * (v * (255 - A)))) (2 * (v * b)) = elim (cases_lt a (fine * A)) [
      | inl up ↦ rest-up v a b (fine * A - a) A (255 - A) v_small (omega arith) whole (omega arith) (omega (arith, alpha.above))
      | inr down ↦ rest-down v a b (a - fine * A) A (255 - A) v_small (omega arith) whole (omega arith) (omega (arith, alpha.below))
    ] in
    record { above = omega (arith, near.above, rest.above); below = omega (arith, near.below, rest.below) }
  where
    rest-down : (v a b e A Q : ℕ) → v ≤ 255 → A + Q ≡ 255 → a + b ≡ fine * 255 → a ≡ fine * A + e → 2 * e ≤ fine → DifferByAtMost (255 * fine) (2 * (fine * (v * Q))) (2 * (v * b))
    rest-down v a b e A Q small sum whole is few =
        let left : fine * Q ≡ b + e = omega arith in
        let under : v * (fine * Q) ≡ v * (b + e) = ap (λ (k : ℕ). v * k) left in
        let p = mul-le-mul_right e small in
        record { above = omega arith; below = omega arith }

    rest-up : (v a b e A Q : ℕ) → v ≤ 255 → A + Q ≡ 255 → a + b ≡ fine * 255 → fine * A ≡ a + e → 2 * e ≤ fine → DifferByAtMost (255 * fine) (2 * (fine * (v * Q))) (2 * (v * b))
    rest-up v a b e A Q small sum whole is few =
        let left : fine * Q + e ≡ b = omega arith in
        let under : v * (fine * Q + e) ≡ v * b = ap (λ (k : ℕ). v * k) left in
        let p = mul-le-mul_right e small in
        record { above = omega arith; below = omega arith }

-- a pixel over a background, against the exact fraction rounded
pub exact-end : (r e u x m : ℕ) → 0 < u → DifferByAtMost (382 * fine) (255 * fine * r) m → DifferByAtMost (64770 * u) (m * u) (255 * fine * x) → DifferByAtMost u (2 * (u * e)) (2 * x) → DifferByAtMost 1 e r
exact-end r e u x m some pixel exact round =
    let p = mul-le-mul_right u pixel.above in
    let q = mul-le-mul_right u pixel.below in
    record {
      above = elim (cases_lt (r + 1) e) [
        | inl far ↦ (let more = mul-le-mul_right u far in absurd (omega (arith, exact.above, exact.below, round.above, round.below)))
        | inr close ↦ close
      ];
      below = elim (cases_lt (e + 1) r) [
        | inl far ↦ (let more = mul-le-mul_right u far in absurd (omega (arith, exact.above, exact.below, round.above, round.below)))
        | inr close ↦ close
      ];
    }

-- the same against a canvas, which has rounded at d layers
pub canvas-end : (r g d u x m : ℕ) → 0 < u → DifferByAtMost (382 * fine) (255 * fine * r) m → DifferByAtMost (64770 * u) (m * u) (255 * fine * x) → DifferByAtMost (127 * d * u) (255 * (g * u)) (255 * x)
    → DifferByAtMost (1 + d / 2) g r
canvas-end r g d u x m some pixel exact canvas =
    let p = mul-le-mul_right u pixel.above in
    let q = mul-le-mul_right u pixel.below in
    let half : d ≤ 2 * (d / 2) + 1 = omega arith in
    let more = mul-le-mul_right u half in
    record {
      above = elim (cases_lt (r + (1 + d / 2)) g) [
        | inl far ↦ (let further = mul-le-mul_right u far in absurd (omega (arith, exact.above, exact.below, canvas.above, canvas.below)))
        | inr close ↦ close
      ];
      below = elim (cases_lt (g + (1 + d / 2)) r) [
        | inl far ↦ (let further = mul-le-mul_right u far in absurd (omega (arith, exact.above, exact.below, canvas.above, canvas.below)))
        | inr close ↦ close
      ];
    }
