-- Layers on one channel, painted by themselves, exactly on a background and on a canvas, all at once.
use Rattle.std.proofs.Common.{◌≡◌, ℕ, ◌+◌, ◌-◌, ◌*◌, ◌/◌, ◌<◌, ◌≤◌, List, [], ◌∷◌, fold, All, true, false, inl, inr, arith}
use Rattle.std.specs.Bool.{◌==◌}
use Rattle.std.proofs.Math.Nat.{div-lt_iff_lt-mul, mul-le-mul_right}
use Rattle.std.proofs.lemmas.Bool.{cases_lt}
use Rattle.std.proofs.lemmas.Bool.Decides.{nat_tests}
use Rattle.std.proofs.lemmas.List.Elements.{All-head, All-tail}
use Rattle.blend.specs.Blending.{blended, by_255}
use Rattle.alpha_canvas.specs.Alpha.{fine, straight_channel, to_nearest}
use Rattle.alpha_canvas.specs.Nearness.{Fraction, IsLayer, IsNearLayers, DifferByAtMost, Layer, coarse_alpha, deeper, depth_of, exactly_on, exactly_under, fine_alpha, fine_channel, formed_channel, over_byte, painted_on, rounded}
use Rattle.alpha_canvas.specs.declared.pixel.AlphaForm.{AlphaForm}
use Rattle.alpha_canvas.specs.declared.pixel.AlphaForm.TheVariants as form
use Rattle.alpha_canvas.proofs.NearLemmas.{blended-near, canvas-end, canvas-step, composite-step, exact-end, exact-step, nearest-near, premultiplied-near, rest-near, straight-near}

-- a blended number stays below another
pub blended-below : (c a over full weight : ℕ) → c ≤ a → over ≤ full → blended c over weight ≤ blended a full weight
blended-below c a over full weight p q =
    let x = mul-le-mul_right (255 - weight) p in
    let y = mul-le-mul_right weight q in
    omega arith

-- and below what is opaque
pub blended-opaque : (a w : ℕ) → a ≤ fine * 255 → w ≤ 255 → blended a (fine * 255) w ≤ fine * 255
blended-opaque a w p q =
    let x = mul-le-mul_right (255 - w) p in
    omega arith

-- What is known after some layers: of their channel c and their alpha a by themselves, of the exact fraction x on the background v, and
-- of a canvas's channel g, rounded at d layers.
record Composite (v c a : ℕ) (x : Fraction) (g d : ℕ) : Type 0 where
  some : 0 < x.unit
  below : c ≤ a
  alpha : a ≤ fine * 255
  exact : DifferByAtMost (64770 * x.unit) ((255 * c + v * (fine * 255 - a)) * x.unit) (255 * fine * x.parts)
  canvas : DifferByAtMost (127 * d * x.unit) (255 * (g * x.unit)) (255 * x.parts)

composite-one : (v c a : ℕ) (x : Fraction) (g d o w : ℕ) → v ≤ 255 → o ≤ 255 → w ≤ 255 → Composite v c a x g d
    → Composite v (blended c (fine * o) w) (blended a (fine * 255) w) (exactly_under x (record { over = o; weight = w })) (blended g o w) (deeper d (record { over = o; weight = w }))
composite-one v c a x g d o w v_small o_small w_small is =
    let sum : (255 - w) + w ≡ 255 = omega arith in
    let held = blended-below c a (fine * o) (fine * 255) w is.below (omega arith) in
    let opaque = blended-opaque a w is.alpha w_small in
    let near = blended-near c (fine * o) w (255 - w) sum in
    let rest = rest-near a (fine * 255 - a) w (255 - w) (blended a (fine * 255) w) (fine * 255 - blended a (fine * 255) w) sum (omega (arith, is.alpha)) (omega (arith, opaque)) (blended-near a (fine * 255) w (255 - w) sum) in
    let step = composite-step v c (fine * 255 - a) (fine * o) w (255 - w) (blended c (fine * o) w) (fine * 255 - blended a (fine * 255) w) v_small near rest in
    record {
      some = omega (arith, is.some);
      below = held;
      alpha = opaque;
      exact = exact-step _ _ x.parts x.unit o w (255 - w) sum step is.exact;
      canvas = canvas-step g x.parts x.unit d o w (255 - w) sum o_small is.canvas;
    }

composite-all : (layers : List Layer) (v c a : ℕ) (x : Fraction) (g d : ℕ) → v ≤ 255 → All IsLayer layers → Composite v c a x g d
    → Composite v (fold (λ (k : ℕ) (layer : Layer). blended k (fine * layer.over) layer.weight) c layers)
    (fold (λ (k : ℕ) (layer : Layer). blended k (fine * 255) layer.weight) a layers)
    (fold exactly_under x layers) (fold (λ (k : ℕ) (layer : Layer). blended k layer.over layer.weight) g layers) (fold deeper d layers)
composite-all [] v c a x g d v_small all is = is
composite-all (layer ∷ layers) v c a x g d v_small all is =
    let here = All-head IsLayer layer layers all in
    composite-all layers v (blended c (fine * layer.over) layer.weight) (blended a (fine * 255) layer.weight) (exactly_under x layer) (blended g layer.over layer.weight) (deeper d layer)
    v_small (All-tail IsLayer layer layers all) (composite-one v c a x g d layer.over layer.weight v_small here.over here.weight is)

-- before the first layer
composite-none : (v : ℕ) → Composite v 0 0 (record { parts = v; unit = 1 }) v 0
composite-none v = record {
  some = omega arith;
  below = omega arith;
  alpha = omega arith;
  exact = record { above = omega arith; below = omega arith };
  canvas = record { above = omega arith; below = omega arith };
}

-- the part of the alpha that a channel has is a byte
pub straight_channel-small : (c a : ℕ) → c ≤ a → straight_channel c a ≤ 255
straight_channel-small c a below = elim (cases_lt 0 a) [
  | inl some ↦ (let no : (a == 0) ≡ false = grind (arith, nat_tests) in rw no (straight_channel-of c a some below))
  | inr none ↦ (let yes : (a == 0) ≡ true = grind (arith, nat_tests) in rw yes (omega arith))
]
  where
    straight_channel-of : (c a : ℕ) → 0 < a → c ≤ a → to_nearest (255 * c) a ≤ 255
    straight_channel-of c a some below =
        let small : (255 * c + a / 2) / a < 256 = (div-lt_iff_lt-mul {k = a} {x = 255 * c + a / 2} {y = 256} some).1 (omega arith) in
        omega (arith, small)

pub straight_channel-near : (c a : ℕ) → c ≤ a → DifferByAtMost a (2 * (straight_channel c a * a)) (510 * c)
straight_channel-near c a below = elim (cases_lt 0 a) [
  | inl some ↦ (let no : (a == 0) ≡ false = grind (arith, nat_tests) in let near = nearest-near (255 * c) a some in rw no (record { above = omega (arith, near.above); below = omega (arith, near.below) }))
  | inr none ↦ (let yes : (a == 0) ≡ true = grind (arith, nat_tests) in rw yes (record { above = omega arith; below = omega arith }))
]

pub alpha-small : (a : ℕ) → a ≤ fine * 255 → to_nearest a fine ≤ 255
alpha-small a below = omega arith

-- a blended byte is a byte, and so is a premultiplied one over a background
blended-small : (v s A : ℕ) → v ≤ 255 → s ≤ 255 → A ≤ 255 → blended v s A ≤ 255
blended-small v s A p q r =
    let x = mul-le-mul_right (255 - A) p in
    let y = mul-le-mul_right A q in
    omega arith

laid-rest : (v q : ℕ) → v ≤ 255 → by_255 (v * q) ≤ q
laid-rest v q p = let x = mul-le-mul_right q p in omega arith

laid-sum : (c a rest : ℕ) → c ≤ a → a ≤ 255 → rest ≤ 255 - a → c + rest ≤ 255
laid-sum c a rest p q r = omega arith

coarse-below : (c a : ℕ) → c ≤ a → to_nearest c fine ≤ to_nearest a fine
coarse-below c a below = omega arith

laid-small : (v c a : ℕ) → v ≤ 255 → c ≤ a → a ≤ fine * 255 → to_nearest c fine + by_255 (v * (255 - to_nearest a fine)) ≤ 255
laid-small v c a p below opaque =
    laid-sum (to_nearest c fine) (to_nearest a fine) (by_255 (v * (255 - to_nearest a fine))) (coarse-below c a below) (alpha-small a opaque) (laid-rest v (255 - to_nearest a fine) p)

-- what is within so much of the composite is near to the layers
ends : (layers : List Layer) (background byte : ℕ) → background ≤ 255 → All IsLayer layers → byte ≤ 255
    → DifferByAtMost (382 * fine) (255 * fine * byte) (255 * fine_channel layers + background * (fine * 255 - fine_alpha layers)) → IsNearLayers layers background byte
ends layers background byte small all byte_small pixel =
    let is = composite-all layers background 0 0 (record { parts = background; unit = 1 }) background 0 small all (composite-none background) in
    let x = exactly_on background layers in
    let m = 255 * fine_channel layers + background * (fine * 255 - fine_alpha layers) in
    record {
      exact = exact-end byte (rounded x) x.unit x.parts m is.some pixel is.exact (nearest-near x.parts x.unit is.some);
      canvas = canvas-end byte (painted_on background layers) (depth_of layers) x.unit x.parts m is.some pixel is.exact is.canvas;
      small = byte_small;
    }

-- layers with alpha, in either form, are near to the layers on any background
pub channel-near : (f : AlphaForm) (layers : List Layer) (background : ℕ) → background ≤ 255 → All IsLayer layers
    → IsNearLayers layers background (over_byte f background (formed_channel f layers) (coarse_alpha layers))
channel-near form.Straight layers background small all =
    let is = composite-all layers background 0 0 (record { parts = background; unit = 1 }) background 0 small all (composite-none background) in
    let c = fine_channel layers in
    let a = fine_alpha layers in
    let byte = straight_channel-small c a is.below in
    let most = alpha-small a is.alpha in
    ends layers background _ small all (blended-small background (straight_channel c a) (to_nearest a fine) small byte most)
    (straight-near background (straight_channel c a) c a (fine * 255 - a) (to_nearest a fine) small byte most (omega (arith, is.alpha)) (nearest-near a fine (omega arith)) (straight_channel-near c a is.below))
channel-near form.Premultiplied layers background small all =
    let is = composite-all layers background 0 0 (record { parts = background; unit = 1 }) background 0 small all (composite-none background) in
    let c = fine_channel layers in
    let a = fine_alpha layers in
    ends layers background _ small all (laid-small background c a small is.below is.alpha)
    (premultiplied-near background (to_nearest c fine) c a (fine * 255 - a) (to_nearest a fine) small (alpha-small a is.alpha) (omega (arith, is.alpha)) (nearest-near a fine (omega arith)) (nearest-near c fine (omega arith)))
