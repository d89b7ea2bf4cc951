-- Sums that fit wider numbers.
use Rattle.std.proofs.Common.{◌≡◌, ◌∙◌, refl, ℤ, pos, neg_ℤ, ◌+ℤ◌, ◌-ℤ◌, ◌*ℤ◌, ◌≤ℤ◌, FitsSigned, to_z, of_z, to_z-of_z, w32, w64, arith}
use Rattle.std.proofs.lemmas.Int.{ints}
use Rattle.sfnt_glyphs.specs.Glyphs.{placed_coordinate}
use mir.Syntax.{w128}

pub long_sum : (v s a b : ℤ) → FitsSigned w32 v → FitsSigned w32 s → a ≡ to_z w32 (of_z w32 v) → b ≡ to_z w32 (of_z w32 s) → to_z w64 (of_z w64 (to_z w64 (of_z w64 a) +ℤ to_z w64 (of_z w64 b))) ≡ v +ℤ s
long_sum v s a b fv fs ea eb =
    let wv : FitsSigned w64 v = omega (arith, ints, fv) in
    let ws : FitsSigned w64 s = omega (arith, ints, fs) in
    let sum : FitsSigned w64 (v +ℤ s) = omega (arith, ints, fv, fs) in
    rw (ea, eb, to_z-of_z fv, to_z-of_z fs, to_z-of_z wv, to_z-of_z ws) (to_z-of_z sum)

pub wide_sum_fits : (a b : ℤ) → neg_ℤ (pos 18446744073709551616) ≤ℤ a → a ≤ℤ pos 18446744073709551616 → neg_ℤ (pos 18446744073709551616) ≤ℤ b → b ≤ℤ pos 18446744073709551616
    → FitsSigned w128 (to_z w128 (of_z w128 a) +ℤ to_z w128 (of_z w128 b))
wide_sum_fits a b h i j k =
    let fa : FitsSigned w128 a = omega (arith, ints, h, i) in
    let fb : FitsSigned w128 b = omega (arith, ints, j, k) in
    rw (to_z-of_z fa, to_z-of_z fb) (omega (arith, ints, h, i, j, k))

pub wide_sum : (a b : ℤ) → neg_ℤ (pos 18446744073709551616) ≤ℤ a → a ≤ℤ pos 18446744073709551616 → neg_ℤ (pos 18446744073709551616) ≤ℤ b → b ≤ℤ pos 18446744073709551616
    → to_z w128 (of_z w128 (to_z w128 (of_z w128 a) +ℤ to_z w128 (of_z w128 b))) ≡ a +ℤ b
wide_sum a b h i j k =
    let fa : FitsSigned w128 a = omega (arith, ints, h, i) in
    let fb : FitsSigned w128 b = omega (arith, ints, j, k) in
    let sum : FitsSigned w128 (a +ℤ b) = omega (arith, ints, h, i, j, k) in
    rw (to_z-of_z fa, to_z-of_z fb) (to_z-of_z sum)

pub weights_are : (x a y c : ℤ) → FitsSigned w32 x → FitsSigned w32 a → FitsSigned w32 y → FitsSigned w32 c
    → (to_z w32 (of_z w32 x) *ℤ to_z w32 (of_z w32 a)) +ℤ (to_z w32 (of_z w32 y) *ℤ to_z w32 (of_z w32 c)) ≡ (x *ℤ a) +ℤ (y *ℤ c)
weights_are x a y c fx fa fy fc = rw (to_z-of_z fx, to_z-of_z fa, to_z-of_z fy, to_z-of_z fc) refl

pub coordinate_is : (x y a c shift r : ℤ) → FitsSigned w32 x → FitsSigned w32 y → FitsSigned w32 a → FitsSigned w32 c → FitsSigned w32 shift → FitsSigned w128 r
    → r ≡ placed_coordinate (to_z w32 (of_z w32 x)) (to_z w32 (of_z w32 y)) (to_z w32 (of_z w32 a)) (to_z w32 (of_z w32 c)) (to_z w32 (of_z w32 shift)) → to_z w128 (of_z w128 r) ≡ placed_coordinate x y a c shift
coordinate_is x y a c shift r fx fy fa fc fs fr e = to_z-of_z fr ∙ (e ∙ rw (to_z-of_z fx, to_z-of_z fy, to_z-of_z fa, to_z-of_z fc, to_z-of_z fs) refl)

pub small_difference : (b s : ℤ) → neg_ℤ (pos 65536) ≤ℤ b → b ≤ℤ pos 65536 → neg_ℤ (pos 65536) ≤ℤ s → s ≤ℤ pos 65536 → to_z w32 (of_z w32 (to_z w32 (of_z w32 b) -ℤ to_z w32 (of_z w32 s))) ≡ b -ℤ s
small_difference b s h i j k =
    let fb : FitsSigned w32 b = omega (arith, ints, h, i) in
    let fs : FitsSigned w32 s = omega (arith, ints, j, k) in
    let difference : FitsSigned w32 (b -ℤ s) = omega (arith, ints, h, i, j, k) in
    rw (to_z-of_z fb, to_z-of_z fs) (to_z-of_z difference)
