use Rattle.std.proofs.Common.{◌≡◌, pos, ℤ, ◌-ℤ◌, Bool, true, false, cond, FitsSigned, to_z, of_z, to_z-of_z, w64, refl, sym, ap, ◌∙◌, arith}
use Rattle.std.specs.Prelude.{int_lt}
use Rattle.std.proofs.lemmas.Int.{ints}
use Rattle.event_instants.specs.Instants as rule
use Rattle.event_instants.proofs.fades.fad_by.Goals as goal
use mir.Syntax.{w128}

-- the fourth of five cases
fourth : (a b c d : Bool) (v w x y z : ℤ) → a ≡ false → b ≡ false → c ≡ false → d ≡ true → cond a v (cond b w (cond c x (cond d y z))) ≡ y
fourth true b c d v w x y z first second third last = absurd (cc)
fourth false true c d v w x y z first second third last = absurd (cc)
fourth false false true d v w x y z first second third last = absurd (cc)
fourth false false false true v w x y z first second third last = refl
fourth false false false false v w x y z first second third last = absurd (cc)

wide_is : (r a : ℤ) → FitsSigned w64 a → r ≡ to_z w64 (of_z w64 a) → to_z w128 (of_z w128 r) ≡ a
wide_is r a first e =
    let k : r ≡ a = rw (to_z-of_z first) at e in
    let f : FitsSigned w128 a = omega (arith, ints) in
    rw (k, to_z-of_z f) refl

time_is : (r a b : ℤ) → FitsSigned w64 a → FitsSigned w64 b → r ≡ to_z w64 (of_z w64 a) -ℤ to_z w64 (of_z w64 b) → to_z w128 (of_z w128 r) ≡ a -ℤ b
time_is r a b first second e =
    let k : r ≡ a -ℤ b = rw (to_z-of_z first, to_z-of_z second) at e in
    let f : FitsSigned w128 (a -ℤ b) = omega (arith, ints) in
    rw (k, to_z-of_z f) refl

-- what is left of the way out
left_fits : (a b c : ℤ) → FitsSigned w64 a → FitsSigned w64 b → FitsSigned w64 c → FitsSigned w128 (a -ℤ (b -ℤ c))
left_fits a b c first second third = omega (arith, ints)

way_out : (b c : ℤ) → b -ℤ (b -ℤ c) ≡ c
way_out b c = omega (arith, ints)

value : (c : goal.After-on_the_way) → pos c.on_the_way.result ≡ rule.between (pos 0) (pos 255) (c.args.elapsed -ℤ (c.args.duration -ℤ c.args.fade_out)) c.args.fade_out
value c =
    let f : FitsSigned w128 (c.args.elapsed -ℤ (c.args.duration -ℤ c.args.fade_out)) = left_fits c.args.elapsed c.args.duration c.args.fade_out c.ranges.elapsed c.ranges.duration c.ranges.fade_out in
    rw (
      wide_is c.from-now.result c.args.elapsed c.ranges.elapsed c.from-now.ensures,
      time_is c.difference-leaves.result c.args.duration c.args.fade_out c.ranges.duration c.ranges.fade_out c.difference-leaves.ensures.value,
      wide_is c.from.result c.args.fade_out c.ranges.fade_out c.from.ensures,
      to_z-of_z f,
    ) at c.on_the_way.ensures.value

pub returns-then-elapsed-duration-clause-value : goal.returns-then-elapsed-duration-clause-value
returns-then-elapsed-duration-clause-value c =
    let begun : int_lt c.args.elapsed (pos 0) ≡ false = rw (to_z-of_z c.ranges.elapsed) at c.if-elapsed-lt0.false in
    let entered : int_lt c.args.elapsed c.args.fade_in ≡ false = rw (to_z-of_z c.ranges.elapsed, to_z-of_z c.ranges.fade_in) at c.if-elapsed-fade_in.false in
    let leaves : int_lt c.args.elapsed (c.args.duration -ℤ c.args.fade_out) ≡ false = rw (
      wide_is c.from-now.result c.args.elapsed c.ranges.elapsed c.from-now.ensures,
      time_is c.difference-leaves.result c.args.duration c.args.fade_out c.ranges.duration c.ranges.fade_out c.difference-leaves.ensures.value,
    ) at c.if-now-leaves.false in
    let lasts : int_lt c.args.elapsed c.args.duration ≡ true = rw (to_z-of_z c.ranges.elapsed, to_z-of_z c.ranges.duration) at c.if-elapsed-duration.true in
    value c ∙ ap (rule.between (pos 0) (pos 255) (c.args.elapsed -ℤ (c.args.duration -ℤ c.args.fade_out))) (sym (way_out c.args.duration c.args.fade_out))
    ∙ sym (fourth _ _ _ _ _ _ _ _ _ begun entered leaves lasts)
