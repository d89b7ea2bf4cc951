use Rattle.std.proofs.Common.{rules, arith, pos, get_or, ◌≡◌, ◌∙◌, to_z, of_z, to_z-of_z, FitsSigned, w64}
use Rattle.std.proofs.lemmas.Int.{ints, clamps}
use Rattle.std.proofs.lemmas.List.{take_all}
use Rattle.std.proofs.lemmas.List.Elements.{All-get_or}
use Rattle.std.specs.Int.{int_min, int_max}
use Rattle.ass_num.specs.Limits.{IsOutlinePoint}
use Rattle.ass_num.specs.declared.geometry.Point.{Point}
use Rattle.sample_region.proofs.BetweenLemmas.{between_more}
use Rattle.sample_region.proofs.region.widened.Goals as goal

abbrev none : Point
none = record { x = pos 0; y = pos 0 }

pub loop-p-preserved : goal.loop-p-preserved
loop-p-preserved c =
    let p = get_or c.args.ring.now c.loop-p.p-index none in
    let near : IsOutlinePoint p = All-get_or IsOutlinePoint c.args.ring.now c.loop-p.p-index none c.loop-p-test.true c.requires.near in
    let il = c.loop-p.invariant.low in
    let ih = c.loop-p.invariant.high in
    let jl = c.loop-p.invariant.lower in
    let jh = c.loop-p.invariant.higher in
    let fl : FitsSigned w64 c.loop-p.around.low = search rules in
    let fh : FitsSigned w64 c.loop-p.around.high = search rules in
    let fy : FitsSigned w64 p.y = omega (arith, ints) in
    let fm : FitsSigned w64 c.min.result = search rules in
    let fx : FitsSigned w64 c.max.result = search rules in
    let m : c.min.result ≡ int_min c.loop-p.around.low p.y = rw (to_z-of_z fl, to_z-of_z fy) at c.min.ensures.value in
    let x : c.max.result ≡ int_max c.loop-p.around.high p.y = rw (to_z-of_z fh, to_z-of_z fy) at c.max.ensures.value in
    let lo : to_z w64 (of_z w64 c.min.result) ≡ int_min c.loop-p.around.low p.y = to_z-of_z fm ∙ m in
    let hi : to_z w64 (of_z w64 c.max.result) ≡ int_max c.loop-p.around.high p.y = to_z-of_z fx ∙ x in
    record {
      between = between_more c.loop-p.around.low c.loop-p.around.high (to_z w64 (of_z w64 c.min.result)) (to_z w64 (of_z w64 c.max.result)) c.args.ring.now c.loop-p.p-index none c.loop-p-test.true
          (rw lo (omega (arith, ints, clamps))) (rw hi (omega (arith, ints, clamps))) (rw lo (omega (arith, ints, clamps)), rw hi (omega (arith, ints, clamps))) c.loop-p.invariant.between;
      lower = rw lo (omega (arith, ints, clamps));
      higher = rw hi (omega (arith, ints, clamps));
      low = rw lo (omega (arith, ints, clamps));
      high = rw hi (omega (arith, ints, clamps));
    }

pub returns-clause-between : goal.returns-clause-between
returns-clause-between c = rw (take_all c.loop-p.p-index c.args.ring.now c.loop-p-test.false) at c.loop-p.invariant.between
