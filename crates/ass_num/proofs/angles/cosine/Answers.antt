-- A quarter of a turn more.
use Rattle.std.proofs.Common.{pos, ◌+ℤ◌, ap, ◌∙◌, w64, to_z, of_z, arith, rules}
use Rattle.std.proofs.lemmas.Int.{ints, to_z-of_z}
use Rattle.std.specs.Int.{int_rem_euclid}
use Rattle.std.specs.Int.RustNames.{FitsSigned, unsigned_abs}
use Rattle.ass_num.specs.Sine.{turn_sine, sine_of}
use Rattle.ass_num.proofs.Floor.{rest-add}
use Rattle.ass_num.proofs.angles.cosine.Goals as goal

pub returns-clause-value : goal.returns-clause-value
unfolding sine_of
returns-clause-value c =
    let sine : FitsSigned w64 c.sine.result = search rules in
    let rest : FitsSigned w64 c.rem_euclid.result = search rules in
    let more : FitsSigned w64 (c.rem_euclid.result +ℤ pos 90000) = omega (arith, ints) in
    to_z-of_z w64 c.sine.result sine ∙ c.sine.ensures.value
    ∙ ap sine_of (ap (λ z. to_z w64 (of_z w64 (z +ℤ pos 90000))) (to_z-of_z w64 c.rem_euclid.result rest) ∙ to_z-of_z w64 (c.rem_euclid.result +ℤ pos 90000) more
    ∙ ap (λ z. z +ℤ pos 90000) (c.rem_euclid.ensures.value ∙ ap (λ z. int_rem_euclid z (pos 360000)) (to_z-of_z w64 c.args.m c.ranges.m)))
    ∙ ap (λ z. turn_sine (unsigned_abs z)) (rest-add c.args.m 90000 360000 (omega arith))
