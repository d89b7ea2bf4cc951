-- The angle within one turn.
use Rattle.std.proofs.Common.{pos, ap, ◌∙◌, w64, rules}
use Rattle.std.proofs.lemmas.Int.{to_z-of_z}
use Rattle.std.specs.Int.{int_rem_euclid}
use Rattle.std.specs.Int.RustNames.{FitsSigned, unsigned_abs}
use Rattle.ass_num.specs.Sine.{turn_sine, sine_of}
use Rattle.ass_num.proofs.angles.sine.Goals as goal

pub returns-clause-value : goal.returns-clause-value
unfolding sine_of
returns-clause-value c =
    let turn : FitsSigned w64 c.one_turn.result = search rules in
    let rest : FitsSigned w64 c.rem_euclid.result = search rules in
    to_z-of_z w64 c.one_turn.result turn ∙ c.one_turn.ensures.value
    ∙ ap (λ z. turn_sine (unsigned_abs z))
    (to_z-of_z w64 c.rem_euclid.result rest ∙ c.rem_euclid.ensures.value ∙ ap (λ z. int_rem_euclid z (pos 360000)) (to_z-of_z w64 c.args.m c.ranges.m))
