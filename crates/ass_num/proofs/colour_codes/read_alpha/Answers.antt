-- The low byte of the colour.
use Rattle.std.proofs.lemmas.Nat.{and_mask}
use Rattle.ass_num.proofs.ColourFronts.{alpha_front, alpha_none}
use Rattle.ass_num.proofs.colour_codes.read_alpha.Goals as goal

pub returns-in_err-colour-clause-none : goal.returns-in_err-colour-clause-none
returns-in_err-colour-clause-none c = rw c.from_residual.ensures (alpha_none c.args.text.now c.in_err-colour.ensures.none)

pub returns-clause-some : goal.returns-clause-some
returns-clause-some c = rw (and_mask c.in_ok-colour.colour 8) (alpha_front c.args.text.now c.in_ok-colour.colour c.in_ok-colour.ensures.some)
