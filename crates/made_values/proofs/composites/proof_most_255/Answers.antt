use Rattle.std.proofs.Common.{get_or, Fits, w8, arith, rules}
use Rattle.made_values.proofs.composites.proof_most_255.Goals as goal

pub returns : goal.returns
returns c = λ k. let fits : Fits w8 (get_or c.args.bytes.now k 0) = search rules in omega (arith, fits)
