use Rattle.std.proofs.Common.{arith}
use Rattle.y4m_text.proofs.QuotientLemmas.{product-fits, quotient-is}
use Rattle.y4m_text.proofs.divisor.Divisor.quotient.Goals as goal

pub overflow_mul-result : goal.overflow_mul-result
overflow_mul-result c =
    let d = c.args.self in
    let is = c.requires.divisor in
    let fits = product-fits c.args.n d.value d.reciprocal is.some is.most is.reciprocal c.requires.small in
    rw c.from.ensures (omega (arith, fits))

pub returns : goal.returns
returns c =
    let d = c.args.self in
    let is = c.requires.divisor in
    rw c.from.ensures (quotient-is c.args.n d.value d.reciprocal is.some is.most is.reciprocal c.requires.small)
