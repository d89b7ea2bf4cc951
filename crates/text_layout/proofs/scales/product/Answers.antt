use Rattle.std.proofs.Common.{rules}
use Rattle.text_layout.proofs.ScaleLemmas.{product_within}
use Rattle.text_layout.proofs.scales.product.Goals as goal

pub returns-clause-value : goal.returns-clause-value
returns-clause-value c = search rules

pub returns-clause-within : goal.returns-clause-within
returns-clause-within c = rw (returns-clause-value c) (product_within c.args.a c.args.b c.requires.a c.requires.b)
