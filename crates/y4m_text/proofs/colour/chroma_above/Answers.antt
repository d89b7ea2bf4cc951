use Rattle.std.proofs.Common.{arith}
use Rattle.y4m_text.proofs.colour.chroma_above.Goals as goal

pub overflow_sub-result : goal.overflow_sub-result
overflow_sub-result c = let near = rw c.in-Limited.is at c.requires.spread.near in omega (arith, near.0)

pub returns-in-Limited-clause-small : goal.returns-in-Limited-clause-small
returns-in-Limited-clause-small c = let near = rw c.in-Limited.is at c.requires.spread.near in omega (arith, near.0, near.1)

pub overflow_sub-result-in-Full : goal.overflow_sub-result-in-Full
overflow_sub-result-in-Full c = let near = rw c.in-Full.is at c.requires.spread.near in omega (arith, near.0)

pub returns-in-Full-clause-small : goal.returns-in-Full-clause-small
returns-in-Full-clause-small c = let near = rw c.in-Full.is at c.requires.spread.near in omega (arith, near.0, near.1)
