use Rattle.std.proofs.Common.{rules}
use Rattle.text_layout.proofs.ScaleLemmas.{middle_within}
use Rattle.text_layout.proofs.anchors.edge_at.Goals as goal

pub returns-in-Middle-clause-value : goal.returns-in-Middle-clause-value
returns-in-Middle-clause-value c = search rules

pub returns-in-Middle-clause-within : goal.returns-in-Middle-clause-within
returns-in-Middle-clause-within c limit near far = rw (returns-in-Middle-clause-value c, c.in-Middle.is) (middle_within limit c.args.near c.args.far near far)
