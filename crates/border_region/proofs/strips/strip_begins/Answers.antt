use Rattle.std.proofs.Common.{arith}
use Rattle.ass_num.proofs.RegionLemmas.{row_ascends}
use Rattle.border_region.proofs.StripLemmas.{begins_if}
use Rattle.border_region.proofs.strips.strip_begins.Goals as goal

pub returns-then-k-eq0 : goal.returns-then-k-eq0
returns-then-k-eq0 c = λ y p e g. absurd (omega (arith, e, c.if-k-eq0.true))

pub begins-requires-clause-ascends : goal.begins-requires-clause-ascends
begins-requires-clause-ascends c = rw c.get.ensures (row_ascends c.args.rows.now _ c.requires.ascends)

pub begins-requires-clause-below : goal.begins-requires-clause-below
begins-requires-clause-below c = rw c.get-2.ensures c.requires.run

pub returns : goal.returns
returns c = begins_if c.args.rows.now c.args.k c.args.n c.begins.result (omega (arith, c.if-k-eq0.false)) (rw (c.get.ensures, c.get-2.ensures) at c.begins.ensures)
