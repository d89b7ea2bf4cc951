use Rattle.std.proofs.Common.{arith, ◌+◌}
use Rattle.ass_num.proofs.RegionLemmas.{row_ascends}
use Rattle.border_region.proofs.StripLemmas.{no_run_past}
use Rattle.border_region.proofs.strips.next_below.Goals as goal

-- below the last row no run lies
pub returns-then-len-k : goal.returns-then-len-k
returns-then-len-k c = λ n g. no_run_past c.args.rows.now (c.args.k + 1) n (omega (arith, c.if-len-k.true, c.len.ensures)) g.to

pub overflow_add-k : goal.overflow_add-k
overflow_add-k c = let l = c.len.ensures in let row = c.requires.row in omega arith

pub next_of-requires-clause-ascends : goal.next_of-requires-clause-ascends
next_of-requires-clause-ascends c = rw c.get-2.ensures (row_ascends c.args.rows.now _ c.requires.ascends)

pub returns : goal.returns
returns c = rw (c.get.ensures, c.get-2.ensures) at c.next_of.ensures
