use Rattle.ass_num.proofs.RegionLemmas.{row_ascends, region_parts}
use Rattle.region_rows.proofs.rows.row.Goals as goal

pub returns-clause-ascends : goal.returns-clause-ascends
returns-clause-ascends c = rw (c.get.ensures, c.rows-2.ensures.rows) (row_ascends c.args.region.now.rows _ (region_parts c.args.region.now.top c.args.region.now.rows c.rows-2.ensures.canonical).0)
