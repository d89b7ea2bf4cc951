use Rattle.std.proofs.Common.{arith, []}
use Rattle.std.proofs.lemmas.List.{take_all}
use Rattle.sample_region.proofs.BetweenLemmas.{all_between_more}
use Rattle.sample_region.proofs.region.find_heights.Goals as goal

pub loop-k-preserved : goal.loop-k-preserved
loop-k-preserved c = record {
  between = all_between_more c.loop-k.heights.low c.loop-k.heights.high c.widened-heights.result.low c.widened-heights.result.high c.args.outline.now.rings c.loop-k.k [] (omega arith) c.widened-heights.ensures.lower c.widened-heights.ensures.higher (rw c.get.ensures at c.widened-heights.ensures.between) c.loop-k.invariant.between;
  low = c.widened-heights.ensures.low;
  high = c.widened-heights.ensures.high;
}

pub returns-clause-between : goal.returns-clause-between
returns-clause-between c = rw (take_all c.loop-k.k c.args.outline.now.rings (omega arith)) at c.loop-k.invariant.between
