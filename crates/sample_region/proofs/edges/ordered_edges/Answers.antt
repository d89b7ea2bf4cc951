use Rattle.sample_region.proofs.EdgeLemmas.{sweepable, insides}
use Rattle.sample_region.proofs.edges.ordered_edges.Goals as goal

pub returns-clause-sweepable : goal.returns-clause-sweepable
returns-clause-sweepable c = sweepable c.args.outline.now.rings c.sort.new.list.items c.requires (rw c.in_ok-list.ensures at c.sort.ensures.permutation) c.sort.ensures.ordered

pub returns-clause-insides : goal.returns-clause-insides
returns-clause-insides c = insides c.args.outline.now.rings c.sort.new.list.items (rw c.in_ok-list.ensures at c.sort.ensures.permutation)
