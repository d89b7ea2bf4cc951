use Rattle.std.proofs.Common.{◌∙◌, refl}
use Rattle.cancelled_edges.proofs.LineLemmas.{line_step, line_end}
use Rattle.cancelled_edges.proofs.edges.add_line.Goals as goal

pub loop-p-init : goal.loop-p-init
loop-p-init c = refl

pub loop-p-preserved : goal.loop-p-preserved
loop-p-preserved c = line_step c.loop-p.list.items c.add_edge.new.list.items c.loop-p.from c.args.last c.args.rest.now c.loop-p.p-index _ _ c.loop-p-test.true refl c.in_ok-add_edge.ensures ∙ c.loop-p.invariant

pub returns : goal.returns
returns c = line_end c.loop-p.list.items c.add_edge-2.new.list.items c.loop-p.from c.args.last c.args.rest.now c.loop-p.p-index c.loop-p-test.false c.in_ok-add_edge-2.ensures ∙ c.loop-p.invariant
