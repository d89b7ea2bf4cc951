use Rattle.ass_num.specs.Limits.{IsOutlinePoint}
use Rattle.cancelled_edges.proofs.CancelLemmas.{closed_kept, cancelled_kept, winding_kept}
use Rattle.cancelled_edges.proofs.PointLemmas.{cancelled_points}
use Rattle.cancelled_edges.proofs.cancel.cancelled.Goals as goal

pub rings_of-requires : goal.rings_of-requires
rings_of-requires c = closed_kept c.args.outline.now.rings c.in_ok-edges.edges.items c.in_ok-edges.ensures.balanced

pub returns-clause-edges : goal.returns-clause-edges
returns-clause-edges c = cancelled_kept c.args.outline.now.rings c.in_ok-rings.rings c.in_ok-edges.edges.items c.in_ok-edges.ensures.balanced c.in_ok-edges.ensures.single c.in_ok-rings.ensures

pub returns-clause-winding : goal.returns-clause-winding
returns-clause-winding c = winding_kept c.args.outline.now.rings c.in_ok-rings.rings c.in_ok-edges.edges.items c.in_ok-edges.ensures.balanced c.in_ok-rings.ensures

pub returns-clause-within : goal.returns-clause-within
returns-clause-within c =
    cancelled_points IsOutlinePoint c.args.outline.now.rings c.in_ok-rings.rings
    (cancelled_kept c.args.outline.now.rings c.in_ok-rings.rings c.in_ok-edges.edges.items c.in_ok-edges.ensures.balanced c.in_ok-edges.ensures.single c.in_ok-rings.ensures)
