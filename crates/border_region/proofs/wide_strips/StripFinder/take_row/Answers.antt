use Rattle.std.proofs.Common.{arith, refl, ap, length}
use Rattle.border_region.proofs.HeldLemmas.{held_row}
use Rattle.border_region.proofs.wide_strips.StripFinder.take_row.Goals as goal

-- the finder's own radii are those of the call
pub take_run-requires-clause-found : goal.take_run-requires-clause-found
take_run-requires-clause-found c =
    let f = c.loop-n.invariant in
    let r = f.ready in
    record {
      ready = record { across = refl; down = refl; widths = rw (r.across, r.down) r.widths; falling = r.falling; profile = r.profile };
      holds = rw (r.across, r.down) f.holds;
    }

pub loop-n-preserved : goal.loop-n-preserved
loop-n-preserved c = let r = c.loop-n.invariant.ready in rw (r.across, r.down) at c.in_ok-take_run.ensures

pub returns : goal.returns
returns c =
    let f = c.loop-n.invariant in
    let row = rw c.rows.ensures.rows at c.get-n-end.ensures in
    let count = ap length row in
    record {
      ready = f.ready;
      holds = held_row c.args.region.now c.args.self.now.ellipse.rx c.args.self.now.ellipse.ry c.loop-n.self.ellipse.half_widths.items c.args.k c.loop-n.n c.loop-n.self.wide.spans.items c.loop-n.self.wide.runs (omega (arith, c.loop-n-test.false, count)) f.holds;
    }
