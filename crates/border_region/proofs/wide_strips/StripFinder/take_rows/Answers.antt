use Rattle.std.proofs.Common.{arith, refl, ◌≡◌, length}
use Rattle.border_region.proofs.wide_strips.StripFinder.take_rows.Goals as goal

pub take_row-requires-clause-found : goal.take_row-requires-clause-found
take_row-requires-clause-found c =
    let f = c.loop-k.invariant in
    let r = f.ready in
    record {
      ready = record { across = refl; down = refl; widths = rw (r.across, r.down) r.widths; falling = r.falling; profile = r.profile };
      holds = rw (r.across, r.down) f.holds;
    }

pub loop-k-preserved : goal.loop-k-preserved
loop-k-preserved c = let r = c.loop-k.invariant.ready in rw (r.across, r.down) at c.in_ok-take_row.ensures

pub returns : goal.returns
returns c =
    let count = rw c.rows.ensures.rows at c.len-k-end.ensures in
    let e : c.loop-k.k ≡ length c.args.region.now.rows = omega (arith, c.loop-k-test.false, count) in
    rw e at c.loop-k.invariant
