use Rattle.std.proofs.Common.{arith, refl, length}
use Rattle.border_region.proofs.HeldLemmas.{held_all, held_none}
use Rattle.border_region.proofs.wide_strips.wide_strips.Goals as goal

pub take_rows-requires-clause-found : goal.take_rows-requires-clause-found
take_rows-requires-clause-found c =
    let new = c.in_ok-finder.ensures in
    let r = new.ready in
    record {
      ready = record { across = refl; down = refl; widths = rw (r.across, r.down) r.widths; falling = r.falling; profile = r.profile };
      holds = rw (r.across, r.down, new.spans, new.runs) (held_none c.args.region.now c.args.rx c.args.ry c.in_ok-finder.finder.ellipse.half_widths.items);
    }

pub returns : goal.returns
returns c =
    let r = c.in_ok-finder.ensures.ready in
    let f = rw (r.across, r.down) at c.in_ok-take_rows.ensures in
    held_all c.args.region.now c.args.rx c.args.ry c.take_rows.new.self.ellipse.half_widths.items (length c.args.region.now.rows) c.take_rows.new.self.wide.spans.items c.take_rows.new.self.wide.runs f.ready.widths (omega arith) f.holds
