use Rattle.ass_num.proofs.RegionLemmas.{region_parts}
use Rattle.border_region.proofs.HeldLemmas.{held_same}
use Rattle.border_region.proofs.wide_strips.StripFinder.take_run.Goals as goal

pub strip_begins-requires-clause-ascends : goal.strip_begins-requires-clause-ascends
strip_begins-requires-clause-ascends c = rw c.rows.ensures.rows (region_parts c.args.region.now.top c.args.region.now.rows c.rows.ensures.canonical).0

pub returns : goal.returns
returns c =
    let f = c.requires.found in
    record {
      ready = f.ready;
      holds = held_same c.args.region.now c.args.self.now.ellipse.rx c.args.self.now.ellipse.ry c.args.self.now.ellipse.half_widths.items c.args.k c.args.n c.args.self.now.wide.spans.items c.args.self.now.wide.runs (rw (c.if-strip_begins.false, c.rows.ensures.rows) at c.strip_begins.ensures) f.holds;
    }
