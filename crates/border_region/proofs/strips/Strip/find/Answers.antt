use Rattle.std.proofs.lemmas.Result.{on_ok_weaker}
use Rattle.ass_num.proofs.RegionLemmas.{region_parts}
use Rattle.border_region.specs.Reach.{IsSide}
use Rattle.border_region.specs.Strips.{IsStripFrom}
use Rattle.border_region.proofs.StripLemmas.{sides_within}
use Rattle.border_region.proofs.strips.Strip.find.Goals as goal

pub follow-requires-clause-ascends : goal.follow-requires-clause-ascends
follow-requires-clause-ascends c = rw c.rows.ensures.rows (region_parts c.args.region.now.top c.args.region.now.rows c.rows.ensures.canonical).0

pub returns-clause-strip : goal.returns-clause-strip
returns-clause-strip c = rw c.rows.ensures.rows at c.follow.ensures

pub returns-clause-lefts : goal.returns-clause-lefts
returns-clause-lefts c =
    let side : IsStripFrom c.args.region.now.rows c.args.k c.args.n c.follow.new.self.lefts.items c.follow.new.self.rights.items → IsSide c.follow.new.self.lefts.items =
    λ s d l. (sides_within 131072 c.args.region.now.rows c.args.k c.args.n c.follow.new.self.lefts.items c.follow.new.self.rights.items c.requires.within.runs s d l).0
    in
    on_ok_weaker c.follow.result side (rw c.rows.ensures.rows at c.follow.ensures)

pub returns-clause-rights : goal.returns-clause-rights
returns-clause-rights c =
    let side : IsStripFrom c.args.region.now.rows c.args.k c.args.n c.follow.new.self.lefts.items c.follow.new.self.rights.items → IsSide c.follow.new.self.rights.items =
    λ s d l. (sides_within 131072 c.args.region.now.rows c.args.k c.args.n c.follow.new.self.lefts.items c.follow.new.self.rights.items c.requires.within.runs s d (rw s.strip.same at l)).1
    in
    on_ok_weaker c.follow.result side (rw c.rows.ensures.rows at c.follow.ensures)
