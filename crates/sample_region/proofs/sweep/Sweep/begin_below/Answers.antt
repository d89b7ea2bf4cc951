use Rattle.std.proofs.Common.{arith, ◌<◌, ◌<ℤ◌, length, pos, get_or, false, FitsSigned, to_z-of_z, w64}
use Rattle.std.proofs.lemmas.Int.{ints}
use Rattle.std.proofs.lemmas.List.Elements.{All-get_or}
use Rattle.ass_num.proofs.OrderLemmas.{lt_is}
use Rattle.sample_region.specs.Edges.{IsEdge}
use Rattle.sample_region.specs.declared.edges.SweepEdge.{SweepEdge}
use Rattle.sample_region.proofs.SweepLemmas.{all_below}
use Rattle.sample_region.proofs.sweep.Sweep.begin_below.Goals as goal

abbrev none : SweepEdge
none = record { upper = record { x = pos 0; y = pos 0 }; lower = record { x = pos 0; y = pos 0 }; down = false }

pub returns-else-self-edges : goal.returns-else-self-edges
returns-else-self-edges c = λ t.
    let n = c.args.self.now.begun in
    let e = get_or c.args.edges.now n none in
    let l : n < length c.args.edges.now = omega (arith, c.if-self-edges.false) in
    let near : IsEdge e = All-get_or IsEdge c.args.edges.now n none l c.requires.edges in
    let u = near.upper in
    let f : FitsSigned w64 e.upper.y = omega (arith, ints) in
    let h : c.args.y <ℤ e.upper.y = lt_is c.args.y e.upper.y (rw (to_z-of_z c.ranges.y, to_z-of_z f) at t) in
    all_below c.args.y c.args.edges.now n none c.requires.ordered l h
