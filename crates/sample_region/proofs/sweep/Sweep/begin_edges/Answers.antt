use Rattle.std.proofs.Common.{arith, refl, sym, ◌∙◌, ◌≡◌, ◌≤ℤ◌, ◌<ℤ◌, ◌++◌, ◌∷◌, [], pos, false, cond, int_lt, get_or, take, FitsSigned, to_z-of_z, w64}
use Rattle.std.proofs.lemmas.Int.{ints}
use Rattle.std.proofs.lemmas.List.{drop_all}
use Rattle.std.proofs.lemmas.List.Elements.{filter_more, All-more, All-nil, All-get_or}
use Rattle.sample_region.specs.Carried.{live_edges}
use Rattle.sample_region.specs.Edges.{unended, IsEdge}
use Rattle.sample_region.specs.declared.edges.SweepEdge.{SweepEdge}
use Rattle.ass_num.proofs.OrderLemmas.{lt_is, lt_not}
use Rattle.sample_region.proofs.SweepLemmas.{all_below}
use Rattle.sample_region.proofs.sweep.Sweep.begin_edges.Goals as goal

abbrev none : SweepEdge
none = record { upper = record { x = pos 0; y = pos 0 }; lower = record { x = pos 0; y = pos 0 }; down = false }

pub returns-then-y-e-clause-below : goal.returns-then-y-e-clause-below
returns-then-y-e-clause-below c =
    let e = get_or c.args.edges.now c.loop-k.k none in
    let near : IsEdge e = All-get_or IsEdge c.args.edges.now c.loop-k.k none c.loop-k-test.true c.requires.sweepable.edges in
    let u = near.upper in
    let f : FitsSigned w64 e.upper.y = omega (arith, ints) in
    let h : c.args.y <ℤ e.upper.y = lt_is c.args.y e.upper.y (rw (to_z-of_z c.ranges.y, to_z-of_z f) at c.if-y-e.true) in
    rw c.loop-k.invariant.begun (all_below c.args.y c.args.edges.now c.loop-k.k none c.requires.sweepable.ordered c.loop-k-test.true h)

pub returns-then-y-e-clause-carried : goal.returns-then-y-e-clause-carried
returns-then-y-e-clause-carried c = rw (to_z-of_z c.ranges.y) at c.loop-k.invariant.carried

pub take_in-requires-clause-begun : goal.take_in-requires-clause-begun
take_in-requires-clause-begun c =
    let e = get_or c.args.edges.now c.loop-k.k none in
    let near : IsEdge e = All-get_or IsEdge c.args.edges.now c.loop-k.k none c.loop-k-test.true c.requires.sweepable.edges in
    let u = near.upper in
    let f : FitsSigned w64 e.upper.y = omega (arith, ints) in
    let h : e.upper.y ≤ℤ c.args.y = lt_not c.args.y e.upper.y (rw (to_z-of_z c.ranges.y, to_z-of_z f) at c.if-y-e.false) in
    rw (to_z-of_z c.ranges.y) h

pub take_in-requires-clause-edge : goal.take_in-requires-clause-edge
take_in-requires-clause-edge c = All-get_or IsEdge c.args.edges.now c.loop-k.k none c.loop-k-test.true c.requires.sweepable.edges

pub loop-k-preserved : goal.loop-k-preserved
loop-k-preserved c =
    let e = get_or c.args.edges.now c.loop-k.k none in
    let near : IsEdge e = All-get_or IsEdge c.args.edges.now c.loop-k.k none c.loop-k-test.true c.requires.sweepable.edges in
    let u = near.upper in
    let f : FitsSigned w64 e.upper.y = omega (arith, ints) in
    let h : e.upper.y ≤ℤ c.args.y = lt_not c.args.y e.upper.y (rw (to_z-of_z c.ranges.y, to_z-of_z f) at c.if-y-e.false) in
    let a : live_edges c.take_in.new.self.active.items ≡ live_edges c.loop-k.self.active.items ++ cond (int_lt c.args.y e.lower.y) (e ∷ []) [] = rw (to_z-of_z c.ranges.y) at c.in_ok-take_in.ensures.active in
    let i : live_edges c.loop-k.self.active.items ≡ unended c.args.y (take c.loop-k.k c.args.edges.now) = rw (to_z-of_z c.ranges.y) at c.loop-k.invariant.active in
    let j = rw (to_z-of_z c.ranges.y) at c.loop-k.invariant.above in
    let was = rw (to_z-of_z c.ranges.y) at c.loop-k.invariant.carried in
    let more = rw (to_z-of_z c.ranges.y) at c.in_ok-take_in.ensures.carried in
    rw (to_z-of_z c.ranges.y) (record {
      begun = refl;
      active = a ∙ rw i (sym (filter_more (λ (e : SweepEdge). int_lt c.args.y e.lower.y) c.args.edges.now c.loop-k.k none c.loop-k-test.true));
      carried = more was;
      above = All-more (λ (e : SweepEdge). e.upper.y ≤ℤ c.args.y) c.args.edges.now c.loop-k.k none c.loop-k-test.true j h;
    })

pub returns-clause-below : goal.returns-clause-below
returns-clause-below c =
    let b = c.loop-k.invariant.begun in
    rw (drop_all c.loop-k.self.begun c.args.edges.now (omega (arith, c.loop-k-test.false))) (All-nil (λ (e : SweepEdge). c.args.y <ℤ e.upper.y))
