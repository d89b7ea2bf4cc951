use Rattle.std.proofs.Common.{arith, to_z-of_z, FitsSigned, w64, ◌<ℤ◌, ◌≤ℤ◌}
use Rattle.std.proofs.lemmas.Int.{ints}
use Rattle.std.proofs.lemmas.List.Elements.{All-push}
use Rattle.ass_num.proofs.OrderLemmas.{lt_is, lt_not}
use Rattle.sample_region.specs.Carried.{IsCarriedTo}
use Rattle.sample_region.proofs.CarryLemmas.{not_taken, taken}
use Rattle.sample_region.proofs.sweep.Sweep.take_in.Goals as goal

pub begun_edge-requires : goal.begun_edge-requires
begun_edge-requires c =
    let near = c.requires.edge.lower in
    let f : FitsSigned w64 c.args.e.lower.y = omega (arith, ints) in
    let h : c.args.y <ℤ c.args.e.lower.y = lt_is c.args.y c.args.e.lower.y (rw (to_z-of_z c.ranges.y, to_z-of_z f) at c.if-y-e.true) in
    rw (to_z-of_z c.ranges.y) (record { edge = c.requires.edge; begun = c.requires.begun; unended = h })

pub returns-then-y-e-clause-active : goal.returns-then-y-e-clause-active
returns-then-y-e-clause-active c =
    let near = c.requires.edge.lower in
    let f : FitsSigned w64 c.args.e.lower.y = omega (arith, ints) in
    let h : c.args.y <ℤ c.args.e.lower.y = lt_is c.args.y c.args.e.lower.y (rw (to_z-of_z c.ranges.y, to_z-of_z f) at c.if-y-e.true) in
    rw c.in_ok-push.ensures.items (taken c.args.y c.args.e c.begun_edge.result c.args.self.now.active.items c.begun_edge.ensures.edge h)

pub returns-then-y-e-clause-carried : goal.returns-then-y-e-clause-carried
returns-then-y-e-clause-carried c = λ all.
    let one = rw (to_z-of_z c.ranges.y) at c.begun_edge.ensures.carried in
    rw c.in_ok-push.ensures.items (All-push (IsCarriedTo c.args.y) c.args.self.now.active.items c.begun_edge.result all one)

pub returns-clause-active : goal.returns-clause-active
returns-clause-active c =
    let near = c.requires.edge.lower in
    let f : FitsSigned w64 c.args.e.lower.y = omega (arith, ints) in
    let h : c.args.e.lower.y ≤ℤ c.args.y = lt_not c.args.y c.args.e.lower.y (rw (to_z-of_z c.ranges.y, to_z-of_z f) at c.if-y-e.false) in
    not_taken c.args.y c.args.e c.args.self.now.active.items h
