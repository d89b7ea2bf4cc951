use Rattle.std.proofs.Common.{arith, refl, rules, FitsSigned, w32, to_z-of_z}
use Rattle.ass_num.proofs.OrderLemmas.{lt_is}
use Rattle.border_region.specs.Held.{strip_span}
use Rattle.border_region.proofs.StripRowLemmas.{begin_after, live_more, none_after}
use Rattle.border_region.proofs.strip_rows.StripRows.begin.Goals as goal

pub returns-then-j-spans-clause-rest : goal.returns-then-j-spans-clause-rest
returns-then-j-spans-clause-rest c =
    let f : FitsSigned w32 (strip_span c.args.spans.now c.loop-s.s).first = search rules in
    rw c.loop-s.invariant.begun (begin_after c.args.j c.args.spans.now c.loop-s.s c.requires.ordered (lt_is _ _ (rw (to_z-of_z c.ranges.j, to_z-of_z f) at c.if-j-spans.true)))

pub returns-then-j-spans-clause-live : goal.returns-then-j-spans-clause-live
returns-then-j-spans-clause-live c = rw c.loop-s.invariant.begun (rw (to_z-of_z c.ranges.j) at c.loop-s.invariant.live)

pub loop-s-preserved : goal.loop-s-preserved
loop-s-preserved c = rw c.in_ok-push.ensures.items (record { begun = refl; live = live_more _ c.args.spans.now c.loop-s.s c.loop-s.self.live.items c.loop-s-test.true c.loop-s.invariant.live })

pub returns-clause-live : goal.returns-clause-live
returns-clause-live c = rw c.loop-s.invariant.begun (rw (to_z-of_z c.ranges.j) at c.loop-s.invariant.live)

pub returns-clause-rest : goal.returns-clause-rest
returns-clause-rest c = none_after c.args.j c.args.spans.now c.loop-s.self.begun (omega (arith, c.loop-s-test.false, c.loop-s.invariant.begun))
