use Rattle.std.proofs.Common.{arith, rules, FitsSigned, w32, to_z-of_z}
use Rattle.border_region.proofs.ReachLemmas.{profile_none, profile_more, profile_all}
use Rattle.border_region.proofs.profile.profile_of.Goals as goal

pub loop-p-init : goal.loop-p-init
loop-p-init c = rw c.new-profile.ensures.items (profile_none c.args.widths.now)

pub loop-p-preserved : goal.loop-p-preserved
loop-p-preserved c =
    let f : FitsSigned w32 c.from.result = search rules in
    rw (c.in_ok-push.ensures.items, to_z-of_z f) (profile_more c.args.widths.now c.loop-p.p c.rows_from.result c.from.result c.loop-p.profile.items c.rows_from.ensures c.from.ensures c.loop-p.invariant)

pub returns : goal.returns
returns c = profile_all c.args.widths.now c.loop-p.p c.loop-p.profile.items c.requires.some (omega (arith, c.loop-p-test.false)) c.loop-p.invariant
