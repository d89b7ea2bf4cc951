use Rattle.std.proofs.Common.{arith, refl, rules, FitsSigned, w32, to_z-of_z, ◌+◌}
use Rattle.ass_num.proofs.OrderLemmas.{le_is}
use Rattle.border_region.specs.Keys.{key_at}
use Rattle.border_region.proofs.ReachLemmas.{below_same, below_more}
use Rattle.border_region.proofs.wide_sides.reach_below.Goals as goal

pub returns-then-side-k : goal.returns-then-side-k
returns-then-side-k c =
    let a : FitsSigned w32 (key_at c.args.side.now (c.args.k + 1)) = search rules in
    let b : FitsSigned w32 (key_at c.args.side.now c.args.k) = search rules in
    below_same c.args.middle c.args.profile.now c.args.side.now c.args.wide.now c.args.k c.args.done c.requires.profile c.requires.done (omega (arith, c.requires.within, c.requires.done)) (le_is _ _ (rw (to_z-of_z a, to_z-of_z b) at c.if-side-k.true)) c.requires.wide

pub returns : goal.returns
returns c =
    let b : FitsSigned w32 (key_at c.args.side.now c.args.k) = search rules in
    below_more c.args.middle c.args.profile.now c.args.side.now c.args.wide.now c.lower_rows.new.wide c.args.k c.args.done _ c.requires.profile c.requires.done refl (rw (to_z-of_z b) at c.lower_rows.ensures) c.requires.wide
