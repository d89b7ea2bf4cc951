use Rattle.std.proofs.Common.{refl, rules, FitsSigned, w32, to_z-of_z, ◌-◌}
use Rattle.ass_num.proofs.OrderLemmas.{le_is}
use Rattle.border_region.specs.Keys.{key_at}
use Rattle.border_region.proofs.ReachLemmas.{above_same, above_more}
use Rattle.border_region.proofs.wide_sides.reach_above.Goals as goal

pub returns-then-side-k : goal.returns-then-side-k
returns-then-side-k c =
    let a : FitsSigned w32 (key_at c.args.side.now (c.args.k - 1)) = search rules in
    let b : FitsSigned w32 (key_at c.args.side.now c.args.k) = search rules in
    above_same c.args.middle c.args.profile.now c.args.side.now c.args.wide.now c.args.k c.requires.profile c.requires.row c.requires.within (le_is _ _ (rw (to_z-of_z a, to_z-of_z b) at c.if-side-k.true)) c.requires.wide

pub returns : goal.returns
returns c =
    let b : FitsSigned w32 (key_at c.args.side.now c.args.k) = search rules in
    above_more c.args.middle c.args.profile.now c.args.side.now c.args.wide.now c.lower_rows.new.wide c.args.k _ c.requires.profile c.requires.within refl (rw (to_z-of_z b) at c.lower_rows.ensures) c.requires.wide
