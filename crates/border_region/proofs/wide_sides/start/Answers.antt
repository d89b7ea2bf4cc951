use Rattle.std.proofs.Common.{rules, refl, ◌-◌, ◌+◌, length, to_z-of_z, FitsSigned, w32}
use Rattle.std.proofs.lemmas.Result.{on_ok_weaker}
use Rattle.border_region.specs.Keys.{key_at}
use Rattle.border_region.proofs.ReachLemmas.{rest_is, started, start_is}
use Rattle.border_region.proofs.wide_sides.start.Goals as goal

-- the three parts stand one after another in the cleared list
pub returns : goal.returns
returns c =
    let fa : FitsSigned w32 (key_at c.args.side.now 0) = search rules in
    let fb : FitsSigned w32 (key_at c.args.side.now (length c.args.side.now - 1)) = search rules in
    let fc : FitsSigned w32 (key_at c.args.profile.now c.args.middle) = search rules in
    let a = rw (to_z-of_z fa) at c.in_ok-push_reach.ensures in
    let b = rw (to_z-of_z fc) at c.in_ok-push_rows.ensures in
    on_ok_weaker c.push_reach-2.result
    (λ last. start_is c.args.middle c.args.profile.now c.args.side.now c.push_reach-2.new.wide.items c.requires.profile c.requires.some
    (started c.args.middle c.args.profile.now c.args.side.now c.push_reach-2.new.wide.items (key_at c.args.side.now 0) (key_at c.args.side.now (length c.args.side.now - 1)) (key_at c.args.profile.now c.args.middle) c.requires.profile c.requires.some refl refl refl
    (rw (b, a, c.clear.ensures.items, rest_is (c.args.middle + 1) c.args.profile.now) at last)))
    (rw (to_z-of_z fb) at c.push_reach-2.ensures)
