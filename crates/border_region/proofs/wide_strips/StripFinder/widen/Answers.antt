use Rattle.std.proofs.Common.{arith}
use Rattle.std.proofs.lemmas.Int.{ints}
use Rattle.std.proofs.lemmas.Result.{on_ok_weaker}
use Rattle.border_region.specs.Finders.{AreBetween, IsWideStrip}
use Rattle.border_region.proofs.HeldLemmas.{ready_profile}
use Rattle.border_region.proofs.ReachLemmas.{wide_low}
use Rattle.border_region.proofs.wide_strips.StripFinder.widen.Goals as goal

-- the profile's middle is the ellipse's radius down
pub widen_side-requires-clause-profile : goal.widen_side-requires-clause-profile
widen_side-requires-clause-profile c =
    let r = c.requires.ready in
    let e = c.args.self.now.ellipse in
    rw c.as_slice-profile.ensures.value (ready_profile e.rx e.ry e.half_widths.items c.args.self.now.profile.items r.widths r.falling r.profile)

pub widen_side-requires-2-clause-profile : goal.widen_side-requires-2-clause-profile
widen_side-requires-2-clause-profile c =
    let r = c.requires.ready in
    let e = c.args.self.now.ellipse in
    rw c.as_slice-profile.ensures.value (ready_profile e.rx e.ry e.half_widths.items c.args.self.now.profile.items r.widths r.falling r.profile)

pub pair_sides-requires-clause-fits : goal.pair_sides-requires-clause-fits
pair_sides-requires-clause-fits c = λ m l.
    let r = c.requires.ready in
    let e = c.args.self.now.ellipse in
    let pro = ready_profile e.rx e.ry e.half_widths.items c.args.self.now.profile.items r.widths r.falling r.profile in
    let right = rw (c.as_slice-profile.ensures.value, c.as_slice-2.ensures.value) at c.in_ok-widen_side-2.ensures in
    let low = wide_low e.ry c.args.self.now.profile.items c.args.self.now.strip.rights.items c.widen_side-2.new.wide.items pro c.requires.rights right m (rw c.as_slice-4.ensures.value at l) in
    rw c.as_slice-4.ensures.value (omega (arith, ints))

pub returns-clause-runs : goal.returns-clause-runs
returns-clause-runs c =
    let left = rw (c.as_slice-profile.ensures.value, c.as_slice.ensures.value) at c.in_ok-widen_side.ensures in
    let right = rw (c.as_slice-profile.ensures.value, c.as_slice-2.ensures.value) at c.in_ok-widen_side-2.ensures in
    let wide : AreBetween c.widen_side.new.wide.items c.widen_side-2.new.wide.items c.pair_sides.new.runs.items → IsWideStrip c.args.self.now.profile.items c.args.self.now.strip.lefts.items c.args.self.now.strip.rights.items c.pair_sides.new.runs.items =
    λ b. record { wide_lefts = c.widen_side.new.wide.items; wide_rights = c.widen_side-2.new.wide.items; left = left; right = right; between = b }
    in
    on_ok_weaker c.pair_sides.result wide (rw (c.as_slice-3.ensures.value, c.as_slice-4.ensures.value) at c.pair_sides.ensures)
