use Rattle.std.proofs.Common.{rules, arith, pos, ◌-ℤ◌, FitsSigned, to_z-of_z, w64}
use Rattle.std.proofs.lemmas.Int.{ints}
use Rattle.ass_num.specs.Winding.{place}
use Rattle.sample_region.proofs.CarryLemmas.{steady_carried}
use Rattle.sample_region.proofs.region.Scan.find_row.Goals as goal

pub returns-then-is_steady-clause-row : goal.returns-then-is_steady-clause-row
returns-then-is_steady-clause-row c =
    let f : FitsSigned w64 c.height_of.result = search rules in
    let e = rw (to_z-of_z c.ranges.j) at c.height_of.ensures in
    c.requires.steady c.args.j (omega (arith, ints)) (rw (to_z-of_z f, e) at (c.if-is_steady.ensures (search rules)))

pub returns-then-is_steady-clause-carried : goal.returns-then-is_steady-clause-carried
returns-then-is_steady-clause-carried c =
    let f : FitsSigned w64 c.height_of.result = search rules in
    let e = rw (to_z-of_z c.ranges.j) at c.height_of.ensures in
    let s = rw (to_z-of_z f, e) at (c.if-is_steady.ensures (search rules)) in
    steady_carried (place (c.args.j -ℤ pos 1)) (place c.args.j) c.args.self.now.sweep.active.items (omega (arith, ints)) s.upright c.requires.carried

pub returns-clause-carried : goal.returns-clause-carried
returns-clause-carried c = rw (to_z-of_z c.ranges.j) at c.sweep_row.ensures.carried
