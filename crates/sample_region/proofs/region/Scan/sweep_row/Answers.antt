use Rattle.std.proofs.Common.{arith, rules, pos, ◌-ℤ◌, ◌≡◌, FitsSigned, to_z-of_z, w64}
use Rattle.std.proofs.lemmas.Int.{ints}
use Rattle.ass_num.specs.Winding.{place}
use Rattle.sample_region.specs.Carried.{live_edges}
use Rattle.sample_region.specs.Crossings.{row_crossings}
use Rattle.sample_region.proofs.EdgeLemmas.{even_same, row_holding}
use Rattle.sample_region.proofs.SteadyLemmas.{steady_row}
use Rattle.sample_region.proofs.region.Scan.sweep_row.Goals as goal

pub advance-requires-clause-swept : goal.advance-requires-clause-swept
advance-requires-clause-swept c =
    let f : FitsSigned w64 c.height_of.result = search rules in
    let e = rw (to_z-of_z c.ranges.j) at c.height_of.ensures in
    rw (to_z-of_z f, e) c.requires.reached

pub advance-requires-clause-carried : goal.advance-requires-clause-carried
advance-requires-clause-carried c =
    let f : FitsSigned w64 c.height_of.result = search rules in
    let e = rw (to_z-of_z c.ranges.j) at c.height_of.ensures in
    let before : c.height_of.result -ℤ pos 4 ≡ place (c.args.j -ℤ pos 1) = omega (arith, ints, e) in
    rw (to_z-of_z f, before) c.requires.carried

pub walk-requires-clause-even : goal.walk-requires-clause-even
walk-requires-clause-even c =
    let f : FitsSigned w64 c.height_of.result = search rules in
    let p = simp (to_z-of_z f) at c.in_ok-advance.ensures.crossings in
    rw c.as_slice.ensures.value (even_same (row_crossings c.height_of.result c.args.edges.now) c.advance.new.self.crossings.items p (c.requires.edges.even c.height_of.result))

pub returns-clause-reached : goal.returns-clause-reached
returns-clause-reached c =
    let f : FitsSigned w64 c.height_of.result = search rules in
    let s = simp (to_z-of_z f) at c.in_ok-advance.ensures.swept in
    let e = rw (to_z-of_z c.ranges.j) at c.height_of.ensures in
    rw e at (s c.height_of.result (search rules))

pub returns-clause-carried : goal.returns-clause-carried
returns-clause-carried c =
    let f : FitsSigned w64 c.height_of.result = search rules in
    let e = rw (to_z-of_z c.ranges.j) at c.height_of.ensures in
    rw (to_z-of_z f, e) at c.in_ok-advance.ensures.carried

pub returns-clause-steady : goal.returns-clause-steady
returns-clause-steady c = λ k l s.
    let f : FitsSigned w64 c.height_of.result = search rules in
    let e = rw (to_z-of_z c.ranges.j) at c.height_of.ensures in
    let p = simp (to_z-of_z f) at c.in_ok-advance.ensures.crossings in
    let t = simp (to_z-of_z f) at c.in_ok-advance.ensures.swept_to in
    steady_row c.args.edges.now c.advance.new.self.begun (live_edges c.advance.new.self.active.items) c.args.j k c.advance.new.self.crossings.items c.walk.new.self.runs.items
    (rw e at t) (rw e at p) (rw c.as_slice.ensures.value at c.in_ok-walk.ensures) l s

pub returns-clause-row : goal.returns-clause-row
returns-clause-row c =
    let f : FitsSigned w64 c.height_of.result = search rules in
    let e = rw (to_z-of_z c.ranges.j) at c.height_of.ensures in
    let p = simp (to_z-of_z f) at c.in_ok-advance.ensures.crossings in
    row_holding c.args.edges.now c.args.j c.height_of.result c.advance.new.self.crossings.items c.walk.new.self.runs.items e p
    (rw c.as_slice.ensures.value at c.in_ok-walk.ensures)
