use Rattle.std.proofs.Common.{◌≡◌, ◌≤◌, ◌*◌, pos, ◌+ℤ◌, get_or, drop, w32, w64, to_z, of_z, ap, arith, rules}
use Rattle.std.proofs.Math.Nat.{mul-le-mul_left}
use Rattle.std.proofs.lemmas.Int.{ints, to_z-of_z}
use Rattle.std.specs.Int.RustNames.{FitsSigned}
use Rattle.mask_cover.proofs.RowLemmas.{drop_step_times, run_at, counts_now, row_count-end}
use Rattle.mask_cover.proofs.SpanLemmas.{none}
use Rattle.mask_cover.proofs.StepLemmas.{AreStepsWithin-wider, AreStepsWithin-from_counts}
use Rattle.mask_cover.specs.Steps.{row_count, samples_after}
use Rattle.mask_cover.proofs.steps.add_row.Goals as goal

pub place_of-requires-clause-behind : goal.place_of-requires-clause-behind
place_of-requires-clause-behind c =
    let near = c.requires.inside c.loop-run.run-index none c.loop-run-test.true in
    let fits : FitsSigned w32 (get_or c.args.runs.now c.loop-run.run-index none).from = search rules in
    omega (arith, ints, near.0)

pub place_of-requires-in-loop-run-clause-behind : goal.place_of-requires-in-loop-run-clause-behind
place_of-requires-in-loop-run-clause-behind c =
    let near = c.requires.inside c.loop-run.run-index none c.loop-run-test.true in
    let fits : FitsSigned w32 (get_or c.args.runs.now c.loop-run.run-index none).to = search rules in
    let order = run_at c.args.runs.now c.loop-run.run-index none c.requires.ascends c.loop-run-test.true in
    omega (arith, ints, near.0, order)

pub add_run-requires-clause-ascends : goal.add_run-requires-clause-ascends
add_run-requires-clause-ascends c =
    let fits : FitsSigned w32 (get_or c.args.runs.now c.loop-run.run-index none).from = search rules in
    let too : FitsSigned w32 (get_or c.args.runs.now c.loop-run.run-index none).to = search rules in
    let order = run_at c.args.runs.now c.loop-run.run-index none c.requires.ascends c.loop-run-test.true in
    omega (arith, ints, order, c.place_of.ensures, c.place_of-in-loop-run.ensures)

pub add_run-requires-clause-inside : goal.add_run-requires-clause-inside
add_run-requires-clause-inside c =
    let near = c.requires.inside c.loop-run.run-index none c.loop-run-test.true in
    let too : FitsSigned w32 (get_or c.args.runs.now c.loop-run.run-index none).to = search rules in
    omega (arith, ints, near.1, c.place_of-in-loop-run.ensures)

pub add_run-requires-clause-small : goal.add_run-requires-clause-small
add_run-requires-clause-small c =
    AreStepsWithin-wider 256 300 c.loop-run.steps (omega arith) (AreStepsWithin-from_counts 256 c.loop-run.steps
    (counts_now c.args.steps.now c.loop-run.steps c.args.runs.now (drop c.loop-run.run-index c.args.runs.now) (to_z w64 (of_z w64 c.args.left)) c.args.times c.requires.times c.requires.counts c.loop-run.invariant.0 c.loop-run.invariant.1))

pub loop-run-preserved : goal.loop-run-preserved
loop-run-preserved c =
    let runs = c.args.runs.now in
    let k = c.loop-run.run-index in
    let same : to_z w64 (of_z w64 c.args.left) ≡ c.args.left = to_z-of_z w64 c.args.left c.ranges.left in
    let fits : FitsSigned w32 (get_or runs k none).from = search rules in
    let too : FitsSigned w32 (get_or runs k none).to = search rules in
    let order = run_at runs k none c.requires.ascends c.loop-run-test.true in
    let e : (get_or runs k none).from ≡ to_z w64 (of_z w64 c.args.left) +ℤ pos c.place_of.result = omega (arith, ints, c.place_of.ensures) in
    let f : (get_or runs k none).to ≡ to_z w64 (of_z w64 c.args.left) +ℤ pos c.place_of-in-loop-run.result = omega (arith, ints, c.place_of-in-loop-run.ensures) in
    let ab : c.place_of.result ≤ c.place_of-in-loop-run.result = omega (arith, ints, order, e, f) in (
      λ n. omega (arith, ints, c.loop-run.invariant.0 n, c.add_run.ensures.counts n, drop_step_times runs k none (to_z w64 (of_z w64 c.args.left)) c.place_of.result c.place_of-in-loop-run.result n c.args.times c.requires.ascends c.loop-run-test.true e f),
      λ n.
          let less : samples_after c.place_of-in-loop-run.result n ≤ samples_after c.place_of.result n = omega (arith, ab) in
          omega (arith, ints, c.loop-run.invariant.1 n, c.add_run.ensures.counts n, mul-le-mul_left c.args.times less),
    )

pub returns : goal.returns
returns c = λ n.
    let same : to_z w64 (of_z w64 c.args.left) ≡ c.args.left = to_z-of_z w64 c.args.left c.ranges.left in
    let here : c.args.times * row_count c.args.runs.now (to_z w64 (of_z w64 c.args.left)) n ≡ c.args.times * row_count c.args.runs.now c.args.left n = ap (λ z. c.args.times * row_count c.args.runs.now z n) same in
    let none = ap (λ z. c.args.times * z) (row_count-end c.args.runs.now c.loop-run.run-index (to_z w64 (of_z w64 c.args.left)) n c.loop-run-test.false) in
    omega (arith, ints, c.loop-run.invariant.0 n, here, none)
