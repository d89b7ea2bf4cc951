use Rattle.std.proofs.Common.{rules, arith, ℤ, pos, ◌+ℤ◌, ◌-ℤ◌, ◌≤ℤ◌, ◌<ℤ◌, to_z, w32, to_z-of_z, FitsSigned}
use Rattle.std.proofs.lemmas.Int.{ints}
use Rattle.ass_num.proofs.OrderLemmas.{lt_is, lt_not}
use Rattle.border_region.proofs.FrontierLemmas.{HasChanged, changed_all, changed_more, changed_same, like_from}
use Rattle.border_region.proofs.WideLemmas.{equal_rows}
use Rattle.border_region.proofs.frontier.changes.Goals as goal
use Rattle.border_region.proofs.frontier.changes.Goals.{then-ne+in_ok-push, else-ne}

pub loop-j-preserved : goal.loop-j-preserved
loop-j-preserved c =
    let region = c.args.region.now in
    let j : ℤ = to_z w32 c.loop-j.j-bits in
    let last = c.end-j-end.ensures in
    let fe : FitsSigned w32 c.end-j-end.result = search rules in
    let ge : FitsSigned w32 (c.end-j-end.result +ℤ pos 1) = omega (arith, ints) in
    let t : j <ℤ (c.end-j-end.result +ℤ pos 1) = lt_is j (c.end-j-end.result +ℤ pos 1) (rw (to_z-of_z fe, to_z-of_z ge) at c.loop-j-test.true) in
    let low = c.loop-j.invariant.low in
    let f : FitsSigned w32 (j +ℤ pos 1) = omega (arith, ints) in
    let b : FitsSigned w32 (j -ℤ pos 1) = omega (arith, ints) in
    let found : HasChanged region (j +ℤ pos 1) c.if-ne.found.items =
    elim c.if-ne.branch [
      | then-ne+in_ok-push w ↦ rw (w.found-is, w.in_ok-push.ensures.items) (changed_more region j c.loop-j.found.items (omega (arith, ints)) (omega (arith, ints)) c.loop-j.invariant.found)
      | else-ne w ↦ rw w.found-is (changed_same region j c.loop-j.found.items (like_from region j c.row.result.now c.row-in-loop-j.result.now c.row.ensures.runs (rw (to_z-of_z b) at c.row-in-loop-j.ensures.runs)
          (equal_rows c.row.result.now c.row-in-loop-j.result.now c.ne.result c.ne.ensures w.if-ne.false)) c.loop-j.invariant.found)
    ] in
    rw (to_z-of_z f, to_z-of_z fe, to_z-of_z ge) (record { low = omega (arith, ints); high = omega (arith, ints); found = found })

pub returns : goal.returns
returns c =
    let j : ℤ = to_z w32 c.loop-j.j-bits in
    let last = c.end-j-end.ensures in
    let fe : FitsSigned w32 c.end-j-end.result = search rules in
    let ge : FitsSigned w32 (c.end-j-end.result +ℤ pos 1) = omega (arith, ints) in
    let t : (c.end-j-end.result +ℤ pos 1) ≤ℤ j = lt_not j (c.end-j-end.result +ℤ pos 1) (rw (to_z-of_z fe, to_z-of_z ge) at c.loop-j-test.false) in
    changed_all c.args.region.now j c.loop-j.found.items (omega (arith, ints)) c.loop-j.invariant.found
