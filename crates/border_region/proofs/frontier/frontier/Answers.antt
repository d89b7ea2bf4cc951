use Rattle.std.proofs.Common.{rules, arith, ◌≡◌, ◌<◌, pos, ◌-ℤ◌, length, w32, to_z-of_z, FitsSigned}
use Rattle.std.proofs.lemmas.Int.{ints}
use Rattle.border_region.specs.Frontier.{change_key}
use Rattle.border_region.proofs.FrontierLemmas.{key_near, sifted_none, sifted_same, sifted_more, sifted_all}
use Rattle.border_region.proofs.frontier.frontier.Goals as goal
use Rattle.border_region.proofs.frontier.frontier.Goals.{then-not-covers_row+in_ok-push, else-not-covers_row}

pub loop-n-init : goal.loop-n-init
loop-n-init c = rw c.new-found.ensures.items (sifted_none c.args.region.now c.args.upwards c.args.changes.now)

pub loop-n-preserved : goal.loop-n-preserved
loop-n-preserved c =
    let region = c.args.region.now in
    let upwards = c.args.upwards in
    let rows = c.args.changes.now in
    let n = c.loop-n.n in
    let within : n < length rows = omega (arith, c.loop-n-test.true) in
    let near = key_near upwards rows c.requires.changes.near n within in
    let near0 = near.0 in
    let near1 = near.1 in
    let key = c.change_key-key.result in
    let is : key ≡ change_key upwards rows n = c.change_key-key.ensures in
    let f : FitsSigned w32 key = search rules in
    let b : FitsSigned w32 (key -ℤ pos 1) = omega (arith, ints, is, near0, near1) in
    elim c.if-not-covers_row.branch [
      | then-not-covers_row+in_ok-push w ↦ rw (w.found-is, w.in_ok-push.ensures.items, to_z-of_z f) (sifted_more region upwards rows n key c.loop-n.found.items c.requires.changes within is c.loop-n.invariant)
      | else-not-covers_row w ↦
          rw w.found-is (sifted_same region upwards rows n key c.loop-n.found.items c.seen_row-before.result.now c.seen_row.result.now is (λ i. rw (to_z-of_z f, to_z-of_z b) at (c.seen_row-before.ensures.seen i))
          (λ i. rw (to_z-of_z f) at (c.seen_row.ensures.seen i)) (c.covers_row.ensures w.if-not-covers_row.false) c.loop-n.invariant)
    ]

pub returns : goal.returns
returns c = sifted_all c.args.region.now c.args.upwards c.args.changes.now c.loop-n.n c.loop-n.found.items c.requires.changes (omega (arith, c.loop-n-test.false)) c.loop-n.invariant
