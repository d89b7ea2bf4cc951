use Rattle.std.proofs.Common.{◌≤◌, List, ℕ, length, ap, arith, subst, take_all, ◌∙◌}
use Rattle.std.specs.List.{flat_map}
use Rattle.play_rounds.specs.Outputs.{ArePut, AreWritten}
use Rattle.play_rounds.proofs.Puts.{flat_ended, flat_written, nothing_written, one_piece, one_put, pieces_each}
use Rattle.play_rounds.proofs.gather.put_each.Goals as goal

pub loop-image-init : goal.loop-image-init
loop-image-init g c = nothing_written (g.F.Sink.state c.args.frames.now) (g.F.Sink.state c.args.frames.now) (g.F.Sink.state c.args.frames.now)

pub loop-image-preserved : goal.loop-image-preserved
loop-image-preserved g c =
    let state = g.F.Sink.state in
    let begun = c.args.frames.now in let before = c.loop-image.frames in let after = c.put.new.self in
    let one = one_put c.put.result c.image-item.result.items (state before) (state after)
    (rw c.as_slice.ensures.value at c.put.ensures) in
    flat_written one_piece c.args.images.now c.loop-image.image-index c.image-item.result c.loop-image-test.true c.image-item.is
    (state begun) (state before) (state after)
    c.loop-image.invariant (rw c.in-Done.is at one)

pub returns-in_default : goal.returns-in_default
returns-in_default g c =
    let state = g.F.Sink.state in
    let begun = c.args.frames.now in let before = c.loop-image.frames in let after = c.put.new.self in
    let one = one_put c.put.result c.image-item.result.items (state before) (state after)
    (rw c.as_slice.ensures.value at c.put.ensures) in
    subst (λ (z : List (List ℕ)). ArePut z c.put.result (state begun) (state after)) (pieces_each c.args.images.now)
    (flat_ended one_piece c.args.images.now c.loop-image.image-index c.image-item.result c.loop-image-test.true c.image-item.is
    (state begun) (state before) (state after)
    c.loop-image.invariant c.put.result c.in_default.not-Done one)

pub returns : goal.returns
returns g c =
    let state = g.F.Sink.state in
    let begun = c.args.frames.now in let after = c.loop-image.frames in
    let end : length c.args.images.now ≤ c.loop-image.image-index = (let no = c.loop-image-test.false in omega (arith, no)) in
    subst (λ (z : List (List ℕ)). AreWritten z (state begun) (state after))
    (ap (flat_map one_piece) (take_all c.loop-image.image-index c.args.images.now end) ∙ pieces_each c.args.images.now) c.loop-image.invariant
