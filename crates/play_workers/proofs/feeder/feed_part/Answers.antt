use Rattle.std.proofs.Common.{◌<◌, ◌∙◌, length, subst, sym}
use Rattle.std.specs.List.{All}
use Rattle.play_workers.proofs.Fed.{part_fed, part_unfed}
use Rattle.play_workers.proofs.Shared.{offered_below}
use Rattle.play_workers.proofs.feeder.feed_part.Goals as goal

pub feed_lines-requires-clause-lines : goal.feed_lines-requires-clause-lines
feed_lines-requires-clause-lines g c =
    let stage = c.args.stage.now in
    subst (All (λ i. i < length stage.good)) (sym (c.as_slice-in-Ok.ensures.value ∙ rw c.as_slice.ensures at c.in-Ok.ensures))
    (offered_below stage.job stage.good c.args.round c.args.feeder)

pub returns-in-Ok-clause-fed : goal.returns-in-Ok-clause-fed
returns-in-Ok-clause-fed g c =
    part_fed c.args.stage.now c.args.round c.args.feeder c.args.pass c.feed_lines.result.0 c.as_slice-in-Ok.result.now c.feed_lines.result.1 c.requires.stage
    (c.as_slice-in-Ok.ensures.value ∙ rw c.as_slice.ensures at c.in-Ok.ensures) c.feed_lines.ensures.fed

pub returns-in-Err-clause-fed : goal.returns-in-Err-clause-fed
returns-in-Err-clause-fed g c = part_unfed c.args.stage.now c.args.round c.args.feeder c.args.pass c.in-Err.refused
