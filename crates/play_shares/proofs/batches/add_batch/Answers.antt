use Rattle.std.proofs.Common.{◌∙◌, ◌*◌, length, sym}
use Rattle.play_shares.specs.Batches.{feeder_lines}
use Rattle.play_shares.proofs.Parts.{batch_more}
use Rattle.play_shares.proofs.batches.add_batch.Goals as goal

pub loop-place-preserved : goal.loop-place-preserved
loop-place-preserved c =
    let play = c.args.play.now in
    let good = c.args.good.now in
    batch_more good (feeder_lines (length good) play.feeders c.args.feeder) c.args.lines.now.items (c.args.round * play.batch) c.loop-place.place c.loop-place.auto.place
    c.loop-place.lines.items c.add_good.new.lines.items c.in-Some.line c.loop-place.invariant (sym c.line_at.ensures ∙ c.in-Some.is) c.in_ok-add_good-in-Some.ensures
