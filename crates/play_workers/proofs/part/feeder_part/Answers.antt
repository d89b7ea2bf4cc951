use Rattle.play_workers.proofs.Parted.{fed_done, fed_in_part}
use Rattle.play_workers.proofs.part.feeder_part.Goals as goal

pub returns-in-Ok : goal.returns-in-Ok
returns-in-Ok g c =
    let e = rw c.in-Ok.is at c.feed_part-pass.ensures in
    fed_done c.args.stage.now c.args.round c.args.pass c.feed_part-pass.result.0 e.pass c.args.feeder c.in-Ok.repeated e.caches e.fed

pub returns-in-Err : goal.returns-in-Err
returns-in-Err g c =
    let e = rw c.in-Err.is at c.feed_part-pass.ensures in
    fed_in_part c.args.stage.now c.args.round c.args.pass c.feed_part-pass.result.0 e.pass c.args.feeder record {} e.caches e.fed
