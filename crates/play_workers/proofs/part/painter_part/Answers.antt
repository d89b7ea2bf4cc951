use Rattle.std.proofs.Common.{refl}
use Rattle.play_workers.specs.declared.worker.Outcome.TheVariants.{Shown, OutOfMemory}
use Rattle.play_workers.specs.declared.worker.Role.TheVariants.{Painter}
use Rattle.play_workers.proofs.Parted.{done_giving_none}
use Rattle.play_workers.proofs.part.painter_part.Goals as goal

pub returns-in-Ok : goal.returns-in-Ok
returns-in-Ok g c =
    let e = rw c.in-Ok.is at c.paint_part-pass.ensures in
    done_giving_none c.args.stage.now c.args.round c.args.pass c.paint_part-pass.result.0 e.pass (Painter c.args.painter) (Shown c.in-Ok.images) e.track e.later e.holds (refl, e.images)

pub returns-in-Err : goal.returns-in-Err
returns-in-Err g c =
    let e = c.paint_part-pass.ensures in
    done_giving_none c.args.stage.now c.args.round c.args.pass c.paint_part-pass.result.0 e.pass (Painter c.args.painter) OutOfMemory e.track e.later e.holds refl
