use Rattle.std.proofs.Common.{ℤ, arith, subst, to_z-of_z}
use Rattle.std.proofs.lemmas.Int.{ints}
use Rattle.std.specs.Result.{IfOk}
use Rattle.track_history.specs.Calls.{history_of}
use Rattle.play_workers.specs.Asks.{IsImageAsked}
use Rattle.play_workers.specs.Stages.{play_on}
use Rattle.play_workers.proofs.Parted.{instant_fits_frame, instant_is, instant_not_gone}
use Rattle.play_workers.proofs.painter.image_at.Goals as goal

pub unreachable-requires : goal.unreachable-requires
unreachable-requires g c = instant_not_gone c.args.stage.now c.requires.stage c.args.place c.requires.place c.in-None.ensures

pub paint_instant-requires-clause-instant : goal.paint_instant-requires-clause-instant
paint_instant-requires-clause-instant g c =
    let fits = instant_fits_frame c.args.stage.now c.requires.stage c.args.place c.in-Some.t c.in-Some.ensures in
    let within = fits.0 in
    rw (to_z-of_z fits.1) (λ κs h. (omega (arith, ints, within.0), omega (arith, ints, within.1)))

pub returns-clause-image : goal.returns-clause-image
returns-clause-image g c =
    let stage = c.args.stage.now in
    let fits = instant_fits_frame stage c.requires.stage c.args.place c.in-Some.t c.in-Some.ensures in
    let after = c.paint_instant.result.0 in
    subst (λ (t : ℤ). IfOk c.paint_instant.result.1 (λ image. IsImageAsked (play_on stage) stage.renderer c.args.pass after (history_of after.track.seen) t image.items))
    (instant_is stage c.requires.stage c.args.place c.in-Some.t c.in-Some.ensures) (rw (to_z-of_z fits.1) at c.paint_instant.ensures.image)
