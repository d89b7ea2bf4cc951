use Rattle.std.proofs.Common.{subst, sym, to_z-of_z}
use Rattle.std.specs.Result.{IfOk}
use Rattle.renderer.specs.ShownFrames.{leases_of}
use Rattle.renderer.proofs.Held.{leases-given, leases-held}
use Rattle.track_history.specs.Calls.{TrackView, history_of}
use Rattle.play_workers.specs.Asks.{IsImageAsked}
use Rattle.play_workers.specs.Stages.{play_on}
use Rattle.play_workers.proofs.AskedFrames.{image_asked}
use Rattle.play_workers.proofs.Later.{caches_then, released_later}
use Rattle.play_workers.proofs.painter.paint_instant.Goals as goal

pub image_of-image-requires-clause-size : goal.image_of-image-requires-clause-size
image_of-image-requires-clause-size g c = λ κs h. (rw c.in-Ok.is at c.frame_at-pass.ensures.frame).is.size_is

pub release-pass-requires-clause-own : goal.release-pass-requires-clause-own
release-pass-requires-clause-own g c = rw c.in-Ok.is at c.frame_at-pass.ensures.home

pub release-pass-requires-clause-held : goal.release-pass-requires-clause-held
release-pass-requires-clause-held g c =
    leases-held c.args.stage.now.renderer.caches c.args.pass.caches c.frame_at-pass.result.0.caches (leases_of c.in-Ok.frame.images) (rw c.in-Ok.is at c.frame_at-pass.ensures.holds)

pub returns-in-Ok-clause-later : goal.returns-in-Ok-clause-later
returns-in-Ok-clause-later g c =
    let framed = c.frame_at-pass.result.0 in let after = c.release-pass.result in
    caches_then c.args.pass.caches framed.caches after.caches c.frame_at-pass.ensures.later
    (released_later c.args.stage.now.renderer framed after _ c.release-pass.ensures.composites c.release-pass.ensures.masks c.release-pass.ensures.regions)

pub returns-in-Ok-clause-image : goal.returns-in-Ok-clause-image
returns-in-Ok-clause-image g c =
    let renderer = c.args.stage.now.renderer in let framed = c.frame_at-pass.result.0 in let after = c.release-pass.result in
    let asked = rw (c.in-Ok.is, to_z-of_z c.ranges.t) at c.frame_at-pass.ensures.frame in
    subst (λ (k : TrackView). IfOk c.image_of-image.result (λ image. IsImageAsked (play_on c.args.stage.now) renderer c.args.pass after (history_of k.seen) c.args.t image.items)) (sym c.release-pass.ensures.track)
    (image_asked (play_on c.args.stage.now) renderer c.args.pass framed after (history_of framed.track.seen) c.args.t asked.is.draws c.image_of-image.result asked.asked
    (released_later renderer framed after _ c.release-pass.ensures.composites c.release-pass.ensures.masks c.release-pass.ensures.regions)
    (c.image_of-image.ensures (history_of framed.track.seen) c.args.t asked.is))

pub returns-in-Ok-clause-holds : goal.returns-in-Ok-clause-holds
returns-in-Ok-clause-holds g c =
    leases-given c.args.stage.now.renderer.caches c.args.pass.caches c.frame_at-pass.result.0.caches c.release-pass.result.caches (leases_of c.in-Ok.frame.images)
    (rw c.in-Ok.is at c.frame_at-pass.ensures.holds) c.release-pass.ensures.holds
