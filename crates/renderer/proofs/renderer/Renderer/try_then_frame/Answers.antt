use Rattle.std.proofs.Common.{ℤ, Err, subst}
use Rattle.std.proofs.Math.Facts.{to_z-of_z}
use Rattle.ass_events.specs.Histories.{live}
use Rattle.track_history.specs.Calls.{history_of}
use Rattle.renderer.specs.Passes.{RenderView}
use Rattle.renderer.specs.Holding.{HoldsTheSame}
use Rattle.renderer.specs.Soon.{AreImagesSoon, IsTriedThenRendered}
use Rattle.renderer.proofs.Framed.{scene-itself}
use Rattle.renderer.proofs.TriedFirst.{frame-wanting, given-soon, wanting-soon}
use Rattle.renderer.proofs.Together.{pass_of}
use Rattle.renderer.proofs.renderer.Renderer.try_then_frame.Goals as goal

pub returns-in-Ok : goal.returns-in-Ok
returns-in-Ok g c =
    let renderer = c.args.self.now in let later = c.look-track.result.0 in let old = c.pass.inside.caches in let new = c.images_soon-caches.result.0 in
    let size = c.args.size.now in let images = c.images_soon-caches.result.1 in let history = history_of later.seen in
    let of = rw (← c.pass.view_is) at c.requires.pass in
    let scene = rw (c.in-Ok.is, to_z-of_z c.ranges.t) at c.look-track.ensures.scene in
    let had = c.images_soon-caches.ensures history (scene-itself history c.args.t c.in-Ok.scene scene) in
    let f = given-soon renderer c.pass.inside.track later old new c.args.t size of c.in-Ok.scene images c.look-track.ensures.turn scene
    (subst (λ (t : ℤ). AreImagesSoon renderer old new (live history) t size images) scene.instant had) in
    rw (← c.pass.view_is, c.frame_with-frame.ensures) (record { pass = f.of; history = f.history; rendered = f.came; holds = f.holds; home = f.home })

pub returns-in-Err : goal.returns-in-Err
returns-in-Err g c =
    let renderer = c.args.self.now in let later = c.look-track.result.0 in let caches = c.pass.inside.caches in let size = c.args.size.now in
    let wanting = c.in-Err.refused in
    let of = rw (← c.pass.view_is) at c.requires.pass in
    let f = frame-wanting renderer c.pass.inside.track later caches caches c.args.t size of wanting c.look-track.ensures.turn
    (wanting-soon renderer caches (live (history_of later.seen)) c.args.t size of.caches wanting) in
    record {
      pass = f.pass;
      history = tt;
      rendered = subst (λ (v : RenderView). IsTriedThenRendered renderer v (pass_of later caches) c.args.t size (Err wanting)) c.pass.view_is f.rendered;
      holds = subst (λ (v : RenderView). HoldsTheSame renderer v (pass_of later caches)) c.pass.view_is f.holds;
      home = tt;
    }
