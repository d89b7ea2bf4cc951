use Rattle.std.proofs.Common.{ℤ, subst}
use Rattle.std.proofs.Math.Facts.{to_z-of_z}
use Rattle.ass_events.specs.Histories.{live}
use Rattle.track_history.specs.Calls.{history_of}
use Rattle.renderer.specs.Rendering.{AreImagesLent}
use Rattle.renderer.proofs.Framed.{frame-given, scene-itself}
use Rattle.renderer.proofs.renderer.Renderer.frame.Goals as goal

pub returns-in-Ok : goal.returns-in-Ok
returns-in-Ok g c =
    let renderer = c.args.self.now in let later = c.look-track.result.0 in let old = c.pass.inside.caches in let new = c.images_of-caches.result.0 in
    let size = c.args.size.now in let images = c.images_of-caches.result.1 in let history = history_of later.seen in
    let of = rw (← c.pass.view_is) at c.requires.pass in
    let scene = rw (c.in-Ok.is, to_z-of_z c.ranges.t) at c.look-track.ensures.scene in
    let had = c.images_of-caches.ensures history (scene-itself history c.args.t c.in-Ok.scene scene) in
    let f = frame-given renderer c.pass.inside.track later old new c.args.t size c.in-Ok.scene images of c.look-track.ensures.turn scene
    (subst (λ (t : ℤ). AreImagesLent renderer old new (live history) t size images) scene.instant had) in
    rw (← c.pass.view_is, c.frame_with-frame.ensures) (record { pass = f.of; history = f.history; rendered = f.came; holds = f.holds; home = f.home })
