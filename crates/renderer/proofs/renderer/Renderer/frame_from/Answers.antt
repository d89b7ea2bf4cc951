use Rattle.std.proofs.Common.{◌∙◌, ℤ, Err, Ok, subst, sym}
use Rattle.std.proofs.Math.Facts.{to_z-of_z}
use Rattle.ass_events.specs.Histories.{live}
use Rattle.track_history.specs.Answers.{IsSceneFrom}
use Rattle.track_history.specs.Calls.{history_of}
use Rattle.renderer.specs.Behind.{IsRenderedFrom}
use Rattle.renderer.specs.Holding.{HoldsTheSame}
use Rattle.renderer.specs.Passes.{RenderView}
use Rattle.renderer.specs.Rendering.{AreImagesLent}
use Rattle.renderer.proofs.Framed.{scene-itself}
use Rattle.renderer.proofs.FromEntry.{given-from, refused-from}
use Rattle.renderer.proofs.Together.{pass_of}
use Rattle.renderer.proofs.renderer.Renderer.frame_from.Goals as goal

pub returns-in-Ok-frame : goal.returns-in-Ok-frame
returns-in-Ok-frame g c =
    let renderer = c.args.self.now in let later = c.look_from-track.result.0 in let old = c.pass.inside.caches in let new = c.images_of-caches.result.0 in
    let size = c.args.size.now in let images = c.images_of-caches.result.1 in let history = history_of later.seen in let t = c.args.t in
    let of = rw (← c.pass.view_is) at c.requires.pass in
    let shown = rw (c.in-Ok.is, to_z-of_z c.ranges.t) at c.look_from-track.ensures.scene in
    let had = subst (λ (s : ℤ). AreImagesLent renderer old new (live history) s size images) shown.1.instant (c.images_of-caches.ensures history (scene-itself history t c.in-Ok.scene shown.1)) in
    let f = given-from renderer c.pass.inside.track later t size c.args.least c.look_from-track.ensures.turn old new c.in-Ok.scene images (Ok c.in-Ok-frame.frame) of
    (sym c.in-Ok-frame.is ∙ c.frame_with-frame.ensures) shown had in
    rw (← c.pass.view_is) (record { pass = f.of; history = f.history; rendered = f.came; holds = f.holds; home = f.home })

pub returns-in-Ok : goal.returns-in-Ok
returns-in-Ok g c =
    let renderer = c.args.self.now in let later = c.look_from-track.result.0 in let old = c.pass.inside.caches in let new = c.images_of-caches.result.0 in
    let size = c.args.size.now in let images = c.images_of-caches.result.1 in let history = history_of later.seen in let t = c.args.t in
    let of = rw (← c.pass.view_is) at c.requires.pass in
    let shown = rw (c.in-Ok.is, to_z-of_z c.ranges.t) at c.look_from-track.ensures.scene in
    let had = subst (λ (s : ℤ). AreImagesLent renderer old new (live history) s size images) shown.1.instant (c.images_of-caches.ensures history (scene-itself history t c.in-Ok.scene shown.1)) in
    let f = given-from renderer c.pass.inside.track later t size c.args.least c.look_from-track.ensures.turn old new c.in-Ok.scene images c.frame_with-frame.result of
    c.frame_with-frame.ensures shown had in
    let h = rw c.in-Err-frame.is at f in
    rw (← c.pass.view_is) (record { pass = h.of; history = tt; rendered = h.came; holds = h.holds; home = tt })

pub returns : goal.returns
returns g c =
    let renderer = c.args.self.now in let later = c.look_from-track.result.0 in let caches = c.pass.inside.caches in let t = c.args.t in let size = c.args.size.now in
    let least = c.args.least in let refusal = c.in-Err.refusal in
    let of = rw (← c.pass.view_is) at c.requires.pass in
    let shown = subst (λ (s : ℤ). IsSceneFrom (history_of later.seen) s least (Err refusal)) (to_z-of_z c.ranges.t) (rw c.in-Err.is at c.look_from-track.ensures.scene) in
    let f = refused-from renderer c.pass.inside.track later t size least c.look_from-track.ensures.turn caches refusal of shown in
    record {
      pass = f.of;
      history = tt;
      rendered = subst (λ (v : RenderView). IsRenderedFrom renderer v (pass_of later caches) t size least (Err refusal)) c.pass.view_is f.came;
      holds = subst (λ (v : RenderView). HoldsTheSame renderer v (pass_of later caches)) c.pass.view_is f.holds;
      home = tt;
    }
