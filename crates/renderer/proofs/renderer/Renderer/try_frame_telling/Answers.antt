use Rattle.std.proofs.Common.{ℤ, Err, subst, sym}
use Rattle.std.proofs.Math.Facts.{to_z-of_z}
use Rattle.ass_events.specs.Histories.{live}
use Rattle.track_history.specs.Calls.{IsTriedLook, history_of}
use Rattle.renderer.specs.Holding.{HoldsTheSame}
use Rattle.renderer.specs.Passes.{RenderView}
use Rattle.renderer.specs.Trying.{AreImagesTried, IsTried}
use Rattle.renderer.specs.declared.trying.TryRefusal.{TryRefusal}
use Rattle.renderer.proofs.Framed.{scene-itself}
use Rattle.renderer.proofs.Together.{pass_of}
use Rattle.renderer.proofs.Tried.{given-tried, look-refused}
use Rattle.renderer.proofs.renderer.Renderer.try_frame_telling.Goals as goal

pub returns-in-Ok : goal.returns-in-Ok
returns-in-Ok c =
    let renderer = c.args.self.now in let later = c.try_look-track.result.0 in let old = c.pass.inside.caches in let new = c.ready_images-caches.result.0 in
    let size = c.args.size.now in let images = c.ready_images-caches.result.1 in let history = history_of later.seen in
    let of = rw (← c.pass.view_is) at c.requires.pass in
    let looked = rw (c.in-Ok.is, to_z-of_z c.ranges.t) at c.try_look-track.ensures in
    let had = c.ready_images-caches.ensures history (scene-itself history c.args.t c.in-Ok.scene looked.1) in
    let f = given-tried renderer c.pass.inside.track later old new c.args.t size of c.in-Ok.scene images c.map_err.result looked.0 looked.1
    (subst (λ (t : ℤ). AreImagesTried renderer old new (live history) t size images) looked.1.instant had) c.map_err.ensures.cases in
    rw (← c.pass.view_is, c.frame_with-frame.ensures) (record { pass = f.of; history = f.history; tried = f.came; holds = f.holds; home = f.home })

pub returns-in-Err : goal.returns-in-Err
returns-in-Err c =
    let renderer = c.args.self.now in let later = c.try_look-track.result.0 in let caches = c.pass.inside.caches in let size = c.args.size.now in
    let of = rw (← c.pass.view_is) at c.requires.pass in
    let looked = subst (λ (t : ℤ). IsTriedLook c.pass.inside.track t later (Err c.in-Err.refusal)) (to_z-of_z c.ranges.t) (rw c.in-Err.is at c.try_look-track.ensures) in
    let f = look-refused renderer c.pass.inside.track later caches c.args.t size of c.in-Err.refusal looked in
    record {
      pass = f.pass;
      history = tt;
      tried = subst (λ (v : RenderView). IsTried renderer v (pass_of later caches) c.args.t size (Err c.of_track.result)) c.pass.view_is
          (subst (λ (r : TryRefusal). IsTried renderer (pass_of c.pass.inside.track caches) (pass_of later caches) c.args.t size (Err r)) (sym c.of_track.ensures) f.tried);
      holds = subst (λ (v : RenderView). HoldsTheSame renderer v (pass_of later caches)) c.pass.view_is f.holds;
      home = tt;
    }
