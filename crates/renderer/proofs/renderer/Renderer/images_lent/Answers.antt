use Rattle.std.proofs.Common.{subst, sym}
use Rattle.std.specs.Arc.{arc_value}
use Rattle.frame_view.specs.FrameViews.{plain_frame}
use Rattle.picture_plan.specs.Pictures.{AreDraws}
use Rattle.renderer.specs.Passes.{RendererView}
use Rattle.renderer.specs.Rendering.{AreImagesLent}
use Rattle.renderer.proofs.Framed.{lent-images}
use Rattle.renderer.proofs.renderer.Renderer.images_lent.Goals as goal

pub returns : goal.returns
returns g c = λ events t size drawn.
    let in_it = c.self.inside in let draws = c.args.draws.now in
    let renderer : RendererView = record { script = arc_value in_it.script; fonts = (arc_value in_it.fonts).fonts; track = in_it.track; caches = in_it.caches } in
    let e = c.lend_images.ensures in
    let are : AreDraws renderer.script renderer.fonts events t (plain_frame size) draws =
    subst (λ (r : RendererView). AreDraws r.script r.fonts events t (plain_frame size) draws) (sym c.self.view_is) drawn in
    subst (λ (r : RendererView). AreImagesLent r c.args.pass c.lend_images.result.0 events t size c.lend_images.result.1) c.self.view_is
    (lent-images renderer c.args.pass c.lend_images.result.0 events t size draws c.lend_images.result.1 (arc_value in_it.caches.fonts).fonts are c.self.invariant.same_fonts e.lent e.refused e.shown)
