use Rattle.std.proofs.Common.{◌≡◌, List, map, subst, sym}
use Rattle.std.specs.Arc.{arc_value}
use Rattle.bdf_font.specs.Fonts.{FontValue}
use Rattle.mask_keys.specs.Pictures.{image_of_draw}
use Rattle.frame_view.specs.FrameViews.{plain_frame}
use Rattle.picture_plan.specs.Pictures.{AreDraws}
use Rattle.renderer.specs.ShownFrames.{image_shown}
use Rattle.mask_keys.specs.PlanKeys.{plan_keys}
use Rattle.renderer.specs.Passes.{RendererView}
use Rattle.renderer.specs.Trying.{AreDrawsPinned, AreImagesRefused}
use Rattle.renderer.proofs.Tried.{pinned-images, pinned-values, refused-images}
use Rattle.renderer.proofs.renderer.Renderer.images_pinned.Goals as goal

pub returns-in-Ok-clause-tried : goal.returns-in-Ok-clause-tried
returns-in-Ok-clause-tried c = λ events t size drawn.
    let in_it = c.self.inside in let draws = c.args.draws.now in
    let new = c.try_composites-pass.result.0 in let images = c.images_with.result in let leases = c.in-Ok.leases.items in
    let renderer : RendererView = record { script = arc_value in_it.script; fonts = (arc_value in_it.fonts).fonts; track = in_it.track; caches = in_it.caches } in
    let are : AreDraws renderer.script renderer.fonts events t (plain_frame size) draws =
    subst (λ (r : RendererView). AreDraws r.script r.fonts events t (plain_frame size) draws) (sym c.self.view_is) drawn in
    let e = c.try_composites-pass.ensures in
    let pinned = rw (c.in-Ok.is, c.requires.keys) at e.pinned in
    let values = pinned-values renderer.caches c.args.pass new (plan_keys draws) leases pinned (arc_value in_it.caches.fonts) in_it.caches.tags.composites_have in
    let shown = c.images_with.ensures.shown (arc_value in_it.caches.fonts).fonts values in
    subst (λ (r : RendererView). AreDrawsPinned r c.args.pass new events t size images) c.self.view_is
    (pinned-images renderer c.args.pass new events t size draws are e.pass e.masks e.regions images leases c.images_with.ensures.leases pinned
    (subst (λ (f : List FontValue). map image_shown images ≡ map (image_of_draw f) draws) c.self.invariant.same_fonts shown))

pub returns-in-Err-clause-tried : goal.returns-in-Err-clause-tried
returns-in-Err-clause-tried c = λ events t size drawn.
    let in_it = c.self.inside in let draws = c.args.draws.now in
    let new = c.try_composites-pass.result.0 in let refusal = c.in-Err.refusal in
    let renderer : RendererView = record { script = arc_value in_it.script; fonts = (arc_value in_it.fonts).fonts; track = in_it.track; caches = in_it.caches } in
    let are : AreDraws renderer.script renderer.fonts events t (plain_frame size) draws =
    subst (λ (r : RendererView). AreDraws r.script r.fonts events t (plain_frame size) draws) (sym c.self.view_is) drawn in
    let e = c.try_composites-pass.ensures in
    let refused = rw (c.in-Err.is, c.requires.keys) at e.refused in
    let nothing = rw c.in-Err.is at e.nothing in
    subst (λ (r : RendererView). AreImagesRefused r c.args.pass new events t size refusal) c.self.view_is
    (refused-images renderer c.args.pass new events t size draws are e.pass e.masks e.regions refusal refused nothing)
