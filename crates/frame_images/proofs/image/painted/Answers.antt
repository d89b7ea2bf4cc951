use Rattle.std.proofs.Common.{List, fold, ap, ◌∙◌}
use Rattle.blend.specs.Canvases.{CanvasValue}
use Rattle.bdf_font.specs.Fonts.{FontValue}
use Rattle.local_caches.specs.LocalParts.{LocalCachesView}
use Rattle.mask_keys.specs.Pictures.{with_draw}
use Rattle.std.specs.Arc.{arc_value}
use Rattle.frame_images.proofs.ImageLemmas.{painted_height, painted_width}
use Rattle.frame_images.proofs.image.painted.Goals as goal

pub returns-clause-width : goal.returns-clause-width
returns-clause-width c =
    painted_width c.in_ok-local.local.fonts c.args.frame.now.view.size c.args.plan.now.draws c.in_ok-canvas.canvas _ c.in_ok-canvas.ensures c.in_ok-paint.ensures.painted

pub returns-clause-height : goal.returns-clause-height
returns-clause-height c =
    painted_height c.in_ok-local.local.fonts c.args.frame.now.view.size c.args.plan.now.draws c.in_ok-canvas.canvas _ c.in_ok-canvas.ensures c.in_ok-paint.ensures.painted

pub returns-clause-picture : goal.returns-clause-picture
returns-clause-picture c =
    c.in_ok-paint.ensures.painted
    ∙ ap (λ (f : List FontValue). fold (with_draw f) c.in_ok-canvas.canvas c.args.plan.now.draws) (ap (λ (a : LocalCachesView). a.fonts) c.in_ok-local.ensures)
    ∙ ap (λ (k : CanvasValue). fold (with_draw (arc_value c.args.fonts).fonts) k c.args.plan.now.draws) c.in_ok-canvas.ensures
