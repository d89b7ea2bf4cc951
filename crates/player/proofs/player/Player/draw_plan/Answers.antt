use Rattle.std.proofs.Common.{ap, ◌∙◌}
use Rattle.blend.specs.Canvases.{CanvasValue}
use Rattle.mask_keys.proofs.DrawnLemmas.{draws_height, draws_width}
use Rattle.player.proofs.player.Player.draw_plan.Goals as goal

pub returns-clause-width : goal.returns-clause-width
returns-clause-width c =
    ap (λ (k : CanvasValue). k.w) c.in_ok-paint.ensures.painted
    ∙ (draws_width c.self.inside.local.fonts c.args.plan.now.draws c.in_ok-canvas.canvas ∙ ap (λ (k : CanvasValue). k.w) c.in_ok-canvas.ensures)

pub returns-clause-height : goal.returns-clause-height
returns-clause-height c =
    ap (λ (k : CanvasValue). k.h) c.in_ok-paint.ensures.painted
    ∙ (draws_height c.self.inside.local.fonts c.args.plan.now.draws c.in_ok-canvas.canvas ∙ ap (λ (k : CanvasValue). k.h) c.in_ok-canvas.ensures)
