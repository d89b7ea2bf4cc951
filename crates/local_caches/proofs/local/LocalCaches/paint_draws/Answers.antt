use Rattle.std.proofs.Common.{◌≡◌, ◌∙◌, Err, rules}
use Rattle.local_caches.proofs.PaintLemmas.{painted-front, painted-more}
use Rattle.local_caches.proofs.local.LocalCaches.paint_draws.Goals as goal

pub returns-in_err-paint_draw-clause-refused : goal.returns-in_err-paint_draw-clause-refused
returns-in_err-paint_draw-clause-refused c =
    let same : c.from_residual.result ≡ Err c.in_err-paint_draw.field-0.0 = search rules in
    rw same
    (painted-front c.args.self.now.fonts c.args.draws.now c.loop-draw.draw-index c.args.canvas.now c.loop-draw.canvas c.paint_draw.new.canvas c.loop-draw.invariant.painted c.in_err-paint_draw.ensures.refused)

pub loop-draw-preserved : goal.loop-draw-preserved
loop-draw-preserved c =
    let kept = c.loop-draw.invariant in
    record {
      painted =
          painted-more c.args.self.now.fonts c.loop-draw.self.fonts c.args.draws.now c.loop-draw.draw-index c.draw-item.result c.args.canvas.now c.loop-draw.canvas c.paint_draw.new.canvas c.loop-draw-test.true c.draw-item.is kept.fonts kept.painted
          c.in_ok-paint_draw.ensures.painted;
      fonts = c.in_ok-paint_draw.ensures.fonts ∙ kept.fonts;
      budget = c.in_ok-paint_draw.ensures.budget ∙ kept.budget;
    }
