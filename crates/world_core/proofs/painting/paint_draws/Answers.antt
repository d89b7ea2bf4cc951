use Rattle.std.proofs.Common.{refl, ap, ◌∙◌, subst}
use Rattle.std.specs.Arc.{arc_value}
use Rattle.std.specs.List.{fold}
use Rattle.std.proofs.lemmas.List.{take_all}
use Rattle.local_caches.proofs.PaintLemmas.{painted-more}
use Rattle.mask_keys.specs.Pictures.{with_draw}
use Rattle.world_core.proofs.HeldValues.{all-more, not-all}
use Rattle.world_core.specs.Replies.{HoldsAll, HoldsDraw}
use Rattle.world_core.proofs.painting.paint_draws.Goals as goal

pub loop-draw-preserved : goal.loop-draw-preserved
loop-draw-preserved c =
    let fonts = (arc_value c.args.caches.now.tag).fonts in
    record {
      painted =
          painted-more fonts fonts c.args.draws.now c.loop-draw.draw-index c.draw-item.result c.args.canvas.now c.loop-draw.canvas c.paint_draw.new.canvas c.loop-draw-test.true c.draw-item.is refl c.loop-draw.invariant.painted
          (c.in_ok-drawn.ensures.painted c.if-not-drawn.false);
      held =
          all-more (HoldsDraw c.args.caches.now c.args.actor) c.args.draws.now c.loop-draw.draw-index c.draw-item.result c.loop-draw-test.true c.draw-item.is c.loop-draw.invariant.held (c.in_ok-drawn.ensures.held.0 c.if-not-drawn.false);
    }

pub returns-then-not-drawn-clause-held : goal.returns-then-not-drawn-clause-held
returns-then-not-drawn-clause-held c = (
  λ t. cc,
  λ all. absurd (not-all (HoldsDraw c.args.caches.now c.args.actor) c.args.draws.now c.loop-draw.draw-index c.draw-item.result c.loop-draw-test.true c.draw-item.is (λ h. cc (c.in_ok-drawn.ensures.held.1 h, c.if-not-drawn.true)) all),
)

pub returns-clause-held : goal.returns-clause-held
returns-clause-held c = (λ t. subst (HoldsAll c.args.caches.now c.args.actor) (take_all c.loop-draw.draw-index c.args.draws.now c.loop-draw-test.false) c.loop-draw.invariant.held, λ all. refl)

pub returns-clause-painted : goal.returns-clause-painted
returns-clause-painted c = λ t.
    c.loop-draw.invariant.painted ∙ ap (fold (with_draw (arc_value c.args.caches.now.tag).fonts) c.args.canvas.now) (take_all c.loop-draw.draw-index c.args.draws.now c.loop-draw-test.false)
