use Rattle.std.proofs.Common.{◌≡◌, ◌+◌, ◌*◌, ◌∙◌, ap}
use Rattle.sfnt_font.specs.Maps.{better, choice_at}
use Rattle.sfnt_font.proofs.Steps.{best_map-next}
use Rattle.sfnt_font.proofs.maps.best_map.Goals as goal

pub loop-k-preserved : goal.loop-k-preserved
loop-k-preserved c =
    let next : c.better-best.result ≡ better c.loop-k.best (choice_at c.args.bytes.now c.args.cmap (c.args.first + 8 * c.loop-k.k)) =
    c.better-best.ensures.value ∙ ap (better c.loop-k.best) (c.choice_at.ensures.value ∙ ap (λ k. choice_at c.args.bytes.now c.args.cmap (c.args.first + 8 * k)) c.from.ensures) in
    record {
      read = rw next (best_map-next c.args.bytes.now c.args.cmap c.args.first c.args.n c.loop-k.k c.loop-k.best c.loop-k-test.true ∙ c.loop-k.invariant.read);
      place = c.better-best.ensures.place;
    }
