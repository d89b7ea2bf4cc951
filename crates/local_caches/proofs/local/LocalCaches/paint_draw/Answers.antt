use Rattle.std.proofs.Common.{ap, ◌∙◌}
use Rattle.blend.specs.Canvases.{drawn}
use Rattle.local_caches.proofs.local.LocalCaches.paint_draw.Goals as goal

pub returns-clause-painted : goal.returns-clause-painted
returns-clause-painted c = c.draw.ensures ∙ ap (drawn c.args.canvas.now) c.in_ok-image.ensures.value
