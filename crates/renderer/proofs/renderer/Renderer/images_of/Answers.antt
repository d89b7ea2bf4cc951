use Rattle.ass_events.specs.Histories.{live}
use Rattle.renderer.proofs.renderer.Renderer.images_of.Goals as goal

pub returns-in-Ok : goal.returns-in-Ok
returns-in-Ok g c = λ history h. c.images_lent.ensures (live history) c.args.scene.now.t c.args.size.now (c.in-Ok.ensures.draws history h)
