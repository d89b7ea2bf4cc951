use Rattle.ass_events.specs.Histories.{live}
use Rattle.renderer.proofs.Tried.{wanting-itself}
use Rattle.renderer.proofs.renderer.Renderer.ready_images.Goals as goal

pub returns-in-Ok : goal.returns-in-Ok
returns-in-Ok c = λ history h. c.images_pinned.ensures.tried (live history) c.args.scene.now.t c.args.size.now (c.in-Ok.ensures.draws history h)

pub returns-in-Err : goal.returns-in-Err
returns-in-Err c = λ history h. wanting-itself c.args.self.now c.args.pass (live history) c.args.scene.now.t c.args.size.now c.requires.pass
