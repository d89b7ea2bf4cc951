use Rattle.std.proofs.Common.{inl}
use Rattle.ass_events.specs.Histories.{live}
use Rattle.renderer.proofs.TriedFirst.{lent-soon, wanting-soon}
use Rattle.renderer.proofs.renderer.Renderer.images_soon.Goals as goal

pub returns-in-Ok-tried : goal.returns-in-Ok-tried
returns-in-Ok-tried g c = λ history h.
    inl (rw c.in-Ok-tried.is at c.images_pinned-pass.ensures.tried (live history) c.args.scene.now.t c.args.size.now (c.in-Ok.ensures.draws history h))

pub returns-in-OutOfMemory : goal.returns-in-OutOfMemory
returns-in-OutOfMemory g c = λ history h.
    inl (rw (c.in-Err-tried.is, c.in-OutOfMemory.is) at c.images_pinned-pass.ensures.tried (live history) c.args.scene.now.t c.args.size.now (c.in-Ok.ensures.draws history h))

pub returns-in-Ok : goal.returns-in-Ok
returns-in-Ok g c = λ history h.
    let t = c.args.scene.now.t in let size = c.args.size.now in let drawn = c.in-Ok.ensures.draws history h in
    let refused = rw c.in-Err-tried.is at c.images_pinned-pass.ensures.tried (live history) t size drawn in
    lent-soon c.args.self.now c.args.pass c.images_pinned-pass.result.0 c.images_lent.result.0 (live history) t size c.in-Err-tried.refusal c.images_lent.result.1
    c.in_default.not-OutOfMemory refused (c.images_lent.ensures (live history) t size drawn)

pub returns : goal.returns
returns g c = λ history h. wanting-soon c.args.self.now c.args.pass (live history) c.args.scene.now.t c.args.size.now c.requires.pass c.in-Err.refused
