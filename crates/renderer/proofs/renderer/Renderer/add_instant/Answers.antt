use Rattle.mask_keys.specs.Keys.{IsValidComposite}
use Rattle.mask_keys.specs.Outlines.{glyph_counts}
use Rattle.renderer.proofs.Warmed.{kept-valid}
use Rattle.renderer.proofs.renderer.Renderer.add_instant.Goals as goal

pub returns-in-Ok-clause-valid : goal.returns-in-Ok-clause-valid
returns-in-Ok-clause-valid g c =
    let glyphs = glyph_counts c.args.self.now.fonts in let valid = rw c.in-Ok.is at c.plan_at-pass.ensures.valid in
    kept-valid (IsValidComposite glyphs) c.args.ahead.now c.add_plan.new.self c.add_plan.result c.requires.valid (c.add_plan.ensures.valid glyphs c.requires.valid valid) c.add_plan.ensures.err
