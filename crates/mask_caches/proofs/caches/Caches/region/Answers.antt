use Rattle.std.proofs.Common.{sym, ◌∙◌}
use Rattle.mask_caches.proofs.Free.{free-regions}
use Rattle.mask_caches.proofs.Levels.{plain-region}
use Rattle.mask_caches.proofs.caches.Caches.region.Goals as goal

pub returns-else-is_widened-clause-visit : goal.returns-else-is_widened-clause-visit
returns-else-is_widened-clause-visit g c = plain-region c.args.self.now.regions c.args.key.now c.args.pass c.outline.result.0 c.outline.result.1 (sym c.is_widened.ensures ∙ c.if-is_widened.false) c.outline.ensures.visit

pub outline-requires-clause-free : goal.outline-requires-clause-free
outline-requires-clause-free g c = free-regions c.args.self.now.regions c.args.pass c.requires.free
