use Rattle.cache_kinds.specs.Kinds.{region_meaning}
use Rattle.mask_keys.specs.Equality.{equal_regions}
use Rattle.mask_caches.proofs.Free.{free-lower}
use Rattle.mask_caches.proofs.caches.Caches.ask_region.Goals as goal

pub ask-requires-clause-order : goal.ask-requires-clause-order
ask-requires-clause-order g c = free-lower equal_regions region_meaning c.args.self.now.regions c.args.pass c.args.key.now c.requires.free

pub returns : goal.returns
returns g c = record { steps = c.ask.ensures.steps; asked = c.ask.ensures.asked; new = c.ask.ensures.new; home = c.ask.ensures.home }
