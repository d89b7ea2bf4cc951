use Rattle.cache_kinds.specs.Kinds.{composite_meaning}
use Rattle.mask_keys.specs.Equality.{equal_composites}
use Rattle.mask_caches.proofs.Free.{free-lower}
use Rattle.mask_caches.proofs.caches.Caches.ask_composite.Goals as goal

pub ask-requires-clause-order : goal.ask-requires-clause-order
ask-requires-clause-order g c = free-lower equal_composites composite_meaning c.args.self.now.composites c.args.composites c.args.key.now c.requires.composites_free

pub returns : goal.returns
returns g c = record { steps = c.ask.ensures.steps; asked = c.ask.ensures.asked; new = c.ask.ensures.new; home = c.ask.ensures.home; short = c.ask.ensures.short }
