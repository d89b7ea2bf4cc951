use Rattle.cache_kinds.specs.Kinds.{mask_meaning}
use Rattle.mask_keys.specs.Equality.{equal_masks}
use Rattle.mask_caches.proofs.Free.{free-lower}
use Rattle.mask_caches.proofs.caches.Caches.ask_mask.Goals as goal

pub ask-requires-clause-order : goal.ask-requires-clause-order
ask-requires-clause-order g c = free-lower equal_masks mask_meaning c.args.self.now.masks c.args.masks c.args.key.now c.requires.masks_free

pub returns : goal.returns
returns g c = record { steps = c.ask.ensures.steps; asked = c.ask.ensures.asked; new = c.ask.ensures.new; home = c.ask.ensures.home }
