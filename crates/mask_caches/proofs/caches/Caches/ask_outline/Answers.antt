use Rattle.mask_caches.proofs.Free.{widened-lower}
use Rattle.mask_caches.proofs.caches.Caches.ask_outline.Goals as goal

pub ask-requires-clause-order : goal.ask-requires-clause-order
ask-requires-clause-order g c = widened-lower c.args.self.now.regions c.args.pass c.args.key.now c.requires.outline c.requires.free

pub returns : goal.returns
returns g c = record { steps = c.ask.ensures.steps; asked = c.ask.ensures.asked; new = c.ask.ensures.new; home = c.ask.ensures.home }
