use Rattle.draw_laws.proofs.LineLayers.{drawn_in_layers}
use Rattle.draw_laws.proofs.laws.events_are_drawn_in_layers.Goals as goal

pub returns : goal.returns
returns c = drawn_in_layers
