use Rattle.draw_laws.proofs.MovedEvents.{whole_pixels_move}
use Rattle.draw_laws.proofs.laws.whole_pixels_move_draws.Goals as goal

pub returns : goal.returns
returns c = whole_pixels_move
