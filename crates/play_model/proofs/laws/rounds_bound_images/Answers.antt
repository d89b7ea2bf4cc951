use Rattle.play_model.proofs.MoreTimes.{round_count}
use Rattle.play_model.proofs.laws.rounds_bound_images.Goals as goal

pub returns : goal.returns
returns c play q round renderer n lt least most = round_count play q round renderer n lt least most
