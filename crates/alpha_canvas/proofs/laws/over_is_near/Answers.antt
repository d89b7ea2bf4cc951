use Rattle.alpha_canvas.proofs.PictureLemmas as law
use Rattle.alpha_canvas.proofs.laws.over_is_near.Goals as goal

pub returns : goal.returns
returns c = law.over_is_near
