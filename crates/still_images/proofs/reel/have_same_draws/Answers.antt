use Rattle.std.proofs.Common.{◌∙◌, ap, sym}
use Rattle.frame_change.proofs.DrawLemmas.{plan_same}
use Rattle.mask_keys.specs.declared.plans.Plan.{Plan}
use Rattle.still_images.proofs.reel.have_same_draws.Goals as goal

pub returns : goal.returns
returns c = λ same. ap (λ (p : Plan). p.draws) (plan_same c.args.a.now c.args.b.now (sym c.eq.ensures ∙ same))
