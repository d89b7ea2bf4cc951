use Rattle.std.proofs.Common.{sym, ap, ◌∙◌}
use Rattle.mask_keys.specs.declared.plans.Plan.{Plan}
use Rattle.frame_change.proofs.DrawLemmas.{plan_same}
use Rattle.player.proofs.PlayerLemmas.{size_same}
use Rattle.player.proofs.images.is_list_of.Goals as goal

pub returns-else-not-eq : goal.returns-else-not-eq
returns-else-not-eq c =
    let listed = c.in-Some.listed in
    rw c.in-Some.is
    (λ e. (size_same listed.size c.args.size.now (sym c.if-not-eq.ensures), ap (λ (p : Plan). p.draws) (plan_same listed.plan c.args.plan.now (sym c.eq-in-Some.ensures ∙ e))))
