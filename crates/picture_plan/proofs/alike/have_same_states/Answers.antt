use Rattle.std.proofs.Common.{sym, ◌∙◌}
use Rattle.picture_plan.proofs.AlikeLemmas.{all_states_same}
use Rattle.picture_plan.proofs.alike.have_same_states.Goals as goal

pub returns : goal.returns
returns c = λ equal. all_states_same c.args.a.now c.args.b.now (sym c.eq.ensures ∙ equal)
