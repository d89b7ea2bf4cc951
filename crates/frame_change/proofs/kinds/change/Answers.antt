use Rattle.std.proofs.Common.{refl, sym, ap, ◌∙◌}
use Rattle.std.proofs.lemmas.Bool.{false≢true}
use Rattle.frame_change.proofs.DrawLemmas.{plan_same, plans_decided}
use Rattle.frame_change.proofs.kinds.change.Goals as goal

pub returns-then-eq : goal.returns-then-eq
returns-then-eq c = ap (λ p. p.draws) (plan_same c.args.a.now c.args.b.now (sym c.if-eq.ensures))

pub returns-then-are_same_but_moved : goal.returns-then-are_same_but_moved
returns-then-are_same_but_moved c = (
  (λ e. false≢true (c.if-eq.ensures ∙ (plans_decided c.args.a.now c.args.b.now).1 (λ i. record { draws = e i }))),
  rw (c.as_slice.ensures, c.as_slice-2.ensures) at (c.if-are_same_but_moved.ensures.0 refl),
)
