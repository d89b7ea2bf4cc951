-- Whole powers, the square root and the fourth root.
use Rattle.std.proofs.Common.{◌≡◌, ◌*◌, ◌/◌, inl, inr, ap, ◌∙◌, arith}
use Rattle.ass_num.specs.Powers.{root_of, scaled, scaled_times}
use Rattle.ass_num.proofs.Roots.{power_is}
use Rattle.ass_num.proofs.powers.power.Goals as goal
use Rattle.ass_num.proofs.powers.power.Goals.{then-q-ge2, else-q-ge2, then-q-eq1, else-q-eq1}

pub returns-clause-value : goal.returns-clause-value
returns-clause-value c =
    let turns : c.loop-turn._turn ≡ c.args.q / 4 = omega arith in
    power_is c.args.x c.args.q c.root-half.result c.loop-turn.p c.if-q-ge2.p c.if-q-eq1.p
    (c.root-half.ensures.value ∙ ap (λ z. root_of (z * 65536)) c.from-x.ensures)
    (c.loop-turn.invariant.value ∙ ap (λ z. scaled_times 65536 z c.loop-turn._turn) c.from-x.ensures ∙ ap (scaled_times 65536 c.args.x) turns)
    (elim c.if-q-ge2.branch [
      | then-q-ge2 w ↦ inl (w.if-q-ge2.true, w.p-is ∙ w.product-p-then-q-ge2.ensures.value)
      | else-q-ge2 w ↦ inr (omega arith, w.p-is)
    ])
    (elim c.if-q-eq1.branch [
      | then-q-eq1 w ↦ inl (w.if-q-eq1.true, w.p-is ∙ w.product-p-then-q-eq1.ensures.value ∙ ap (scaled c.if-q-ge2.p) w.root.ensures.value)
      | else-q-eq1 w ↦ inr (w.if-q-eq1.false, w.p-is)
    ])
