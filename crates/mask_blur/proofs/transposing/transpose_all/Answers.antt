use Rattle.std.proofs.Common.{◌*◌, ◌-◌, inl, inr, arith}
use Rattle.std.proofs.lemmas.Bool.{cases_lt}
use Rattle.mask_blur.proofs.transposing.transpose_all.Goals as goal

pub loop-k-preserved : goal.loop-k-preserved
loop-k-preserved c = λ u v u_less v_less.
    c.transpose_rows.ensures u v u_less (omega arith) (elim (cases_lt v (16 * c.loop-k.k)) [
      | inl less ↦ inr (c.loop-k.invariant u v u_less less)
      | inr from ↦ inl (from, omega arith)
    ])

pub returns : goal.returns
returns c = λ u v u_less v_less.
    c.transpose_rows-2.ensures u v u_less v_less (elim (cases_lt v (c.args.h - 16)) [
      | inl less ↦ inr (c.loop-k.invariant u v u_less (omega arith))
      | inr from ↦ inl (from, omega arith)
    ])
