use Rattle.std.proofs.Common.{◌*◌, ◌-◌, inl, inr, arith}
use Rattle.std.proofs.lemmas.Bool.{cases_lt}
use Rattle.mask_blur.proofs.transposing.transpose_rows.Goals as goal

pub loop-k-preserved : goal.loop-k-preserved
loop-k-preserved c = λ u v v_less known.
    c.transpose_tile.ensures u v v_less (elim (cases_lt u (16 * c.loop-k.k)) [
      | inl less ↦ inr (c.loop-k.invariant u v v_less (elim known [ inl t ↦ inl (less, t.1, t.2) | inr o ↦ inr o ]))
      | inr from ↦ elim known [ inl t ↦ inl (from, omega (arith, t.0), t.1, t.2) | inr o ↦ inr (c.loop-k.invariant u v v_less (inr o)) ]
    ])

pub returns : goal.returns
returns c = λ u v u_less v_less known.
    c.transpose_tile-2.ensures u v v_less (elim (cases_lt u (c.args.w - 16)) [
      | inl less ↦ inr (c.loop-k.invariant u v v_less (elim known [ inl t ↦ inl (omega arith, t.0, t.1) | inr o ↦ inr o ]))
      | inr from ↦ elim known [ inl t ↦ inl (from, omega arith, t.0, t.1) | inr o ↦ inr (c.loop-k.invariant u v v_less (inr o)) ]
    ])
