use Rattle.std.proofs.Common.{◌*◌, ◌-◌, inl, inr, arith}
use Rattle.std.proofs.lemmas.Bool.{cases_lt}
use Rattle.mask_blur.proofs.ShownLemmas.{along_columns_boxed}
use Rattle.mask_blur.proofs.columns.blur_strips.Goals as goal

pub loop-q-preserved : goal.loop-q-preserved
loop-q-preserved c = λ f x y shows j i j_less i_less below.
    c.blur_strip.ensures f x y shows j i j_less i_less (elim (cases_lt i (16 * c.loop-q.q)) [
      | inl less ↦ inr (c.loop-q.invariant f x y shows j i j_less i_less less)
      | inr from ↦ inl (from, omega arith)
    ])

pub returns : goal.returns
returns c = λ f x y shows. record {
  inside = record {
    cells = λ i j i_less j_less. c.blur_strip-2.ensures f x y shows j i j_less i_less (elim (cases_lt i (c.args.w - 16)) [
      | inl less ↦ inr (c.loop-q.invariant f x y shows j i j_less i_less (omega arith))
      | inr from ↦ inl (from, omega arith)
    ]);
  };
  outside = along_columns_boxed c.args.means.now.radius f x y c.args.w c.args.h shows.outside;
}
