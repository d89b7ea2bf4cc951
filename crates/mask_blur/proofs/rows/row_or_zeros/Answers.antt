use Rattle.std.proofs.Common.{pos, ◌+ℤ◌, ◌-ℤ◌, sym, ◌∙◌, arith}
use Rattle.std.proofs.lemmas.Int.{ints}
use Rattle.mask_blur.specs.Lines.{IsZeroBeside}
use Rattle.mask_blur.proofs.rows.row_or_zeros.Goals as goal
use Rattle.mask_blur.proofs.rows.row_or_zeros.Goals.{then-k-skip-via-then-k-skip, then-k-skip-via-else-k-skip+then-h-k}

pub returns-then-k-skip-clause-row : goal.returns-then-k-skip-clause-row
returns-then-k-skip-clause-row c = λ f x y shows i h.
    let u = x +ℤ pos i in
    let v = (y +ℤ pos c.args.k) -ℤ pos c.args.skip in
    let zero : IsZeroBeside (f u) y c.args.h = shows.outside.columns u in
    elim c.then-k-skip.branch [
      | then-k-skip-via-then-k-skip w ↦ c.requires.zeros i ∙ sym (zero.before v (omega (arith, ints)))
      | then-k-skip-via-else-k-skip+then-h-k w ↦ c.requires.zeros i ∙ sym (zero.behind v (omega (arith, ints)))
    ]
