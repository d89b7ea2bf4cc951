use Rattle.std.proofs.Common.{◌≡◌, ◌+◌, ◌*◌, ◌-◌, pos, ◌+ℤ◌, ◌-ℤ◌, get_or, ap, sym, ◌∙◌, arith}
use Rattle.std.proofs.lemmas.Int.{ints}
use Rattle.std.proofs.lemmas.List.{get_or-replicate}
use Rattle.mask_blur.specs.Lines.{IsZeroBeside}
use Rattle.mask_blur.proofs.rows.part_or_zeros.Goals as goal
use Rattle.mask_blur.proofs.rows.part_or_zeros.Goals.{then-k-skip-via-then-k-skip, then-k-skip-via-else-k-skip+then-h-k}

pub returns-then-k-skip : goal.returns-then-k-skip
returns-then-k-skip c = λ f x y shows i h.
    let u = x +ℤ pos (c.args.at + i) in
    let v = (y +ℤ pos c.args.k) -ℤ pos c.args.skip in
    let zero : IsZeroBeside (f u) y c.args.h = shows.outside.columns u in
    elim c.then-k-skip.branch [
      | then-k-skip-via-then-k-skip w ↦ get_or-replicate 16 i 0 0 h ∙ sym (zero.before v (omega (arith, ints)))
      | then-k-skip-via-else-k-skip+then-h-k w ↦ get_or-replicate 16 i 0 0 h ∙ sym (zero.behind v (omega (arith, ints)))
    ]

pub returns : goal.returns
returns c = λ f x y shows i h.
    let bytes = c.args.bytes.now in
    let row = c.args.k - c.args.skip in
    let cell = shows.inside.cells (c.args.at + i) row (omega (arith, h, c.requires.columns)) (omega (arith, c.if-k-skip.false, c.if-h-k.false)) in
    let place : row * c.args.w + c.args.at + i ≡ row * c.args.w + (c.args.at + i) = omega arith in
    let line : y +ℤ pos row ≡ (y +ℤ pos c.args.k) -ℤ pos c.args.skip = omega (arith, ints, c.if-k-skip.false) in
    c.part_at.ensures i h ∙ (ap (λ n. get_or bytes n 0) place ∙ (cell ∙ ap (f (x +ℤ pos (c.args.at + i))) line))
