use Rattle.std.proofs.Common.{◌+◌, ◌*◌, ◌≤◌, ◌<◌, ◌∙◌, arith}
use Rattle.font_bytes.specs.Bytes.{u16_at}
use Rattle.cff_font.proofs.Turns.{range-high, range-low}
use Rattle.cff_font.proofs.subroutines.dict_by_ranges.Goals as goal
use Rattle.cff_font.proofs.subroutines.dict_by_ranges.Goals.{else-u16_at-g-via-then-u16_at-g+else-g-u16_at, else-u16_at-g-via-else-u16_at-g}

pub loop-k-preserved : goal.loop-k-preserved
loop-k-preserved c =
    elim c.else-u16_at-g.branch [
      | else-u16_at-g-via-then-u16_at-g+else-g-u16_at w ↦
          let high : u16_at c.args.bytes.now (c.args.select + 3 + 3 * c.loop-k.k + 3) ≤ c.args.g = omega (arith, w.u16_at-then-u16_at-g.ensures, w.if-g-u16_at.false) in
          range-high c.args.bytes.now c.args.g (c.args.select + 3) c.args.n c.loop-k.k c.loop-k-test.true high ∙ c.loop-k.invariant
      | else-u16_at-g-via-else-u16_at-g w ↦
          let low : c.args.g < u16_at c.args.bytes.now (c.args.select + 3 + 3 * c.loop-k.k) = omega (arith, c.u16_at.ensures, w.if-u16_at-g.false) in
          range-low c.args.bytes.now c.args.g (c.args.select + 3) c.args.n c.loop-k.k c.loop-k-test.true low ∙ c.loop-k.invariant
    ]
