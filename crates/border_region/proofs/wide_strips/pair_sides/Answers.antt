use Rattle.std.proofs.Common.{arith, ◌≡◌, ◌∙◌, length}
use Rattle.border_region.proofs.wide_strips.pair_sides.Goals as goal

pub returns : goal.returns
returns c = let e : c.loop-m.m ≡ length c.args.lefts.now = omega (arith, c.loop-m-test.false) in record {
  count = c.loop-m.invariant.0 ∙ e;
  left = λ m l. c.loop-m.invariant.1 m (rw e l);
  right = λ m l. c.loop-m.invariant.2 m (rw e l);
}
