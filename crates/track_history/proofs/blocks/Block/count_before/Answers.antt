use Rattle.std.proofs.Common.{◌+◌, ◌-◌, ◌/◌, refl, arith}
use Rattle.std.proofs.lemmas.Bool.{false≢true}
use Rattle.track_history.proofs.Indexes.{take_before, drop_behind}
use Rattle.track_history.proofs.blocks.Block.count_before.Goals as goal

pub search-preserved-then-is_before : goal.search-preserved-then-is_before
search-preserved-then-is_before c = record {
  order = omega (arith, c.search-test.true);
  within = c.search.invariant.within;
  before = take_before _ (c.search.low + (c.search.high - c.search.low) / 2) c.index.result.now c.args.span.now c.requires.sorted (omega (arith, c.search-test.true, c.search.invariant.within)) c.index.ensures (c.if-is_before.ensures.0 refl);
  behind = c.search.invariant.behind;
}

pub search-preserved : goal.search-preserved
search-preserved c = record {
  order = omega (arith, c.search-test.true);
  within = omega (arith, c.search-test.true, c.search.invariant.within);
  before = c.search.invariant.before;
  behind = drop_behind _ (c.search.low + (c.search.high - c.search.low) / 2) c.index.result.now c.args.span.now c.requires.sorted c.requires.new (omega (arith, c.search-test.true, c.search.invariant.within)) c.index.ensures (λ b. false≢true (c.if-is_before.ensures.1 b));
}
