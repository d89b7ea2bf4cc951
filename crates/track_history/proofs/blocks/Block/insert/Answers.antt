use Rattle.std.proofs.Common.{arith}
use Rattle.std.proofs.lemmas.Int.{ints}
use Rattle.track_history.proofs.Bounds.{block_inserted}
use Rattle.track_history.proofs.blocks.Block.insert.Goals as goal

pub returns-clause-block : goal.returns-clause-block
returns-clause-block c = block_inserted c.args.self.now _ c.args.at c.args.span c.requires.block c.requires.within c.in_ok-insert.ensures.items
    (omega (arith, ints, c.min-self.ensures.self_bound)) (omega (arith, ints, c.min-self.ensures.other_bound))
    (omega (arith, ints, c.max-self.ensures.self_bound)) (omega (arith, ints, c.max-self.ensures.other_bound))
