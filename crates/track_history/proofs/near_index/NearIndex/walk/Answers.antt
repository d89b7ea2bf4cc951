use Rattle.std.proofs.Common.{arith}
use Rattle.std.proofs.lemmas.Int.{ints}
use Rattle.track_history.proofs.Bounds.{block_walked, ended_passed, late_passed}
use Rattle.track_history.proofs.near_index.NearIndex.walk.Goals as goal
use Rattle.track_history.proofs.near_index.NearIndex.walk.Goals.{else-block-t-via-then-block-t+else-walk-block, else-block-t-via-else-block-t}

pub down-preserved-then-walk-block : goal.down-preserved-then-walk-block
down-preserved-then-walk-block c = block_walked _ _ c.down.rest _ _ c.index-block.result.now c.down.invariant c.down-test.true c.index-block.ensures (rw c.as_slice.ensures.value at c.in_ok-go_over.ensures)

pub down-preserved : goal.down-preserved
down-preserved c = elim c.else-block-t.branch [
  | else-block-t-via-then-block-t+else-walk-block w ↦
      ended_passed _ _ c.down.rest _ c.index-block.result.now c.requires c.down.invariant c.down-test.true c.index-block.ensures (omega (arith, ints, w.if-walk-block.false))
  | else-block-t-via-else-block-t w ↦
      late_passed _ _ c.down.rest _ c.index-block.result.now c.requires c.down.invariant c.down-test.true c.index-block.ensures (omega (arith, ints, w.if-block-t.false))
]
