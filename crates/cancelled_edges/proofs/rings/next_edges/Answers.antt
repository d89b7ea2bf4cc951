use Rattle.std.proofs.Common.{arith}
use Rattle.cancelled_edges.proofs.NextLemmas.{starts_none, starts_more, next_at_end}
use Rattle.cancelled_edges.proofs.rings.next_edges.Goals as goal

pub loop-k-init : goal.loop-k-init
loop-k-init c = starts_none _ _ c.in_ok-starts.ensures.items

pub loop-k-preserved : goal.loop-k-preserved
loop-k-preserved c = starts_more _ c.loop-k.k c.loop-k.starts.items _ _ c.loop-k-test.true c.loop-k.invariant c.in_ok-push.ensures.items

pub returns : goal.returns
returns c =
    next_at_end c.args.edges.now c.loop-k.starts.items c.sort_by_beginning.new.starts.items c.deref-start-items.result.now c.loop-k.k c.loop-start.start-index c.loop-start.next.items
    c.requires.closed c.requires.in_order c.loop-k.invariant (omega arith) c.sort_by_beginning.ensures.permutation c.sort_by_beginning.ensures.in_order c.deref-start-items.ensures.value
    c.loop-start.invariant c.loop-start-test.false
