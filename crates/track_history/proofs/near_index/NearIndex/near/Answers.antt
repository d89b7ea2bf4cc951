use Rattle.std.proofs.Common.{ℤ, subst}
use Rattle.std.proofs.Math.Facts.{to_z-of_z}
use Rattle.ass_events.specs.NearEvents.{AreNear}
use Rattle.near_events.specs.Spans.{span_at}
use Rattle.near_events.specs.Walks.{walk_of}
use Rattle.track_history.specs.Blocks.{spans_of}
use Rattle.track_history.proofs.FoundSpans.{near_differ, near_sorted}
use Rattle.track_history.proofs.near_index.NearIndex.near.Goals as goal

pub returns-clause-near : goal.returns-clause-near
returns-clause-near c = subst (λ (t : ℤ). AreNear span_at (spans_of c.args.self.now.blocks.items) t c.sort_in_time.new.spans.items) (to_z-of_z c.ranges.t)
    (near_sorted _ _ (walk_of c.in_ok-found.field-0) _ c.requires c.in_ok-found.ensures c.sort_in_time.ensures.permutation c.sort_in_time.ensures.sorted)

pub returns-clause-orders : goal.returns-clause-orders
returns-clause-orders c = near_differ _ _ (walk_of c.in_ok-found.field-0) _ c.requires c.in_ok-found.ensures c.sort_in_time.ensures.permutation
