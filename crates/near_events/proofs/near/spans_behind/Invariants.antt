use Rattle.std.proofs.Common.{◌≡◌, filter, take}
use Rattle.near_events.specs.Bounds.{is_behind}
use Rattle.near_events.proofs.near.spans_behind.Given as goal

abbrev pub invariant-loop-span : goal.invariant-loop-span
invariant-loop-span l = l.few.items ≡ filter (is_behind l.t l.bound) (take l.span-index l.spans)
