use Rattle.std.proofs.Common.{◌≡◌, ◌≤ℤ◌, true, take}
use Rattle.std.specs.List.{All}
use Rattle.near_events.specs.Bounds.{is_behind}
use Rattle.near_events.specs.declared.spans.EventSpan.{EventSpan}
use Rattle.near_events.proofs.near.lowered.Given as goal

abbrev pub invariant-loop-span : goal.invariant-loop-span
invariant-loop-span l = record {
  by : l.low ≤ℤ l.from;
  all : All (λ (s : EventSpan). is_behind l.t l.from s ≡ true → l.low ≤ℤ s.start) (take l.span-index l.spans);
}
