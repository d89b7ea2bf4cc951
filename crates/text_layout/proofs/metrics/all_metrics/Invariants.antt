use Rattle.std.proofs.Common.{◌≡◌, map, take}
use Rattle.std.specs.List.{All}
use Rattle.text_layout.specs.Metrics.{HasFont, IsMetrics, state_metrics}
use Rattle.text_layout.proofs.metrics.all_metrics.Given as goal

abbrev pub invariant-loop-state : goal.invariant-loop-state
invariant-loop-state l = record {
  value : l.metrics.items ≡ map (state_metrics l.scales l.fonts.fonts l.view.names) (take l.state-index l.state-items);
  range : All IsMetrics l.metrics.items;
  fonts : All (HasFont l.fonts.fonts) l.metrics.items;
}
