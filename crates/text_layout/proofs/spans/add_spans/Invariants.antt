use Rattle.std.proofs.Common.{◌≡◌, ◌+◌, ◌-◌, ◌≤◌, ◌++◌, drop, map}
use Rattle.text_layout.specs.Spans.{ArePlacesInOrder, spans_between}
use Rattle.text_layout.proofs.spans.add_spans.Given as goal

abbrev pub invariant-loop-place : goal.invariant-loop-place
invariant-loop-place l = record {
  value : l.spans.items ++ spans_between l.first l.to (map (λ place. l.from + place) (drop l.place-index l.places))
      ≡ l.initial.spans.items ++ spans_between l.from l.to (map (λ place. l.from + place) l.places);
  onward : l.from ≤ l.first;
  order : ArePlacesInOrder (l.first - l.from) (l.to - l.from) (drop l.place-index l.places);
}
