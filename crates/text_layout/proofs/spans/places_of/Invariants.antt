use Rattle.std.proofs.Common.{◌≡◌, ◌++◌, drop}
use Rattle.text_layout.specs.Kinds.{roles_of}
use Rattle.text_layout.specs.Spans.{places_from, places_of}
use Rattle.text_layout.proofs.spans.places_of.Given as goal

abbrev pub invariant-loop-place : goal.invariant-loop-place
invariant-loop-place l = l.places.items ++ places_from l.role l.place (roles_of l.wrap (drop l.place l.items)) ≡ places_of l.role (roles_of l.wrap l.items)
