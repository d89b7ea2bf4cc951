use Rattle.near_events.specs.Walks.{walk_of}
use Rattle.near_events.proofs.Nears.{IsWalked}
use Rattle.near_events.proofs.walks.Walk.go_over.Given as goal

abbrev pub invariant-down : goal.invariant-down
invariant-down l = IsWalked l.t (walk_of l.initial.self) l.spans l.rest (walk_of l.self)

abbrev pub decreases-down : goal.decreases-down
decreases-down l = l.rest
