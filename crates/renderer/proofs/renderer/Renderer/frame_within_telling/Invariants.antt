use Rattle.std.proofs.Common.{◌≡◌, List, [], length}
use Rattle.turn_cell.specs.Passes.{Follows}
use Rattle.renderer.specs.Holding.{HoldsTheSame}
use Rattle.renderer.specs.Passes.{IsPassOfRenderer}
use Rattle.renderer.specs.Within.{AreRefusedTries}
use Rattle.renderer.specs.declared.trying.Again.{Again}
use Rattle.renderer.proofs.renderer.Renderer.frame_within_telling.Given as goal

abbrev pub invariant-loop-refused : goal.invariant-loop-refused
invariant-loop-refused l = record {
  of : IsPassOfRenderer l.self l.waiting;
  refused : (causes : List Again) × (length causes ≡ l._refused) × AreRefusedTries l.self l.t l.size causes l.fn.pass l.waiting;
  track : Follows l.fn.pass.track l.waiting.track [];
  holds : HoldsTheSame l.self l.fn.pass l.waiting;
}
