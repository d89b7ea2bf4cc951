use Rattle.std.proofs.Common.{◌≡◌, map}
use Rattle.std.specs.Arc.{arc_value}
use Rattle.ass_events.specs.ScriptEvents.{first_events}
use Rattle.ass_events.proofs.events.events_of.Given as goal

abbrev pub invariant-loop-i : goal.invariant-loop-i
invariant-loop-i l = map arc_value l.events.items ≡ first_events l.script l.i
