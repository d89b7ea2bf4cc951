use Rattle.ass_events.specs.Plain.{plain}
use Rattle.ass_events.proofs.FieldLemmas.{Walked}
use Rattle.ass_events.proofs.fields.read_fields.Given as goal

abbrev pub invariant-loop-i : goal.invariant-loop-i
invariant-loop-i l = Walked l.format l.line l.i l.place (plain l.fields)
