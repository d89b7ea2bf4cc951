use Rattle.std.proofs.Common.{[], sym, subst, rules}
use Rattle.std.specs.Str.{IsUtf8}
use Rattle.std.proofs.lemmas.List.Elements.{All-get_or}
use Rattle.ass_events.proofs.LawLemmas.{answer_is_event}
use Rattle.ass_events.proofs.line.event_of_line.Goals as goal

pub line_event-requires-clause-utf8 : goal.line_event-requires-clause-utf8
line_event-requires-clause-utf8 c =
    subst IsUtf8 (sym c.line.ensures) (All-get_or IsUtf8 c.args.script.now.lines c.args.i [] c.requires.within c.requires.script.lines)

pub returns-clause-answer : goal.returns-clause-answer
returns-clause-answer c = search rules

pub returns-clause-event : goal.returns-clause-event
returns-clause-event c = answer_is_event c.args.script.now c.args.i c.line_event.result c.requires.script c.requires.within (returns-clause-answer c)
