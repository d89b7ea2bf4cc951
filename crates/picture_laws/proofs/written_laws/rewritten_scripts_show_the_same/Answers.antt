use Rattle.picture_laws.proofs.Rewritten.{read_scripts_are_read_later, read_scripts_are_spelled, scripts_are_read_later, scripts_give_events}
use Rattle.picture_laws.proofs.written_laws.rewritten_scripts_show_the_same.Goals as goal

pub returns-clause-spelled : goal.returns-clause-spelled
returns-clause-spelled c = read_scripts_are_spelled c.texts_spell_scripts.ensures c.written_is_read_back.ensures.spelled

pub returns-clause-events : goal.returns-clause-events
returns-clause-events c = scripts_give_events

pub returns-clause-later : goal.returns-clause-later
returns-clause-later c = scripts_are_read_later c.written_is_read_back.ensures.script c.written_is_read_back.ensures.events

pub returns-clause-read : goal.returns-clause-read
returns-clause-read c =
    let law = c.written_is_read_back.ensures in
    read_scripts_are_read_later (read_scripts_are_spelled c.texts_spell_scripts.ensures law.spelled) (scripts_are_read_later law.script law.events)
