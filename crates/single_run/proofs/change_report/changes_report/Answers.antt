use Rattle.single_run.proofs.change_report.changes_report.Goals as goal

pub lines_of-requires-clause-setting : goal.lines_of-requires-clause-setting
lines_of-requires-clause-setting c =
    record { script = c.requires.script; fonts = rw (c.deref.ensures, c.in_ok-fonts.ensures.ok) c.requires.fonts; frame = c.requires.view }

pub returns : goal.returns
returns c = rw (c.deref.ensures, c.in_ok-fonts.ensures.ok, c.as_slice.ensures.value, c.in_ok-events.ensures.events) at c.lines_of.ensures
