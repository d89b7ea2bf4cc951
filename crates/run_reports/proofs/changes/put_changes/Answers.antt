use Rattle.single_run.proofs.ChangePictures.{blank_picture}
use Rattle.run_reports.proofs.changes.put_changes.Goals as goal

pub put_places-requires-clause-setting : goal.put_places-requires-clause-setting
put_places-requires-clause-setting g c =
    record { script = c.requires.script; fonts = rw (c.deref.ensures, c.in_ok-fonts.ensures.ok) c.requires.fonts; frame = c.requires.changes.view }

pub put_places-requires-clause-screen : goal.put_places-requires-clause-screen
put_places-requires-clause-screen g c = blank_picture _ _ _ _ c.in_ok-screen.ensures.draws c.in_ok-screen.ensures.picture

pub put_places-requires-clause-events : goal.put_places-requires-clause-events
put_places-requires-clause-events g c = rw c.as_slice-events.ensures.value c.in_ok-events.ensures.each

pub put_places-requires-clause-texts : goal.put_places-requires-clause-texts
put_places-requires-clause-texts g c = rw c.as_slice-events.ensures.value c.in_ok-events.ensures.texts

pub returns-clause-put : goal.returns-clause-put
returns-clause-put g c = rw (c.deref.ensures, c.in_ok-fonts.ensures.ok) at c.put_places.ensures
