use Rattle.picture_laws.proofs.Written.{pictures_are_read_back, pictures_are_shifted}
use Rattle.picture_laws.proofs.written_laws.written_events_show_the_same.Goals as goal

pub returns-clause-read_back : goal.returns-clause-read_back
returns-clause-read_back c = pictures_are_read_back c.written_is_read_back.ensures.script c.written_is_read_back.ensures.events

pub returns-clause-shifted : goal.returns-clause-shifted
returns-clause-shifted c = pictures_are_shifted
