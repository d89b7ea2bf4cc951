use Rattle.run_reports.proofs.plays.tell_play.Goals as goal

pub returns : goal.returns
returns g c = (c.play_asked-tale.result, c.play_asked-tale.ensures, c.tell.ensures)
