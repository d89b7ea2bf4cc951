use Rattle.std.proofs.Common.{refl}
use Rattle.run_reports.proofs.watch.watched_of.Goals as goal

pub returns-in-Play : goal.returns-in-Play
returns-in-Play c = rw (c.in-Play.is, c.saturating_mul.ensures, c.from.ensures) refl
