use Rattle.run_reports.proofs.WatchLemmas.{watched_plainly, watched_told}
use Rattle.run_reports.proofs.watch.watched.Goals as goal
