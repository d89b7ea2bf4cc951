use Rattle.std.proofs.Common.{◌+◌, ◌*◌, length}
use Rattle.play_rounds.proofs.round.+parts.Given as goal

abbrev pub decreases-work_all : goal.decreases-work_all
decreases-work_all g l = 4 * length l.workers.now

abbrev pub decreases-work_apart : goal.decreases-work_apart
decreases-work_apart g l = 4 * length l.rest.now + 2

abbrev pub decreases-work_apart-others : goal.decreases-work_apart-others
decreases-work_apart-others g l = 4 * length l.rest.now + 1
