-- How a run ends after a status.
use Rattle.std.proofs.Common.{inl}
use Rattle.run_status.specs.declared.status.Status.{Status}
use Rattle.run_status.specs.declared.status.Status.TheVariants as status
use Rattle.single_run.specs.Outcomes.{IsEnded, IsOrMemory}
use Rattle.single_run.specs.declared.outcome.Outcome.TheVariants.{Ended}

-- A status ends as it is, or memory ran out.
pub ended : (before answer : Status) → IsEnded (Ended before) answer → IsOrMemory before answer
ended status.Done answer h = inl h
ended (status.NoSuchFile name) answer h = h
ended (status.ReadFault name) answer h = h
ended (status.BadScript cause) answer h = h
ended (status.BadFont index fault) answer h = h
ended (status.WriteFault which) answer h = h
ended (status.TooLarge what limit) answer h = h
ended status.OutOfMemory answer h = h
ended (status.BadWords why) answer h = h
ended (status.Unwritable order field) answer h = h
