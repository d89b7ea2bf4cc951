-- Inner: the workers of a shift, and how many rounds it has.
use Rattle.std.specs.Prelude.{ℕ, max, nat_lt, if◌then◌else◌, List, [], ◌∷◌, ◌++◌, map}
use Rattle.std.specs.List.{range_with_len}
use Rattle.play_shares.specs.Renderers.{painter_count}
use Rattle.play_shares.specs.Rounds.{feeding_rounds, image_rounds}
use Rattle.run_words.specs.declared.job.Mode.{Mode}
use Rattle.run_words.specs.declared.job.Mode.TheVariants.{Live, Settled}
use Rattle.run_words.specs.declared.job.PlayJob.{PlayJob}
use Rattle.play_workers.specs.declared.worker.Role.{Role}
use Rattle.play_workers.specs.declared.worker.Role.TheVariants.{Feeder, Painter, Warmer}
use Rattle.play_rounds.specs.declared.shift.Shift.{Shift}
use Rattle.play_rounds.specs.declared.shift.Shift.TheVariants.{Both, Feed, Paint}

-- the shift is one of the mode
abbrev pub IsShiftOf : Mode → Shift → Type 0
IsShiftOf Live Both = Unit {0}
IsShiftOf Settled Feed = Unit {0}
IsShiftOf Settled Paint = Unit {0}
IsShiftOf _ _ = ⊥

-- how many rounds there are, of so many lines
abbrev pub rounds_of : PlayJob → ℕ → Shift → ℕ
rounds_of job count Both = max (feeding_rounds job count) (image_rounds job)
rounds_of job count Feed = feeding_rounds job count
rounds_of job count Paint = image_rounds job

abbrev pub feeders_of : PlayJob → List Role
feeders_of job = map Feeder (range_with_len 0 job.feeders)

-- those that paint, and one that warms ahead where that is asked for
abbrev pub painters_of : PlayJob → List Role
painters_of job = map Painter (range_with_len 0 (painter_count job)) ++ (if nat_lt 0 job.ahead then Warmer ∷ [] else [])

abbrev pub crew_of : PlayJob → Shift → List Role
crew_of job Both = feeders_of job ++ painters_of job
crew_of job Feed = feeders_of job
crew_of job Paint = painters_of job

-- how many of a crew of so many work at once: of painters alone as many as there are renderers, else all
abbrev pub at_once : PlayJob → Shift → ℕ → ℕ
at_once job Both crew = crew
at_once job Feed crew = crew
at_once job Paint crew = if nat_lt 0 job.ahead then crew else job.renderers
