-- Public: the limits of the numbers of a run.
use Rattle.std.specs.Prelude.{ℕ}

-- the most feeders, renderers or workers
abbrev pub max_workers : ℕ
max_workers = 8

-- the most lines of a batch, and the most that are fed again
abbrev pub max_batch : ℕ
max_batch = 10000

-- the most times that a job is played
abbrev pub max_times : ℕ
max_times = 8

-- the most instants that are warmed ahead
abbrev pub max_ahead : ℕ
max_ahead = 64

-- the most bands of a frame
abbrev pub max_bands : ℕ
max_bands = 8

-- the most frames that are asked for by their number
abbrev pub max_asked_frames : ℕ
max_asked_frames = 1000000

-- the most bytes of a cache's budget
abbrev pub max_budget : ℕ
max_budget = 1099511627776

-- the last seed
abbrev pub max_seed : ℕ
max_seed = 2147483647

-- the most events that are generated
abbrev pub max_events : ℕ
max_events = 100000

-- the bytes of a budget that isn't given
abbrev pub usual_budget : ℕ
usual_budget = 67108864

-- the lines of a batch that isn't given
abbrev pub usual_batch : ℕ
usual_batch = 16
