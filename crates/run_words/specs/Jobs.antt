-- Public: the limits of a job's numbers.
use Rattle.std.specs.Prelude.{ℤ, pos, ◌≤◌, ◌≤ℤ◌}
use Rattle.ass_num.specs.Limits.{IsInstant, max_frame_side, max_instant}
use Rattle.ass_num.specs.declared.size.Size.{Size}
use Rattle.frame_rate.specs.Instants.{AreInstants}
use Rattle.frame_view.specs.FrameViews.{IsFrameView}
use Rattle.value_texts.specs.Values.{IsNumberBetween}
use Rattle.run_words.specs.Limits.{max_ahead, max_bands, max_batch, max_budget, max_events, max_seed, max_times, max_workers}
use Rattle.run_words.specs.declared.job.ChangesJob.{ChangesJob}
use Rattle.run_words.specs.declared.job.FrameJob.{FrameJob}
use Rattle.run_words.specs.declared.job.Job.{Job}
use Rattle.run_words.specs.declared.job.Job.TheVariants.{Check, Frame, Play, Stills, Selftest, Changes, Write, Help, Version}
use Rattle.run_words.specs.declared.job.PlayJob.{PlayJob}
use Rattle.run_words.specs.declared.job.StillsJob.{StillsJob}

-- a distance of instants, in milliseconds
abbrev pub IsMoment : ℤ → Type 0
IsMoment t = (pos 0 ≤ℤ t) × (t ≤ℤ pos max_instant)

-- a frame of one column and row or more
abbrev pub IsFrame : Size → Type 0
IsFrame size = IsNumberBetween 1 max_frame_side size.w × IsNumberBetween 1 max_frame_side size.h

pub record IsFrameJob (frame : FrameJob) : Type 0 where
  pub at : IsInstant frame.at
  pub view : IsFrameView frame.view
  pub budget : frame.budget ≤ max_budget

pub record IsChangesJob (changes : ChangesJob) : Type 0 where
  pub instants : AreInstants changes.instants
  pub view : IsFrameView changes.view
  pub budget : changes.budget ≤ max_budget

pub record IsPlay (play : PlayJob) : Type 0 where
  pub instants : AreInstants play.instants
  pub size : IsFrame play.size
  pub feeders : IsNumberBetween 1 max_workers play.feeders
  pub renderers : IsNumberBetween 1 max_workers play.renderers
  pub batch : IsNumberBetween 1 max_batch play.batch
  pub again : play.again ≤ max_batch
  pub times : IsNumberBetween 1 max_times play.times
  pub ahead : play.ahead ≤ max_ahead
  pub bands : IsNumberBetween 1 max_bands play.bands
  pub budget : play.budget ≤ max_budget

pub record IsStills (stills : StillsJob) : Type 0 where
  pub instants : AreInstants stills.instants
  pub size : IsFrame stills.size
  pub budget : stills.budget ≤ max_budget

-- The numbers of a job are within their limits.
abbrev pub IsJob : Job → Type 0
IsJob (Check script fonts) = Unit {0}
IsJob (Frame frame script fonts) = IsFrameJob frame × IsFrame frame.view.size
IsJob (Play play script fonts) = IsPlay play
IsJob (Stills stills script fonts) = IsStills stills
IsJob (Selftest seed events workers) = (seed ≤ max_seed) × IsNumberBetween 1 max_events events × IsNumberBetween 1 max_workers workers
IsJob (Changes changes script fonts) = IsChangesJob changes × IsFrame changes.view.size
IsJob (Write later earlier script) = IsMoment later × IsMoment earlier
IsJob Help = Unit {0}
IsJob Version = Unit {0}
