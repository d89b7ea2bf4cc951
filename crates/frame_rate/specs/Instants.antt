-- Public: the instants of frames at a rate, in milliseconds (docs/PROGRAM.md).
use Rattle.std.specs.Prelude.{◌≡◌, ℕ, ◌-◌, ◌<◌, ◌≤◌, min}
use Rattle.ass_num.specs.Limits.{max_instant}
use Rattle.frame_rate.specs.Rates.{IsFrameRate, frame_instant, frames_before}
use Rattle.frame_rate.specs.declared.instants.Instants.{Instants}
use Rattle.frame_rate.specs.declared.rate.FrameRate.{FrameRate}

-- the instant at a place, from 0
abbrev pub rated_instant : Instants → ℕ → ℕ
rated_instant instants place = frame_instant instants.rate instants.from place

-- They go forward at a rate, and come before the last instant.
pub record AreInstants (instants : Instants) : Type 0 where
  pub first : instants.from ≤ max_instant
  pub rate : IsFrameRate instants.rate
  pub within : instants.count ≤ frames_before instants.rate instants.from max_instant

-- those that come before `to`
abbrev pub instants_before : FrameRate → ℕ → ℕ → Instants
instants_before rate from to = record { from = from; count = frames_before rate from to; rate = rate }

-- the first `count`, or as many as come before the last instant
abbrev pub counted_instants : FrameRate → ℕ → ℕ → Instants
counted_instants rate from count = record { from = from; count = min count (frames_before rate from max_instant); rate = rate }

-- All that are asked for are there, where the last one of them comes before the last instant.
abbrev pub CountedInstantsAreThere : Type 0
CountedInstantsAreThere =
    (rate : FrameRate) (from count : ℕ) → IsFrameRate rate → 0 < count → frame_instant rate from (count - 1) < max_instant → (counted_instants rate from count).count ≡ count
