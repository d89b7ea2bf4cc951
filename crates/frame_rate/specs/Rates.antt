-- Public: the instants of frames at a rate, in milliseconds (docs/PROGRAM.md).
use Rattle.std.specs.Prelude.{◌≡◌, ℕ, ◌+◌, ◌-◌, ◌*◌, ◌/◌, ◌<◌, ◌≤◌, ◌↔◌}
use Rattle.std.specs.Int.{div_ceil}
use Rattle.ass_num.specs.Limits.{max_instant}
use Rattle.frame_rate.specs.declared.rate.FrameRate.{FrameRate}

-- the most frames that a rate counts
abbrev pub max_rate_frames : ℕ
max_rate_frames = 1000000

-- A rate has frames and takes time.
pub record IsFrameRate (rate : FrameRate) : Type 0 where
  pub some : 0 < rate.frames
  pub most : rate.frames ≤ max_rate_frames
  pub time : 0 < rate.seconds
  pub longest : rate.seconds ≤ max_instant

-- the rate of a step of whole milliseconds: a thousand frames in so many seconds
abbrev pub step_rate : ℕ → FrameRate
step_rate step = record { frames = 1000; seconds = step }

-- The instant of frame i, from 0, where frame 0 has the instant `from`: the last millisecond that doesn't come after the frame's time.
abbrev pub frame_instant : FrameRate → ℕ → ℕ → ℕ
frame_instant rate from i = from + 1000 * i * rate.seconds / rate.frames

-- how many frames have instants before `to`
abbrev pub frames_before : FrameRate → ℕ → ℕ → ℕ
frames_before rate from to = div_ceil ((to - from) * rate.frames) (1000 * rate.seconds)

-- A frame's instant is less than a millisecond before its time, and never after it, however late the frame.
abbrev pub FramesAreOnTime : Type 0
FramesAreOnTime = (rate : FrameRate) (from i : ℕ) → 0 < rate.frames
    → ((frame_instant rate from i - from) * rate.frames ≤ 1000 * i * rate.seconds) × (1000 * i * rate.seconds < (frame_instant rate from i - from + 1) * rate.frames)

-- The frames that are counted are those whose instants come before the end.
abbrev pub CountedFramesComeBefore : Type 0
CountedFramesComeBefore = (rate : FrameRate) (from to i : ℕ) → 0 < rate.frames → 0 < rate.seconds → (i < frames_before rate from to) ↔ (frame_instant rate from i < to)

-- At the rate of a step the instants stand a step apart, and as many are counted as steps begin before the end.
abbrev pub StepsAreRates : Type 0
StepsAreRates =
    (from to step i : ℕ) → 0 < step
    → (frame_instant (step_rate step) from i ≡ from + i * step) × (frames_before (step_rate step) from to ≡ div_ceil (to - from) step)
