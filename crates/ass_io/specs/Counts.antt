-- Inner: counts that stop at their last value.
use Rattle.std.specs.Prelude.{ℕ, ◌+◌, ◌≤◌}
use Rattle.ass_num.specs.Causes.{Rose}

-- The count is one more, or stands at its last value.
abbrev pub IsOneMore : ℕ → ℕ → Type 0
IsOneMore before now = Rose before now × (before ≤ now) × (now ≤ before + 1)
