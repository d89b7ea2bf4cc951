-- Public: the limits of the rounds of a play.
use Rattle.std.specs.Prelude.{ℕ}
use Rattle.ass_script.specs.Limits.{max_lines}

-- the most rounds: there may be as many lines as images
abbrev pub max_rounds : ℕ
max_rounds = max_lines
