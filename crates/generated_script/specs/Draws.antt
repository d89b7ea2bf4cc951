-- Public: numbers drawn one after another, by a linear congruence.
use Rattle.std.specs.Prelude.{ℕ, zero, suc, ◌+◌, ◌*◌, ◌/◌, ◌%◌}

-- the state after one more draw
abbrev pub next_state : ℕ → ℕ
next_state x = (1103515245 * x + 12345) % 2147483648

-- the state after so many draws
abbrev pub state_after_draws : ℕ → ℕ → ℕ
state_after_draws zero x = x
state_after_draws (suc draws) x = next_state (state_after_draws draws x)

-- the number below m that is drawn where this is the state
abbrev pub number_drawn : ℕ → ℕ → ℕ
number_drawn x m = x / 65536 % m
