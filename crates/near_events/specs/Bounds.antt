-- Inner: how early an event can begin that matters at an instant.
use Rattle.std.specs.Prelude.{◌≡◌, Bool, true, ◌&&◌, ℤ, int_le, int_lt, ◌≤ℤ◌, List, All}
use Rattle.near_events.specs.declared.spans.EventSpan.{EventSpan}

-- the span begins by t and ends after a bound
abbrev pub is_behind : ℤ → ℤ → EventSpan → Bool
is_behind t bound s = int_le s.start t && int_lt bound s.end

-- Whatever is behind the bound doesn't begin before it. The bound isn't after t.
pub record IsBound (t bound : ℤ) (spans : List EventSpan) : Type 0 where
  pub by : bound ≤ℤ t
  pub all : All (λ (s : EventSpan). is_behind t bound s ≡ true → bound ≤ℤ s.start) spans
