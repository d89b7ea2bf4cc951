-- Public: words that the contracts of many crates share: why an answer may come, and what is told of the outside.
use Rattle.std.specs.Prelude.{ℕ, ◌+◌, ◌-◌, ◌^◌, ◌≤◌, Option, IfSome, min}

-- A count of faults rose: it is greater than before, or stands at its last value.
abbrev pub Rose : ℕ → ℕ → Type 0
Rose before now = min (before + 1) (2 ^ 64 - 1) ≤ now

-- The fact holds of the value, where it is told. Nothing is said where it isn't.
abbrev pub IfTold : {T : Type 0} → Option T → (T → Type 0) → Type 0
IfTold told fact = IfSome told fact
