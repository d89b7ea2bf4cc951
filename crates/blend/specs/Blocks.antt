-- Inner: sixteen pixels that get a colour together.
use Rattle.std.specs.Prelude.{◌≡◌, ℕ, zero, suc, ◌+◌, ◌*◌, ◌<◌, List, slice_index}
use Rattle.ass_num.specs.declared.colour.Rgba.{Rgba}

-- the channels of a colour by number: red, green and blue
abbrev pub channel : Rgba → ℕ → ℕ
channel colour zero = colour.r
channel colour (suc zero) = colour.g
channel colour (suc (suc c)) = colour.b

-- the bytes of sixteen pixels of the colour
abbrev pub IsSolid : Rgba → List ℕ → Type 0
IsSolid colour bytes = (k c : ℕ) → k < 16 → c < 3 → slice_index bytes (3 * k + c) ≡ channel colour c
