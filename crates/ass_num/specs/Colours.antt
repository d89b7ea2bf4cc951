-- Public: the colour that a number says.
use Rattle.std.specs.Prelude.{ℕ, ◌/◌, ◌%◌}
use Rattle.ass_num.specs.declared.colour.Rgba.{Rgba}

-- the colour of a number: alpha, blue, green and red from the highest byte down
abbrev pub colour_of : ℕ → Rgba
colour_of n = record { r = n % 256; g = n / 256 % 256; b = n / 65536 % 256; a = n / 16777216 % 256 }
