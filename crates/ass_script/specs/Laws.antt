-- Public: what holds of all texts.
use Rattle.std.specs.Prelude.{◌≡◌, ℕ, ◌↔◌, List, Some, ℤ}
use Rattle.ass_num.specs.Fronts.{BeginsWith}
use Rattle.ass_num.specs.Numerals.{IsMilli, IsStyleColour}
use Rattle.ass_script.specs.Numbers.{milli_of, style_colour_of}

abbrev pub MillisAreRead : Type 0
MillisAreRead = (text : List ℕ) (n : ℤ) → (milli_of text ≡ Some n) ↔ BeginsWith IsMilli text n

abbrev pub ColoursAreRead : Type 0
ColoursAreRead = (text : List ℕ) (n : ℕ) → (style_colour_of text ≡ Some n) ↔ BeginsWith IsStyleColour text n
