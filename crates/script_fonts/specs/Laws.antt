-- Public: what holds of all bytes.
use Rattle.std.specs.Prelude.{◌≡◌, ◌≢◌, ℕ, ◌%◌, ◌<◌, ◌≤◌, true, List, length, All, Ok}
use Rattle.script_fonts.specs.Attachments.{is_data, script_fonts_of}
use Rattle.script_fonts.specs.Coding.{coded, decoded}
use Rattle.script_fonts.specs.declared.font.ScriptFont.{ScriptFont}

abbrev pub IsByte : ℕ → Type 0
IsByte b = b < 256

-- bytes that are written are data of a length that counts, and are read back
abbrev pub CodedAreReadBack : Type 0
CodedAreReadBack = (bytes : List ℕ) → All IsByte bytes → (is_data (coded bytes) ≡ true) × (length (coded bytes) % 4 ≢ 1) × (decoded (coded bytes) ≡ bytes)

-- no font has more bytes than the script that holds it
abbrev pub FontsFitTheirText : Type 0
FontsFitTheirText = (bytes : List ℕ) (fonts : List ScriptFont) → script_fonts_of bytes ≡ Ok fonts → All (λ font. length font.bytes ≤ length bytes) fonts
