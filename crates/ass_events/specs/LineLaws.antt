-- Public: how long the lines of a script are.
use Rattle.std.specs.Prelude.{◌≡◌, ℕ, ◌≤◌, List, All, Ok, length}
use Rattle.ass_num.specs.Limits.{max_text_bytes}
use Rattle.ass_script.specs.Scripts.{ScriptValue, script_of}

-- No line of the script has more bytes than a text may have.
abbrev pub HasShortLines : ScriptValue → Type 0
HasShortLines script = All (λ line. length line ≤ max_text_bytes) script.lines

-- No line of a script has more bytes than the text that spells the script.
abbrev pub LinesFitTheirText : Type 0
LinesFitTheirText = (bytes : List ℕ) (script : ScriptValue) → script_of bytes ≡ Ok script → All (λ line. length line ≤ length bytes) script.lines
