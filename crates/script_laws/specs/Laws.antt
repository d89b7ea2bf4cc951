-- Public: what a text spells is a script.
use Rattle.std.specs.Prelude.{◌≡◌, ℕ, List, Ok}
use Rattle.ass_script.specs.Ranges.{IsScript}
use Rattle.ass_script.specs.Scripts.{ScriptValue, script_of}

-- Each script that is read from some bytes is one, whatever the bytes.
abbrev pub TextsSpellScripts : Type 0
TextsSpellScripts = (bytes : List ℕ) (script : ScriptValue) → script_of bytes ≡ Ok script → IsScript script
