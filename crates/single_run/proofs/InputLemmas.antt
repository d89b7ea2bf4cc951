-- What is read for a task is what the task needs.
use Rattle.std.proofs.Common.{◌≡◌, inl, inr, ℕ, ◌<◌, ◌≤◌, Bool, List, length, All, Some, None, Result, Ok, Err, ap, sym, subst, arith}
use Rattle.std.proofs.lemmas.List.Elements.{All-weaker}
use Rattle.ass_io.specs.Fetched.{Held, Told}
use Rattle.ass_num.specs.Limits.{max_file_bytes, max_text_bytes}
use Rattle.ass_script.specs.Scripts.{ScriptValue, script_of}
use Rattle.ass_script.specs.declared.refusal.ScriptRefusal.{ScriptRefusal}
use Rattle.bdf_font.specs.Ranges.{IsFont}
use Rattle.run_status.specs.Causes.{script_status, with_status}
use Rattle.run_status.specs.Files.{AsksScript, script_with}
use Rattle.run_status.specs.Inputs.{AreFilesRead, AreRead, IsScriptRead}
use Rattle.run_status.proofs.SetLemmas.{fonts_some}
use Rattle.run_words.specs.declared.job.ScriptSource.{ScriptSource}
use Rattle.bdf_font.specs.Fonts.{FontValue}
use Rattle.run_status.specs.declared.inputs.Inputs.{Inputs}
use Rattle.run_status.specs.declared.status.Status.{Status}
use Rattle.ass_events.specs.LineLaws.{HasShortLines, LinesFitTheirText}
use Rattle.text_layout.specs.Fonts.{IsLayoutFontSet}
use Rattle.single_run.specs.Works.{AreInputsOf, IsTaskIn}
use Rattle.single_run.specs.declared.work.Task.{Task}
use Rattle.single_run.specs.declared.work.Task.TheVariants.{Changes, Check, Frame, Stills, Write}

abbrev script_or : ScriptValue → Result ScriptValue Status → ScriptValue
script_or otherwise (Ok script) = script
script_or otherwise (Err status) = otherwise

pub script_in : (answer : Result ScriptValue ScriptRefusal) (script : ScriptValue) → Ok script ≡ with_status script_status answer → answer ≡ Ok script
script_in (Ok other) script e = let same : other ≡ script = sym (ap (script_or script) e) in ap (λ (s : ScriptValue). Ok s) same
script_in (Err refusal) script e = absurd cc

pub read_with : (answer : Result ScriptValue ScriptRefusal) (fonts : Result (List FontValue) Status) (inputs : Inputs) → Ok inputs ≡ script_with (with_status script_status answer) fonts → answer ≡ Ok inputs.script
read_with (Ok script) (Ok fonts) inputs e =
    let same : inputs ≡ record { script = script; fonts = fonts } = cc in
    ap (λ (s : ScriptValue). Ok s) (sym (ap (λ (i : Inputs). i.script) same))
read_with (Ok script) (Err status) inputs e = absurd cc
read_with (Err refusal) fonts inputs e = absurd cc

-- No line of a script is longer than a file may be.
pub source_lines : LinesFitTheirText → (bytes : List ℕ) (script : ScriptValue) → length bytes ≤ max_file_bytes → script_of bytes ≡ Ok script → All (λ line. length line ≤ max_file_bytes) script.lines
source_lines fit bytes script small is =
    All-weaker (λ (line : List ℕ). length line ≤ length bytes) (λ (line : List ℕ). length line ≤ max_file_bytes) (λ line l. omega (arith, l, small)) script.lines (fit bytes script is)

held_lines : LinesFitTheirText → (own_fonts : Bool) (name : List ℕ) (held : Held) (inputs : Inputs) → AsksScript own_fonts name held (Ok inputs) → All (λ line. length line ≤ max_file_bytes) inputs.script.lines
held_lines fit own_fonts name None inputs e = absurd cc
held_lines fit own_fonts name (Some bytes) inputs (inl (small, (fonts, own, e))) =
    source_lines fit bytes inputs.script small (read_with (script_of bytes) fonts inputs e)
held_lines fit own_fonts name (Some bytes) inputs (inr (large, e)) = absurd cc

pub file_lines : LinesFitTheirText → (told : List ℕ → Told) (script : ScriptSource) (inputs : Inputs) → IsScriptRead told script (Ok inputs) → All (λ line. length line ≤ max_file_bytes) inputs.script.lines
file_lines fit told script inputs read = held_lines fit script.own_fonts script.name read.0 inputs read.2

-- A script that is read has short lines.
pub short_lines : LinesFitTheirText → (told : List ℕ → Told) (script : ScriptSource) (inputs : Inputs) → IsScriptRead told script (Ok inputs) → HasShortLines inputs.script
short_lines fit told script inputs read =
    All-weaker (λ (line : List ℕ). length line ≤ max_file_bytes) (λ (line : List ℕ). length line ≤ max_text_bytes) (λ line l. omega (arith, l)) inputs.script.lines (file_lines fit told script inputs read)

-- The same of what is read with other fonts.
pub inputs_lines : LinesFitTheirText → (told : List ℕ → Told) (script : ScriptSource) (fonts : List (List ℕ)) (inputs : Inputs) → AreFilesRead told script fonts (Ok inputs) → HasShortLines inputs.script
inputs_lines fit told script fonts inputs (read, is, same, behind) = subst HasShortLines (sym same) (short_lines fit told script read is)

-- The fonts of some files are from 1 to 64.
pub font_set : (told : List ℕ → Told) (script : ScriptSource) (names : List (List ℕ)) (inputs : Inputs) → 0 < length names → AreFilesRead told script names (Ok inputs) → All IsFont inputs.fonts → IsLayoutFontSet inputs.fonts
font_set told script names inputs some (read, is, same, behind) each =
    let counts = fonts_some told names read.fonts inputs.fonts some behind in
    record { some = counts.0; few = counts.1; each = each }

-- A script's lines are short, and a picture has from 1 to 64 fonts.
pub inputs_suit : LinesFitTheirText → (told : List ℕ → Told) (task : Task) (script : ScriptSource) (fonts : List (List ℕ)) (inputs : Inputs) →
    IsTaskIn fonts task → AreRead told script fonts (Ok inputs) → All IsFont inputs.fonts → AreInputsOf task inputs
inputs_suit fit told Check script fonts inputs suits read each = tt
inputs_suit fit told (Frame frame) script fonts inputs suits (inr (many, e)) each = absurd cc
inputs_suit fit told (Frame frame) script fonts inputs suits (inl (few, read)) each =
    (suits.0, inputs_lines fit told script fonts inputs read, font_set told script fonts inputs suits.1 read each)
inputs_suit fit told (Changes changes) script fonts inputs suits (inr (many, e)) each = absurd cc
inputs_suit fit told (Changes changes) script fonts inputs suits (inl (few, read)) each =
    (suits.0, inputs_lines fit told script fonts inputs read, font_set told script fonts inputs suits.1 read each)
inputs_suit fit told (Stills stills) script fonts inputs suits (inr (many, e)) each = absurd cc
inputs_suit fit told (Stills stills) script fonts inputs suits (inl (few, read)) each =
    (suits.0, inputs_lines fit told script fonts inputs read, font_set told script fonts inputs suits.1 read each)
inputs_suit fit told (Write write) script fonts inputs suits (inr (many, e)) each = absurd cc
inputs_suit fit told (Write write) script fonts inputs suits (inl (few, read)) each = (suits, inputs_lines fit told script fonts inputs read)
