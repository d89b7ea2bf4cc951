-- Public: what reading one file answers.
use Rattle.std.specs.Prelude.{◌≡◌, ◌⊎◌, ℕ, ◌<◌, ◌≤◌, Bool, true, false, List, [], length, Some, None, Result, Ok, Err}
use Rattle.ass_num.specs.Causes.{Rose, IfTold}
use Rattle.ass_num.specs.Limits.{max_file_bytes}
use Rattle.ass_io.specs.Fetched.{Held, Told}
use Rattle.ass_script.specs.Scripts.{ScriptValue, script_of}
use Rattle.bdf_font.specs.Fonts.{FontValue}
use Rattle.bdf_font.specs.Files.{IsFontFileAnswer}
use Rattle.bdf_font.specs.declared.cause.FontFileRefusal.{FontFileRefusal}
use Rattle.run_status.specs.declared.status.Status.{Status}
use Rattle.run_status.specs.declared.status.Status.TheVariants.{BadWords, Done, NoSuchFile, OutOfMemory, ReadFault, TooLarge, Unwritable, WriteFault}
use Rattle.run_status.specs.declared.status.What.TheVariants.{Bytes}
use Rattle.embedded_fonts.specs.Embedded.{AreEmbeddedFonts}
use Rattle.embedded_fonts.specs.declared.refusal.EmbeddedRefusal.{EmbeddedRefusal}
use Rattle.run_status.specs.declared.font_fault.FontPlace.TheVariants.{Named}
use Rattle.run_status.specs.declared.inputs.Inputs.{Inputs}
use Rattle.run_status.specs.Causes.{embedded_status, script_status, font_status, with_status}

-- What a name holds asks for an answer.
abbrev pub Asks : Type 0 → Type 1
Asks Value = Held → Result Value Status → Type 0

-- What a file is read to: nothing has the name, it holds too many bytes, or what its bytes ask for.
abbrev pub AsksOf : {Value : Type 0} → (List ℕ → Result Value Status → Type 0) → List ℕ → Asks Value
AsksOf asks name None answer = answer ≡ Err (NoSuchFile name)
AsksOf asks name (Some bytes) answer =
    ((length bytes ≤ max_file_bytes) × asks bytes answer) ⊎ ((max_file_bytes < length bytes) × (answer ≡ Err (TooLarge Bytes max_file_bytes)))

abbrev pub AsksBytes : List ℕ → Asks (List ℕ)
AsksBytes = AsksOf (λ bytes answer. answer ≡ Ok bytes)

-- What the bytes of a script ask for of the fonts that it holds, which may be used or not.
abbrev pub OwnFontsAsked : Bool → List ℕ → Result (List FontValue) Status → Type 0
OwnFontsAsked false bytes answer = answer ≡ Ok []
OwnFontsAsked true bytes answer = (fonts : Result (List FontValue) EmbeddedRefusal) × AreEmbeddedFonts bytes fonts × (answer ≡ with_status embedded_status fonts)

-- a script with its own fonts, or the status of the first that isn't read
abbrev pub script_with : Result ScriptValue Status → Result (List FontValue) Status → Result Inputs Status
script_with (Err status) fonts = Err status
script_with (Ok script) (Err status) = Err status
script_with (Ok script) (Ok fonts) = Ok (record { script = script; fonts = fonts })

-- What the bytes of a script ask for.
abbrev pub ScriptAsked : Bool → List ℕ → Result Inputs Status → Type 0
ScriptAsked own_fonts bytes answer =
    (fonts : Result (List FontValue) Status) × OwnFontsAsked own_fonts bytes fonts × (answer ≡ script_with (with_status script_status (script_of bytes)) fonts)

abbrev pub AsksScript : Bool → List ℕ → Asks Inputs
AsksScript own_fonts = AsksOf (ScriptAsked own_fonts)

-- What the bytes of a file of fonts ask for, whose place among the files that the words name is `index`.
abbrev pub FontsAsked : ℕ → List ℕ → Result (List FontValue) Status → Type 0
FontsAsked index bytes answer = (fonts : Result (List FontValue) FontFileRefusal) × IsFontFileAnswer bytes fonts × (answer ≡ with_status (font_status (Named index)) fonts)

abbrev pub AsksFonts : ℕ → List ℕ → Asks (List FontValue)
AsksFonts index = AsksOf (FontsAsked index)

-- What a name may hold asks for the answer.
abbrev pub IsAskedFrom : {Value : Type 0} → Asks Value → (Held → Type 0) → Result Value Status → Type 0
IsAskedFrom asks may answer = (held : Held) × may held × asks held answer

-- What reading a file answers: a fault of this name, out of memory, or what the name may hold asks for. Nothing is done or written, and neither words nor events are looked at.
abbrev pub IsAnsweredFrom : {Value : Type 0} → Asks Value → (Held → Type 0) → List ℕ → Result Value Status → Type 0
IsAnsweredFrom asks may name (Err (ReadFault other)) = other ≡ name
IsAnsweredFrom asks may name (Err OutOfMemory) = Unit {0}
IsAnsweredFrom asks may name (Err Done) = ⊥
IsAnsweredFrom asks may name (Err (WriteFault _)) = ⊥
IsAnsweredFrom asks may name (Err (BadWords _)) = ⊥
IsAnsweredFrom asks may name (Err (Unwritable _ _)) = ⊥
IsAnsweredFrom asks may name answer = IsAskedFrom asks may answer

-- What a name may hold, by what is told of it: that where it is told, and else anything.
abbrev pub MayBeHeld : Told → Held → Type 0
MayBeHeld told held = IfTold told (λ known. known ≡ held)

abbrev pub IsAskedFor : {Value : Type 0} → Asks Value → Told → Result Value Status → Type 0
IsAskedFor asks told answer = IsAskedFrom asks (MayBeHeld told) answer

-- The same of what is told of the name.
abbrev pub IsAnswered : {Value : Type 0} → Asks Value → Told → List ℕ → Result Value Status → Type 0
IsAnswered asks told name answer = IsAnsweredFrom asks (MayBeHeld told) name answer

-- The shelf's count rose where a file couldn't be read, and is as it was after any other answer.
abbrev pub IsAnswerReadCounted : {Value : Type 0} → Result Value Status → ℕ → ℕ → Type 0
IsAnswerReadCounted (Err (ReadFault _)) before now = Rose before now × (before ≤ now)
IsAnswerReadCounted _ before now = now ≡ before
