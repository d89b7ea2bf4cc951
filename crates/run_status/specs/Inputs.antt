-- Public: what reading a script and fonts answers.
use Rattle.std.specs.Prelude.{◌≡◌, ◌⊎◌, ℕ, suc, ◌<◌, ◌≤◌, List, ◌++◌, length, flat_map, slice_index_or, Result, Ok, Err}
use Rattle.ass_io.specs.Fetched.{Held, Told}
use Rattle.bdf_font.specs.Fonts.{FontValue}
use Rattle.bdf_font.specs.Limits.{max_fonts}
use Rattle.run_status.specs.declared.status.Status.{Status}
use Rattle.run_status.specs.declared.status.Status.TheVariants.{TooLarge}
use Rattle.run_status.specs.declared.status.What.TheVariants.{Fonts}
use Rattle.run_status.specs.declared.inputs.Inputs.{Inputs}
use Rattle.run_words.specs.declared.job.ScriptSource.{ScriptSource}
use Rattle.run_status.specs.Files.{AsksFonts, AsksScript, IsAnsweredFrom, MayBeHeld}

-- What the files of a job may hold, by their places and their names.
abbrev pub MayHold : Type 1
MayHold = ℕ → List ℕ → Held → Type 0

-- the same of those behind the first
abbrev pub behind_first : MayHold → MayHold
behind_first may place name = may (suc place) name

-- what is told of them, by their names
abbrev pub told_of : (List ℕ → Told) → MayHold
told_of told place name = MayBeHeld (told name)

-- What reading the script with its own fonts answers, which is the first file.
abbrev pub IsScriptReadFrom : MayHold → ScriptSource → Result Inputs Status → Type 0
IsScriptReadFrom may script answer = IsAnsweredFrom (AsksScript script.own_fonts script.name) (may 0 script.name) script.name answer

-- What reading the file of fonts at `index` answers.
abbrev pub IsFontFileReadFrom : MayHold → List (List ℕ) → ℕ → Result (List FontValue) Status → Type 0
IsFontFileReadFrom may names index answer =
    (none : List ℕ) → IsAnsweredFrom (AsksFonts index (slice_index_or names index none)) (may index (slice_index_or names index none)) (slice_index_or names index none) answer

-- The first files have these fonts.
abbrev pub AreFirstFilesFrom : MayHold → List (List ℕ) → List (List FontValue) → Type 0
AreFirstFilesFrom may names files = (index : ℕ) (none : List FontValue) → index < length files → IsFontFileReadFrom may names index (Ok (slice_index_or files index none))

-- What reading files of fonts answers: the fonts of each, or the status of the first that can't be read.
abbrev pub AreFontFilesReadFrom : MayHold → List (List ℕ) → Result (List (List FontValue)) Status → Type 0
AreFontFilesReadFrom may names (Ok files) = (length files ≡ length names) × AreFirstFilesFrom may names files
AreFontFilesReadFrom may names (Err status) =
    (files : List (List FontValue)) × (length files < length names) × AreFirstFilesFrom may names files × IsFontFileReadFrom may names (length files) (Err status)

-- the fonts of files, in their order
abbrev pub fonts_of_files : List (List FontValue) → List FontValue
fonts_of_files files = flat_map (λ file. file) files

-- What reading the fonts of files answers, behind which those of the script stand: all of them, or the status of the first file that can't be read, or that they are too many.
abbrev pub AreFontsReadFrom : MayHold → List (List ℕ) → List FontValue → Result (List FontValue) Status → Type 0
AreFontsReadFrom may names own (Ok fonts) =
    (files : List (List FontValue)) × AreFontFilesReadFrom may names (Ok files) × (fonts ≡ fonts_of_files files ++ own) × (length fonts ≤ max_fonts)
AreFontsReadFrom may names own (Err status) = AreFontFilesReadFrom may names (Err status)
    ⊎ ((files : List (List FontValue)) × AreFontFilesReadFrom may names (Ok files) × (max_fonts < length (fonts_of_files files ++ own)) × (status ≡ TooLarge Fonts max_fonts))

-- What reading a script and then fonts answers, of which there are not too many.
abbrev pub AreFilesReadFrom : MayHold → ScriptSource → List (List ℕ) → Result Inputs Status → Type 0
AreFilesReadFrom may script fonts (Ok inputs) =
    (read : Inputs) × IsScriptReadFrom may script (Ok read) × (inputs.script ≡ read.script) × AreFontsReadFrom (behind_first may) fonts read.fonts (Ok inputs.fonts)
AreFilesReadFrom may script fonts (Err status) =
    IsScriptReadFrom may script (Err status) ⊎ ((read : Inputs) × IsScriptReadFrom may script (Ok read) × AreFontsReadFrom (behind_first may) fonts read.fonts (Err status))

-- ---- by what is told of the names

abbrev pub IsScriptRead : (List ℕ → Told) → ScriptSource → Result Inputs Status → Type 0
IsScriptRead told script answer = IsScriptReadFrom (told_of told) script answer

abbrev pub IsFontFileRead : (List ℕ → Told) → List (List ℕ) → ℕ → Result (List FontValue) Status → Type 0
IsFontFileRead told names index answer = IsFontFileReadFrom (told_of told) names index answer

abbrev pub AreFirstFiles : (List ℕ → Told) → List (List ℕ) → List (List FontValue) → Type 0
AreFirstFiles told names files = AreFirstFilesFrom (told_of told) names files

abbrev pub AreFontFilesRead : (List ℕ → Told) → List (List ℕ) → Result (List (List FontValue)) Status → Type 0
AreFontFilesRead told names answer = AreFontFilesReadFrom (told_of told) names answer

abbrev pub AreFontsRead : (List ℕ → Told) → List (List ℕ) → List FontValue → Result (List FontValue) Status → Type 0
AreFontsRead told names own answer = AreFontsReadFrom (told_of told) names own answer

abbrev pub AreFilesRead : (List ℕ → Told) → ScriptSource → List (List ℕ) → Result Inputs Status → Type 0
AreFilesRead told script fonts answer = AreFilesReadFrom (told_of told) script fonts answer

-- What reading the inputs of a job answers.
abbrev pub AreRead : (List ℕ → Told) → ScriptSource → List (List ℕ) → Result Inputs Status → Type 0
AreRead told script fonts answer =
    ((length fonts ≤ max_fonts) × AreFilesRead told script fonts answer) ⊎ ((max_fonts < length fonts) × (answer ≡ Err (TooLarge Fonts max_fonts)))
