-- Fonts that are read one after another.
use Rattle.std.proofs.Common.{◌≡◌, ◌≢◌, ℕ, ◌+◌, ◌<◌, refl, List, [], ◌∷◌, ◌++◌, length, Result, Ok, arith}
use Rattle.std.proofs.Common.{inl, inr, Err, length-append, subst, sym, ap, ◌∙◌, append_assoc}
use Rattle.std.proofs.Math.Seq.{get_or-append_seam}
use Rattle.std.proofs.lemmas.Bool.{cases_eq}
use Rattle.std.proofs.lemmas.List.{append-nil, get_or_append_left}
use Rattle.ass_io.specs.Fetched.{Told}
use Rattle.bdf_font.specs.Fonts.{FontValue}
use Rattle.run_words.specs.declared.job.ScriptSource.{ScriptSource}
use Rattle.run_status.specs.declared.inputs.Inputs.{Inputs}
use Rattle.run_status.specs.declared.status.Status.{Status}
use Rattle.run_status.specs.declared.status.Status.TheVariants as status
use Rattle.run_status.specs.Inputs.{AreFilesReadFrom, AreFirstFiles, AreFirstFilesFrom, AreFontFilesRead, AreFontsReadFrom, IsFontFileRead, IsFontFileReadFrom, IsScriptReadFrom}
use Rattle.run_status.specs.Inputs.{MayHold, behind_first, fonts_of_files, told_of}

-- One file more is read.
pub first_more : (may : MayHold) (names : List (List ℕ)) (files : List (List FontValue)) (file : List FontValue) →
    AreFirstFilesFrom may names files → IsFontFileReadFrom may names (length files) (Ok file) → AreFirstFilesFrom may names (files ++ file ∷ [])
first_more may names files file first next = λ index none within.
    elim (cases_eq index (length files)) [
      | inl last ↦ rw (last, get_or-append_seam files file [] none) next
      | inr other ↦
          let before : index < length files = omega (arith, within, length-append files (file ∷ []), other) in
          rw (get_or_append_left files (file ∷ []) none index before) (first index none before)
    ]

-- The same where what is told stays the same.
pub next_first : (told now : List ℕ → Told) (names : List (List ℕ)) (files : List (List FontValue)) (index : ℕ) (file : List FontValue) → now ≡ told → length files ≡ index →
    AreFirstFiles told names files → IsFontFileRead now names index (Ok file) → AreFirstFiles told names (files ++ file ∷ [])
next_first told now names files index file same count first next =
    first_more (told_of told) names files file first (subst (λ n. IsFontFileRead told names n (Ok file)) (sym count) (subst (λ t. IsFontFileRead t names index (Ok file)) same next))

-- No file more is read.
pub stopped : (told now : List ℕ → Told) (names : List (List ℕ)) (files : List (List FontValue)) (index : ℕ) (status : Status) → now ≡ told → length files ≡ index → index < length names →
    AreFirstFiles told names files → IsFontFileRead now names index (Err status) → AreFontFilesRead told names (Err status)
stopped told now names files index status same count within first next =
    (files, omega (arith, count, within), first, subst (λ n. IsFontFileRead told names n (Err status)) (sym count) (subst (λ t. IsFontFileRead t names index (Err status)) same next))

-- The fonts of one file more.
pub files_more : (files : List (List FontValue)) (file : List FontValue) → fonts_of_files (files ++ file ∷ []) ≡ fonts_of_files files ++ file
files_more [] file = append-nil file
files_more (first ∷ files) file = ap (λ fonts. first ++ fonts) (files_more files file) ∙ sym (append_assoc first (fonts_of_files files) file)

-- What was read of the first `index` files.
pub record ReadSoFar (told : List ℕ → Told) (names : List (List ℕ)) (index : ℕ) (fonts : List FontValue) : Type 0 where
  pub files : List (List FontValue)
  pub count : length files ≡ index
  pub first : AreFirstFiles told names files
  pub fonts_are : fonts ≡ fonts_of_files files

pub read_none : (told : List ℕ → Told) (names : List (List ℕ)) (fonts : List FontValue) → fonts ≡ [] → ReadSoFar told names 0 fonts
read_none told names fonts e = record { files = []; count = refl; first = λ index none within. absurd (omega (arith, within)); fonts_are = e }

pub read_more : (told now : List ℕ → Told) (names : List (List ℕ)) (index : ℕ) (fonts all : List FontValue) (file : List FontValue) → now ≡ told → ReadSoFar told names index fonts →
    IsFontFileRead now names index (Ok file) → all ≡ fonts ++ file → ReadSoFar told names (index + 1) all
read_more told now names index fonts all file same so next e = record {
  files = so.files ++ file ∷ [];
  count = length-append so.files (file ∷ []) ∙ ap (λ n. n + 1) so.count;
  first = next_first told now names so.files index file same so.count so.first next;
  fonts_are = e ∙ (ap (λ fonts. fonts ++ file) so.fonts_are ∙ sym (files_more so.files file));
}

abbrev pub no_fonts : Status → Result (List FontValue) Status
no_fonts why = Err why

-- Fonts that can't be read behind a script that is; of want of memory nothing is said.
pub fonts_refused : (may : MayHold) (script : ScriptSource) (fonts : List (List ℕ)) (read : Inputs) (why : Status) → IsScriptReadFrom may script (Ok read) →
    (no_fonts why ≢ no_fonts status.OutOfMemory → AreFontsReadFrom (behind_first may) fonts read.fonts (Err why)) → AreFilesReadFrom may script fonts (Err why)
fonts_refused may script fonts read status.OutOfMemory is h = inl tt
fonts_refused may script fonts read status.Done is h = inr (read, is, h (λ e. cc))
fonts_refused may script fonts read (status.BadWords fault) is h = inr (read, is, h (λ e. cc))
fonts_refused may script fonts read (status.NoSuchFile name) is h = inr (read, is, h (λ e. cc))
fonts_refused may script fonts read (status.ReadFault name) is h = inr (read, is, h (λ e. cc))
fonts_refused may script fonts read (status.BadScript cause) is h = inr (read, is, h (λ e. cc))
fonts_refused may script fonts read (status.BadFont place fault) is h = inr (read, is, h (λ e. cc))
fonts_refused may script fonts read (status.WriteFault which) is h = inr (read, is, h (λ e. cc))
fonts_refused may script fonts read (status.TooLarge what limit) is h = inr (read, is, h (λ e. cc))
fonts_refused may script fonts read (status.Unwritable order field) is h = inr (read, is, h (λ e. cc))
