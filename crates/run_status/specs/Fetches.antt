-- Public: what is read, by what fetches gave.
use Rattle.std.specs.Prelude.{◌≡◌, ◌⊎◌, ℕ, ◌<◌, ◌≤◌, List, [], ◌∷◌, ◌++◌, length, take, slice_index_or, Result, Err}
use Rattle.ass_io.specs.Fetches.{FetchChange, FetchGives, IsGiven, LoggedFetch, fetched_names}
use Rattle.ass_io.specs.declared.shelf.Fetch.{Fetch}
use Rattle.bdf_font.specs.Fonts.{FontValue}
use Rattle.bdf_font.specs.Limits.{max_fonts}
use Rattle.run_status.specs.declared.status.Status.{Status}
use Rattle.run_status.specs.declared.status.Status.TheVariants.{OutOfMemory, TooLarge}
use Rattle.run_status.specs.declared.status.What.TheVariants.{Fonts}
use Rattle.run_status.specs.declared.inputs.Inputs.{Inputs}
use Rattle.run_words.specs.declared.job.ScriptSource.{ScriptSource}
use Rattle.run_status.specs.Files.{Asks, AsksFonts, IsAnsweredFrom}
use Rattle.run_status.specs.Inputs.{AreFilesReadFrom, AreFontsReadFrom}

-- The name was fetched once, and what that gave asks for the answer; or memory ran out before.
abbrev pub IsFileFetched : {Value : Type 0} → Asks Value → List ℕ → FetchChange → Result Value Status → Type 0
IsFileFetched asks name log answer =
    ((fetch : Fetch) × (bytes : List ℕ) × (log.now ≡ log.before ++ (name, fetch, bytes) ∷ []) × IsAnsweredFrom asks (FetchGives fetch bytes) name answer)
    ⊎ ((log.now ≡ log.before) × (answer ≡ Err OutOfMemory))

-- The same of the file of fonts at `index`.
abbrev pub IsFontFileFetched : List (List ℕ) → ℕ → FetchChange → Result (List FontValue) Status → Type 0
IsFontFileFetched names index log answer =
    (none : List ℕ) → IsFileFetched (AsksFonts index (slice_index_or names index none)) (slice_index_or names index none) log answer

-- The first of these names were fetched, in their order.
pub record AreFirstFetched (names : List (List ℕ)) (log : FetchChange) (fetches : List LoggedFetch) : Type 0 where
  pub added : log.now ≡ log.before ++ fetches
  pub order : fetched_names fetches ≡ take (length fetches) names

-- Files of fonts were fetched, and what that gave asks for the answer; of want of memory nothing is said.
pub record AreFontsFetched (names : List (List ℕ)) (own : List FontValue) (log : FetchChange) (answer : Result (List FontValue) Status) : Type 0 where
  pub fetches : List LoggedFetch
  pub first : AreFirstFetched names log fetches
  pub read : (answer ≡ Err OutOfMemory → ⊥) → AreFontsReadFrom (IsGiven fetches) names own answer

-- A script and then fonts were fetched, and what that gave asks for the answer.
pub record AreFilesFetched (script : ScriptSource) (fonts : List (List ℕ)) (log : FetchChange) (answer : Result Inputs Status) : Type 0 where
  pub fetches : List LoggedFetch
  pub first : AreFirstFetched (script.name ∷ fonts) log fetches
  pub read : AreFilesReadFrom (IsGiven fetches) script fonts answer

-- Of the files of a job, the script and then the fonts, the first ones were fetched, in their order and each once, and what that gave asks for the answer; how many more than that takes isn't said. None was fetched where there are too many fonts.
abbrev pub AreFetched : ScriptSource → List (List ℕ) → FetchChange → Result Inputs Status → Type 0
AreFetched script fonts log answer =
    ((length fonts ≤ max_fonts) × AreFilesFetched script fonts log answer) ⊎ ((max_fonts < length fonts) × (log.now ≡ log.before) × (answer ≡ Err (TooLarge Fonts max_fonts)))
