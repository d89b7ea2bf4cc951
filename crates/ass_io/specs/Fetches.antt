-- Public: what a log of fetches tells.
use Rattle.std.specs.Prelude.{◌≡◌, ℕ, List, map, Some, None, slice_get}
use Rattle.ass_io.specs.Fetched.{Held, IsTooLarge}
use Rattle.ass_io.specs.declared.shelf.Fetch.{Fetch}
use Rattle.ass_io.specs.declared.shelf.Fetch.TheVariants.{Got, Missing, Failed, TooLarge, OutOfMemory}

-- A fetch: a name, its answer, and the bytes that were read.
abbrev pub LoggedFetch : Type 0
LoggedFetch = List ℕ × Fetch × List ℕ

abbrev pub fetched_names : List LoggedFetch → List (List ℕ)
fetched_names fetches = map (λ fetch. fetch.0) fetches

-- A list of fetches before and after.
pub record FetchChange : Type 0 where
  pub before : List LoggedFetch
  pub now : List LoggedFetch

abbrev pub fetch_change : List LoggedFetch → List LoggedFetch → FetchChange
fetch_change before now = record { before = before; now = now }

-- What the answer with these bytes gives of what the name holds: these bytes, nothing, or too many. A fetch that failed gives nothing of it.
abbrev pub FetchGives : Fetch → List ℕ → Held → Type 0
FetchGives Got bytes held = held ≡ Some bytes
FetchGives Missing bytes held = held ≡ None
FetchGives TooLarge bytes held = IsTooLarge held
FetchGives Failed bytes held = ⊥
FetchGives OutOfMemory bytes held = ⊥

-- The fetch at this place of the list was of this name, and gave that it holds this.
abbrev pub IsGiven : List LoggedFetch → ℕ → List ℕ → Held → Type 0
IsGiven fetches place name held = (answer : Fetch) × (bytes : List ℕ) × (slice_get fetches place ≡ Some (name, answer, bytes)) × FetchGives answer bytes held
