-- Inner: what a step of the reader leads to, and the rows of a bitmap.
use Rattle.std.specs.Prelude.{◌≡◌, ℕ, List, ◌++◌, Result, Ok, Err}
use Rattle.hex.specs.declared.error.FromHexError.{FromHexError}
use Rattle.bdf_font.specs.declared.cause.FontCause.{FontCause}
use Rattle.bdf_font.specs.declared.cause.FontCause.TheVariants.{BadRow}
use Rattle.bdf_font.specs.declared.cause.Stop.{Stop}
use Rattle.bdf_font.specs.declared.cause.Stop.TheVariants as stop

-- What a line leads to: the walk goes on, the font ends here, the line leaves the format, or a glyph too many begins.
pub data Outcome (S : Type 0) : Type 0 where
  Next : S → Outcome S
  End : S → Outcome S
  Fault : FontCause → Outcome S
  Full : Outcome S

abbrev pub outcome_map : {S T : Type 0} → (S → T) → Outcome S → Outcome T
outcome_map f (Next s) = Next (f s)
outcome_map f (End s) = End (f s)
outcome_map f (Fault cause) = Fault cause
outcome_map f Full = Full

-- The call read the line so, unless memory ran out.
abbrev pub Gives : {S : Type 0} → Result (Unit {0}) Stop → S → Outcome S → Type 0
Gives (Ok _) new outcome = outcome ≡ Next new
Gives (Err stop.End) new outcome = outcome ≡ End new
Gives (Err (stop.Fault cause)) new outcome = outcome ≡ Fault cause
Gives (Err stop.Full) new outcome = outcome ≡ Full
Gives (Err stop.OutOfMemory) new outcome = Unit {0}

-- a row: its bytes come behind those of the rows above
abbrev pub row_pushed : Result (List ℕ) FromHexError → List ℕ → Outcome (List ℕ)
row_pushed (Ok row) bits = Next (bits ++ row)
row_pushed (Err _) bits = Fault BadRow
