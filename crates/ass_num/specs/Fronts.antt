-- Public: values that stand at the front of a text, whatever follows them.
use Rattle.std.specs.Prelude.{◌≡◌, ℕ, ◌≤◌, List, length, take}

-- The longest front of the text that spells a value has `len` bytes and spells this one.
pub record IsLongestFront {Value : Type 0} (Spells : List ℕ → Value → Type 0) (text : List ℕ) (value : Value) (len : ℕ) : Type 0 where
  pub within : len ≤ length text
  pub spelled : Spells (take len text) value
  pub longest : (longer : ℕ) (other : Value) → longer ≤ length text → Spells (take longer text) other → longer ≤ len

-- The same of a reader that doesn't tell the length.
abbrev pub BeginsWith : {Value : Type 0} → (List ℕ → Value → Type 0) → List ℕ → Value → Type 0
BeginsWith Spells text value = (len : ℕ) × IsLongestFront Spells text value len

-- No front of the text spells a value.
abbrev pub HasNoFront : {Value : Type 0} → (List ℕ → Value → Type 0) → List ℕ → Type 0
HasNoFront {Value} Spells text = (len : ℕ) (value : Value) → Spells (take len text) value → ⊥

-- No bytes spell two values.
abbrev pub SpellsOne : {Value : Type 0} → (List ℕ → Value → Type 0) → Type 0
SpellsOne {Value} Spells = (bytes : List ℕ) (v w : Value) → Spells bytes v → Spells bytes w → v ≡ w
