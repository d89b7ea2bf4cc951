-- Public: what a shelf in memory holds.
use Rattle.std.specs.Prelude.{◌≡◌, ℕ, List, Option, Some, if◌then◌else◌}
use Rattle.std.specs.Option.{option_map}
use Rattle.std.specs.BTreeMap.{get_by_text}
use Rattle.std.specs.Str.{bytes_eq}
use Rattle.ass_io.specs.declared.memory_shelf.MemoryShelf.{MemoryShelf}

-- the bytes under a name
abbrev pub held_by : MemoryShelf → List ℕ → Option (List ℕ)
held_by shelf name = option_map (λ bytes. bytes.items) (get_by_text shelf.files name)

-- The new shelf has these bytes under this name, and is as before under every other.
abbrev pub Replaces : MemoryShelf → MemoryShelf → List ℕ → List ℕ → Type 0
Replaces old new name bytes =
    (other : List ℕ) → held_by new other ≡ (if bytes_eq name other then Some bytes else held_by old other)
