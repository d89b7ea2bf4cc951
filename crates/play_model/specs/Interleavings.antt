-- Public: interleavings of lists.
use Rattle.std.specs.Prelude.{◌≡◌, ℕ, zero, suc, ◌+◌, ◌<◌, List, map}
use Rattle.turn_cell.specs.History.{History, IsBelow, entries_of}

-- the items of a labelled list
abbrev pub all_entries : {X : Type 0} → History X → List X
all_entries labelled = map (λ pair. pair.1) labelled

-- The list has of each of so many lists just the items, in their order: each item has a label, and those of one label are one list.
pub record IsInterleaving {X : Type 0} (count : ℕ) (list_of : ℕ → List X) (xs : List X) : Type 0 where
  pub labelled : History X
  pub all : all_entries labelled ≡ xs
  pub below : IsBelow count labelled
  pub each : (i : ℕ) → i < count → entries_of i labelled ≡ list_of i

-- f 0 + .. + f (count - 1)
abbrev pub sum_below : ℕ → (ℕ → ℕ) → ℕ
sum_below zero f = 0
sum_below (suc count) f = sum_below count f + f count
