-- A list that becomes another one item by item, or nothing.
use Rattle.std.proofs.Common.{List, ◌++◌, Option}
use Rattle.std.specs.Prelude.{option_map}

-- what was done, and all others
abbrev pub done_and : {X : Type 0} → List X → Option (List X) → Option (List X)
done_and done others = option_map (λ rest. done ++ rest) others
