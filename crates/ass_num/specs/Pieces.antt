-- Public: a list of lists that is kept flat: the items one after another, cut at ascending ends.
use Rattle.std.specs.Prelude.{◌≡◌, ℕ, ◌-◌, ◌≤◌, zero, suc, List, [], ◌∷◌, take, drop, slice_index}

-- the lists between the ends, where the first begins at `from`
abbrev pub pieces : {X : Type 0} → ℕ → List ℕ → List X → List (List X)
pieces from [] xs = []
pieces from (e ∷ ends) xs = take (e - from) (drop from xs) ∷ pieces e ends xs

-- The ends ascend from `from`, and the last of them is `count`.
abbrev pub IsCut : ℕ → List ℕ → ℕ → Type 0
IsCut from [] count = from ≡ count
IsCut from (e ∷ ends) count = (from ≤ e) × IsCut e ends count

-- where piece k begins, which is where the one before it ends
abbrev pub start : ℕ → List ℕ → ℕ → ℕ
start from ends zero = from
start from ends (suc k) = slice_index ends k
