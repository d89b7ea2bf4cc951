-- Names one after the other.
use Rattle.std.proofs.Common.{◌≡◌, ℕ, ◌+◌, ◌<◌, List, [], ◌∷◌, ◌++◌, length, take, sym, ap, ◌∙◌}
use Rattle.std.proofs.lemmas.List.{flat_map_more, take_more}
use Rattle.std.specs.List.{flat_map}
use Rattle.std.specs.Prelude.{slice_index_or}
use Rattle.vimalorua_c.specs.Fonts.{ended_name}

-- one name more
pub names_more : (front : List ℕ) (names : List (List ℕ)) (k : ℕ) → k < length names
    → (front ++ flat_map ended_name (take k names)) ++ ended_name (slice_index_or names k []) ≡ front ++ flat_map ended_name (take (k + 1) names)
names_more front names k below =
    flat_map_more ended_name front (take k names) (slice_index_or names k [])
    ∙ ap (λ (xs : List (List ℕ)). front ++ flat_map ended_name xs) (sym (take_more names k [] below))
