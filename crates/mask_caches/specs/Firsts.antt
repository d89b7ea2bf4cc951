-- Public: a list without what stands earlier in it.
use Rattle.std.specs.Prelude.{Bool, not, List, [], ◌∷◌, filter}

-- the list without what stands earlier in it
abbrev pub firsts : {K : Type 0} → (K → K → Bool) → List K → List K
firsts eq [] = []
firsts eq (k ∷ ks) = k ∷ filter (λ other. not (eq k other)) (firsts eq ks)
