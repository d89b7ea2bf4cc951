-- Public: lists of keys and items, the most recently used first.
use Rattle.std.specs.Prelude.{◌≡◌, ℕ, ◌+◌, None, Bool, false, ◌||◌, if◌then◌else◌, List, [], ◌∷◌}
use Rattle.std.specs.Map.{lookup, lookup_entry, remove_entry}
use Rattle.std.specs.Option.{option_map_or}

module _ {K X : Type 0} where
  -- some item passes
  abbrev pub some_passes : (X → Bool) → List (K × X) → Bool
  some_passes test [] = false
  some_passes test (e ∷ es) = some_passes test es || test e.1

  -- without the least recent entry whose item passes
  abbrev pub without_last : (X → Bool) → List (K × X) → List (K × X)
  without_last test [] = []
  without_last test (e ∷ es) = if some_passes test es then e ∷ without_last test es else (if test e.1 then es else e ∷ es)

  -- the sum of what each item weighs
  abbrev pub total : (X → ℕ) → List (K × X) → ℕ
  total weight [] = 0
  total weight (e ∷ es) = weight e.1 + total weight es

  -- the item of the first key that passes is changed, and its entry becomes the most recent
  abbrev pub to_front : (K → Bool) → (X → X) → List (K × X) → List (K × X)
  to_front test f es = option_map_or (λ e. (e.0, f e.1) ∷ remove_entry test es) (lookup_entry test es) es

  -- the item of the first key that passes is changed where it is
  abbrev pub change : (K → Bool) → (X → X) → List (K × X) → List (K × X)
  change test f [] = []
  change test f (e ∷ es) = if test e.0 then (e.0, f e.1) ∷ es else e ∷ change test f es

-- keys of which no two are the same
abbrev pub Apart : {K X : Type 0} → (K → K → Bool) → List (K × X) → Type 0
Apart eq [] = Unit {0}
Apart eq (e ∷ es) = (lookup (eq e.0) es ≡ None) × Apart eq es
