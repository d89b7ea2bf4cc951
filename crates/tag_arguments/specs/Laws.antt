-- Public: the name that counts where a text begins with several.
use Rattle.std.specs.Prelude.{◌≡◌, ℕ, ◌<◌, true, nat_eq, ◌⊎◌, List, [], ◌∷◌, ◌++◌, length, Some, None}
use Rattle.std.specs.List.{starts_with}
use Rattle.tag_arguments.specs.Names.{NameRow, tag_names, longest_name}
use Rattle.tag_arguments.specs.declared.kinds.TagName.{TagName}

-- Some row says that this spelling stands for this name.
abbrev pub IsNameRow : List NameRow → List ℕ → TagName → Type 0
IsNameRow [] spelling name = ⊥
IsNameRow (row ∷ rows) spelling name = (row ≡ (spelling, name)) ⊎ IsNameRow rows spelling name

-- A text begins with a spelling of a name of the table.
pub record BeginsWithName (text spelling : List ℕ) (name : TagName) : Type 0 where
  pub listed : IsNameRow tag_names spelling name
  pub begins : starts_with nat_eq text spelling ≡ true

-- The name that is found begins the text, and each other one that does is shorter.
abbrev pub LongestCounts : Type 0
LongestCounts = (text : List ℕ) (name : TagName) (rest : List ℕ) → longest_name text ≡ Some (name, rest)
    → (spelling : List ℕ) × BeginsWithName text spelling name × (text ≡ spelling ++ rest)
    × ((other : List ℕ) (n : TagName) → BeginsWithName text other n → ((other ≡ spelling) × (n ≡ name)) ⊎ (length other < length spelling))

-- Where none is found, the text begins with no name of the table.
abbrev pub NoneIsNone : Type 0
NoneIsNone = (text : List ℕ) → longest_name text ≡ None → (other : List ℕ) (n : TagName) → BeginsWithName text other n → ⊥
