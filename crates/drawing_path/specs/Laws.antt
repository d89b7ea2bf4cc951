-- Public: each text has one path.
use Rattle.std.specs.Prelude.{◌≡◌, ℕ, List}
use Rattle.ass_num.specs.declared.geometry.Seg.{Seg}
use Rattle.drawing_path.specs.Paths.{IsPathOf}

-- A text has a path,
abbrev pub HasPath : Type 0
HasPath = (text : List ℕ) → (path : List Seg) × IsPathOf text path

-- and no two.
abbrev pub OnePath : Type 0
OnePath = (text : List ℕ) (a b : List Seg) → IsPathOf text a → IsPathOf text b → a ≡ b
