-- Public: a line and its parts.
use Rattle.std.specs.Prelude.{ℕ, List}
use Rattle.std.specs.List.{slice_split}
use Rattle.ass_script.specs.Words.{is_comma}

-- the parts of a text between all its commas
abbrev pub pieces_of : List ℕ → List (List ℕ)
pieces_of text = slice_split is_comma text
