-- Public: the lines of a text.
use Rattle.std.specs.Prelude.{ℕ, List, map}
use Rattle.bstr.specs.Text.{lines_of, without_terminator}

-- the lines of a text, without the line feeds at their ends and a carriage return before each
abbrev pub text_lines : List ℕ → List (List ℕ)
text_lines bytes = map without_terminator (lines_of bytes)
