-- Public: what a drawing says, byte by byte: letters of commands, numbers, and what means nothing.
use Rattle.std.specs.Prelude.{◌≡◌, ℕ, ℤ, ◌==◌, codes, if◌then◌else◌, Option, Some, None, List, [], ◌∷◌, drop}
use Rattle.std.specs.List.{list_any}
use Rattle.ass_num.specs.Fronts.{IsLongestFront, HasNoFront}
use Rattle.ass_num.specs.Numerals.{IsMilli}
use Rattle.drawing_path.specs.declared.command.Command.{Command}
use Rattle.drawing_path.specs.declared.command.Command.TheVariants.{Begin, Lines, Cubics, NewSpline, Extend, Close}

-- the letters of each command, in lower case alone
abbrev pub command_letters : List (List ℕ × Command)
command_letters =
    (codes "mn", Begin) ∷ (codes "l", Lines) ∷ (codes "b", Cubics) ∷ (codes "s", NewSpline) ∷ (codes "p", Extend) ∷ (codes "c", Close) ∷ []

-- the command of the first row that has the letter
abbrev pub command_in : List (List ℕ × Command) → ℕ → Option Command
command_in [] letter = None
command_in (row ∷ rows) letter = if list_any (λ c. c == letter) row.0 then Some row.1 else command_in rows letter

-- the command that a letter chooses
abbrev pub command_of : ℕ → Option Command
command_of letter = command_in command_letters letter

pub data Token : Type 0 where
  Letter : Command → Token
  Number : ℤ → Token
  Skipped : Token

-- The token at the front of a text and how many bytes it takes, the first of these cases that holds:
-- the letter of a command; a number in thousandths, as long as it can be; any other byte, which means nothing.
abbrev pub IsToken : List ℕ → Token → ℕ → Type 0
IsToken [] _ len = ⊥
IsToken (first ∷ text) (Letter command) len = (command_of first ≡ Some command) × (len ≡ 1)
IsToken (first ∷ text) (Number value) len = (command_of first ≡ None) × IsLongestFront IsMilli (first ∷ text) value len
IsToken (first ∷ text) Skipped len = (command_of first ≡ None) × HasNoFront IsMilli (first ∷ text) × (len ≡ 1)

-- All tokens of a text: the one at its front, then those of the rest.
abbrev pub AreTokens : List Token → List ℕ → Type 0
AreTokens [] text = text ≡ []
AreTokens (token ∷ tokens) text = (len : ℕ) × IsToken text token len × AreTokens tokens (drop len text)
