-- Public: arguments that are numbers, colours and alphas, and the pieces between commas.
use Rattle.std.specs.Prelude.{◌≡◌, ◌≢◌, ℕ, ◌==◌, ◌≤◌, Bool, false, MatchBool, if◌then◌else◌, ℤ, List, [], ◌∷◌, length, Option, Some, None}
use Rattle.std.specs.List.{slice_split}
use Rattle.ass_num.specs.Bytes.{comma}
use Rattle.ass_num.specs.Fronts.{BeginsWith, HasNoFront}
use Rattle.ass_num.specs.Numerals.{IsMilli, is_sign}
use Rattle.ass_num.specs.Blanks.{trimmed}

-- An argument that may be empty. Where it isn't, its front spells a value; none is read where no front does.
abbrev pub ReadsOptional : {V : Type 0} → (List ℕ → V → Type 0) → List ℕ → Option (Option V) → Type 0
ReadsOptional Spells argument None = (argument ≢ []) × HasNoFront Spells argument
ReadsOptional Spells argument (Some None) = argument ≡ []
ReadsOptional Spells argument (Some (Some value)) = (argument ≢ []) × BeginsWith Spells argument value

-- a `+` or a `-` stands at the front
abbrev pub begins_signed : List ℕ → Bool
begins_signed [] = false
begins_signed (c ∷ _) = is_sign c

-- An argument that may be empty, or else is a number without a sign.
abbrev pub ReadsUnsigned : List ℕ → Option (Option ℤ) → Type 0
ReadsUnsigned argument value = MatchBool (begins_signed argument) (value ≡ None) (ReadsOptional IsMilli argument value)

-- The front of an argument spells a value; none is read where no front does.
abbrev pub ReadsFront : {V : Type 0} → (List ℕ → V → Type 0) → List ℕ → Option V → Type 0
ReadsFront Spells argument None = HasNoFront Spells argument
ReadsFront Spells argument (Some value) = BeginsWith Spells argument value

-- the text between commas
abbrev pub comma_pieces : List ℕ → List (List ℕ)
comma_pieces text = slice_split (λ c. c == comma) text

-- a last piece, unless it is blank
abbrev pub unless_blank : List ℕ → List (List ℕ)
unless_blank piece = if length (trimmed piece) == 0 then [] else piece ∷ []

-- the pieces without the last one where that is blank
abbrev pub without_blank_last : List (List ℕ) → List (List ℕ)
without_blank_last [] = []
without_blank_last (piece ∷ []) = unless_blank piece
without_blank_last (piece ∷ (next ∷ more)) = piece ∷ without_blank_last (next ∷ more)

-- the pieces that count, where a blank last one may be dropped
abbrev pub counted_pieces : Bool → List ℕ → List (List ℕ)
counted_pieces drops_blank text = if drops_blank then without_blank_last (comma_pieces text) else comma_pieces text

-- the same of what stands behind a comma, where one is left
abbrev pub left_pieces : Bool → Option (List ℕ) → List (List ℕ)
left_pieces drops_blank None = []
left_pieces drops_blank (Some rest) = counted_pieces drops_blank rest

-- Each piece, without blanks at its ends, begins with its number.
abbrev pub AreNumbers : List (List ℕ) → List ℤ → Type 0
AreNumbers [] [] = Unit {0}
AreNumbers (piece ∷ pieces) (value ∷ values) = BeginsWith IsMilli (trimmed piece) value × AreNumbers pieces values
AreNumbers _ _ = ⊥

-- the pieces are numbers, of which there are at most seven
abbrev pub AreFewNumbers : List (List ℕ) → List ℤ → Type 0
AreFewNumbers pieces values = (length values ≤ 7) × AreNumbers pieces values

-- These are the numbers of the pieces; none are read where some piece isn't a number, or there are more than seven.
abbrev pub ReadsNumbers : List (List ℕ) → Option (List ℤ) → Type 0
ReadsNumbers pieces (Some values) = AreFewNumbers pieces values
ReadsNumbers pieces None = (values : List ℤ) → AreFewNumbers pieces values → ⊥

-- the same of an argument in brackets; none are read without a bracket
abbrev pub ReadsBracketed : Option (List ℕ) → Option (List ℤ) → Type 0
ReadsBracketed None values = values ≡ None
ReadsBracketed (Some inside) values = ReadsNumbers (comma_pieces inside) values
