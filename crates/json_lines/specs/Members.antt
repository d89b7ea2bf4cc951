-- Public: what lines of JSON are put together from.
use Rattle.std.specs.Prelude.{ℕ, List, [], ◌∷◌, ◌++◌, codes, decimal, flat_map}
use Rattle.json.specs.Print.{print}
use Rattle.json.specs.Token.{Token, begin_array, begin_object, end_array, end_object, key, number, string}

-- A line is the text of its tokens, without a space, and a line feed.
abbrev pub json_line : List Token → List ℕ
json_line tokens = print tokens ++ codes "\n"

-- an object of members
abbrev pub object_of : List Token → List Token
object_of members = begin_object ∷ members ++ end_object ∷ []

abbrev pub number_token : ℕ → Token
number_token n = number (decimal n)

-- a member that is a number
abbrev pub number_member : List ℕ → ℕ → List Token
number_member name n = key name ∷ number_token n ∷ []

-- a member that is a text
abbrev pub text_member : List ℕ → List ℕ → List Token
text_member name text = key name ∷ string text ∷ []

-- an array of numbers
abbrev pub number_array : List ℕ → List Token
number_array numbers = begin_array ∷ flat_map (λ n. number_token n ∷ []) numbers ++ end_array ∷ []
