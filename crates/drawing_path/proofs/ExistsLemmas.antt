-- Each text has tokens, and so a path.
use Rattle.std.proofs.Common.{◌≡◌, ◌≢◌, ℕ, zero, suc, min, ◌+◌, ◌*◌, ◌/◌, ◌^◌, ◌<◌, ◌≤◌, inl, inr, ◌⊎◌, Option, Some, None, List, [], ◌∷◌, length, take, drop, get_or, refl, arith, length-drop}
use Rattle.std.proofs.lemmas.Bool.{cases_lt}
use Rattle.std.proofs.lemmas.Bool.Decides.{eqb_tells}
use Rattle.std.specs.List.{prefix_len}
use Rattle.ass_num.specs.Fronts.{IsLongestFront, HasNoFront}
use Rattle.ass_num.specs.Numerals.{is_decimal, number_of, sign_len, signed, IsHeldDecimal, IsMilli}
use Rattle.ass_num.proofs.DecimalFronts.{point_front, point_none, plain_front, plain_none}
use Rattle.ass_num.proofs.SignFronts.{milli_front, milli_none}
use Rattle.drawing_path.specs.declared.command.Command.{Command}
use Rattle.drawing_path.specs.Tokens.{Token, Letter, Number, Skipped, AreTokens, command_of}
use Rattle.drawing_path.specs.Paths.{path_after}
use Rattle.drawing_path.specs.Laws.{HasPath}
use Rattle.drawing_path.proofs.ReadingLemmas.{some_bytes}

-- the longest front that spells a value, if one does
abbrev pub HasFrontOrNone : {V : Type 0} → (List ℕ → V → Type 0) → List ℕ → Type 0
HasFrontOrNone {V} Spells text = ((v : V) × (len : ℕ) × IsLongestFront Spells text v len) ⊎ HasNoFront Spells text

without_point : (t : List ℕ) (w : ℕ) → w ≡ prefix_len is_decimal t → (w < length t → get_or t w 0 ≢ 46) → HasFrontOrNone IsHeldDecimal t
without_point t w count no_point = elim (cases_lt 0 w) [
  | inl some ↦ inl (min (min (number_of 10 (take w t)) 4294967296 * 1000) 1000000000, w, front some)
  | inr none ↦ inr (plain_none t w count no_point (omega arith))
]
  where
    front : 0 < w → IsLongestFront IsHeldDecimal t (min (min (number_of 10 (take w t)) 4294967296 * 1000) 1000000000) w
    front some = plain_front t (min (number_of 10 (take w t)) 4294967296) w refl count no_point some

with_point : (t : List ℕ) (w f : ℕ) → w ≡ prefix_len is_decimal t → f ≡ prefix_len is_decimal (drop (w + 1) t) → w < length t → get_or t w 0 ≡ 46 → HasFrontOrNone IsHeldDecimal t
with_point t w f count more inside at = elim (cases_lt 0 (w + f)) [
  | inl some ↦ inl (min (min (number_of 10 (take w t)) 4294967296 * 1000 + number_of 10 (take f (drop (w + 1) t)) * 1000 / 10 ^ f) 1000000000, w + 1 + f, point_front t (min (number_of 10 (take w t)) 4294967296) w (number_of 10 (take f (drop (w + 1) t)) * 1000 / 10 ^ f) f refl count inside at refl more some)
  | inr none ↦ inr (point_none t w f count more (omega arith))
]

decimal_exists : (t : List ℕ) → HasFrontOrNone IsHeldDecimal t
decimal_exists t = elim (cases_lt (prefix_len is_decimal t) (length t)) [
  | inl inside ↦ elim (eqb_tells (get_or t (prefix_len is_decimal t) 0) 46) [
    | inl is ↦ with_point t (prefix_len is_decimal t) (prefix_len is_decimal (drop (prefix_len is_decimal t + 1) t)) refl refl inside is.1
    | inr other ↦ without_point t (prefix_len is_decimal t) refl (λ lt. other.1)
  ]
  | inr past ↦ without_point t (prefix_len is_decimal t) refl (λ lt. absurd (omega arith))
]

pub milli_exists : (t : List ℕ) → HasFrontOrNone IsMilli t
milli_exists t = elim (decimal_exists (drop (sign_len t) t)) [
  | inl front ↦ inl (signed (take (sign_len t) t) front.0, sign_len t + front.1, milli_front t (signed (take (sign_len t) t) front.0) front.0 front.1 refl front.2)
  | inr none ↦ inr (milli_none t none)
]

-- What the token at the front leaves has tokens.
tokens_behind : (c : ℕ) (text : List ℕ) (command : Option Command) → command_of c ≡ command → ((len : ℕ) → 0 < len → (tokens : List Token) × AreTokens tokens (drop len (c ∷ text)))
    → (tokens : List Token) × AreTokens tokens (c ∷ text)
tokens_behind c text (Some command) is rest = let behind = rest 1 (omega arith) in (Letter command ∷ behind.0, (1, (is, refl), behind.1))
tokens_behind c text None is rest = elim (milli_exists (c ∷ text)) [
  | inl front ↦
      let behind = rest front.1 (some_bytes (c ∷ text) front.0 front.1 front.2) in
      (Number front.0 ∷ behind.0, (front.1, (is, front.2), behind.1))
  | inr none ↦ let behind = rest 1 (omega arith) in (Skipped ∷ behind.0, (1, (is, none, refl), behind.1))
]

-- the tokens of a text of at most so many bytes
tokens_exist : (n : ℕ) (text : List ℕ) → length text ≤ n → (tokens : List Token) × AreTokens tokens text
tokens_exist n [] fits = ([], refl)
tokens_exist zero (c ∷ text) fits = absurd (omega arith)
tokens_exist (suc n) (c ∷ text) fits =
    tokens_behind c text (command_of c) refl (λ len some. tokens_exist n (drop len (c ∷ text)) (omega (arith, length-drop len (c ∷ text))))

pub has_path : HasPath
has_path text = let all = tokens_exist (length text) text (omega arith) in (path_after [] all.0, record { tokens = all.0; read = all.1; drawn = refl })
