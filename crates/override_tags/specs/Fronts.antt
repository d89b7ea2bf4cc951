-- Public: what stands at the front of a text.
use Rattle.std.specs.Prelude.{◌≡◌, ℕ, ◌==◌, ◌||◌, Bool, false, if◌then◌else◌, List, [], ◌∷◌, ◌++◌, length, encode_utf8}
use Rattle.std.specs.List.{list_any}
use Rattle.ass_num.specs.Bytes.{tab, space, backslash, lower_h, open_brace, close_brace}
use Rattle.override_tags.specs.declared.scan.FrontKind.{FrontKind}
use Rattle.override_tags.specs.declared.scan.FrontKind.TheVariants as front

-- the letters of a hard and of a soft break
abbrev pub upper_n : ℕ
upper_n = 78

abbrev pub lower_n : ℕ
lower_n = 110

-- A character, `\N`, `\n`, `\h`, or braces with what stands between them.
pub data Part : Type 0 where
  Char : ℕ → Part
  HardBreak : Part
  SoftBreak : Part
  HardSpace : Part
  Block : List ℕ → Part

abbrev pub part_of : FrontKind → Part
part_of (front.Char c) = Char c
part_of front.HardBreak = HardBreak
part_of front.SoftBreak = SoftBreak
part_of front.HardSpace = HardSpace
part_of (front.Block body) = Block body.now

-- how many bytes stand between the braces of a block
abbrev pub body_len : Part → ℕ
body_len (Block body) = length body
body_len _ = 0

-- a `}` stands somewhere in the text
abbrev pub has_close : List ℕ → Bool
has_close text = list_any (λ c. c == close_brace) text

-- a letter of a break or a hard space stands at the front
abbrev pub begins_escape : List ℕ → Bool
begins_escape [] = false
begins_escape (c ∷ _) = (c == upper_n) || ((c == lower_n) || (c == lower_h))

-- a block, a break or a hard space stands at the front
abbrev pub begins_other : List ℕ → Bool
begins_other [] = false
begins_other (c ∷ rest) = if c == open_brace then has_close rest else (if c == backslash then begins_escape rest else false)

-- a tab is a space
abbrev pub shown_char : ℕ → ℕ
shown_char c = if c == tab then space else c

-- This part stands at the front of a text, and this text behind it.
abbrev pub IsFront : List ℕ → Part → List ℕ → Type 0
IsFront text (Block body) rest = (text ≡ open_brace ∷ (body ++ (close_brace ∷ rest))) × (has_close body ≡ false)
IsFront text HardBreak rest = text ≡ backslash ∷ (upper_n ∷ rest)
IsFront text SoftBreak rest = text ≡ backslash ∷ (lower_n ∷ rest)
IsFront text HardSpace rest = text ≡ backslash ∷ (lower_h ∷ rest)
IsFront text (Char c) rest = (begins_other text ≡ false) × ((written : ℕ) × (text ≡ encode_utf8 written ++ rest) × (c ≡ shown_char written))
