-- Public: how the items of a text cover it, where its tags lie, and that no other items are its reading.
use Rattle.std.specs.Prelude.{◌≡◌, ℕ, ◌+◌, ◌<◌, ◌≤◌, Bool, true, false, if◌then◌else◌, MatchBool, List, [], ◌∷◌, length}
use Rattle.std.specs.Str.{IsUtf8, IsCharBoundary}
use Rattle.override_tags.specs.declared.item.Item.{Item}
use Rattle.override_tags.specs.declared.item.ItemKind.{ItemKind}
use Rattle.override_tags.specs.declared.item.ItemKind.TheVariants as item
use Rattle.override_tags.specs.Readings.{IsTextReading}

abbrev pub is_tag : ItemKind → Bool
is_tag (item.Tag _) = true
is_tag _ = false

-- The characters, breaks, hard spaces and blocks among the items take the bytes from a place to another, one after another and none of them no byte.
abbrev pub Follow : ℕ → List Item → ℕ → Type 0
Follow from [] end = from ≡ end
Follow from (i ∷ items) end = MatchBool (is_tag i.kind) (Follow from items end) ((i.from ≡ from) × (from < i.to) × Follow i.to items end)

-- They cover the text.
abbrev pub PartsCover : Type 0
PartsCover = (text : List ℕ) (items : List Item) → IsTextReading text items → Follow 0 items (length text)

-- A text in UTF-8 has a reading,
abbrev pub HasReading : Type 0
HasReading = (text : List ℕ) → IsUtf8 text → (items : List Item) × IsTextReading text items

-- and no text has two.
abbrev pub OneReading : Type 0
OneReading = (text : List ℕ) (a b : List Item) → IsTextReading text a → IsTextReading text b → a ≡ b

abbrev pub is_block : ItemKind → Bool
is_block item.Block = true
is_block _ = false

-- The tags among the items lie between the two places, one behind the other, until a part comes; those behind a block lie between its braces, and no other part has tags.
abbrev pub AreInside : ℕ → ℕ → List Item → Type 0
AreInside first last [] = Unit {0}
AreInside first last (i ∷ items) =
    MatchBool (is_tag i.kind) ((first ≤ i.from) × (i.from < i.to) × (i.to < last) × AreInside i.to last items)
    (AreInside (i.from + 1) (if is_block i.kind then i.to else i.from) items)

-- Tags lie in their block.
abbrev pub TagsInside : Type 0
TagsInside = (text : List ℕ) (items : List Item) → IsTextReading text items → AreInside 0 0 items

-- A text can be cut where the item begins and where it ends.
abbrev pub IsAtCharacters : List ℕ → Item → Type 0
IsAtCharacters text i = IsCharBoundary text i.from × IsCharBoundary text i.to
