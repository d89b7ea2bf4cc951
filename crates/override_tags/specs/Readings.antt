-- Public: the one reading of a text: its items in order.
use Rattle.std.specs.Prelude.{◌≡◌, ℕ, ◌+◌, List, [], ◌∷◌, ◌++◌, length, take, drop, Option, Some, None}
use Rattle.ass_num.specs.Bytes.{backslash}
use Rattle.tag_arguments.specs.Cuts.{tag_len}
use Rattle.override_tags.specs.Fronts.{Part, Char, HardBreak, SoftBreak, HardSpace, Block, IsFront}
use Rattle.override_tags.specs.declared.item.Item.{Item}
use Rattle.override_tags.specs.declared.item.ItemKind.{ItemKind}
use Rattle.override_tags.specs.declared.item.ItemKind.TheVariants as item
use Rattle.override_tags.specs.declared.tag.Tag.{Tag}
use Rattle.override_tags.specs.Tags.{ReadsTag, before_tags, from_tags}

-- the item of a tag, if there is a tag
abbrev pub tag_items : ℕ → ℕ → Option Tag → List Item
tag_items from to None = []
tag_items from to (Some tag) = record { from = from; to = to; kind = item.Tag tag } ∷ []

-- The tags of a text that begins at a place and is empty or begins with a `\`. A tag ends before the next `\` outside parentheses.
pub data AreTags : ℕ → List ℕ → List Item → Type 0 where
  none : (from : ℕ) → AreTags from [] []
  more : (from : ℕ) (text : List ℕ) (tag : Option Tag) (items : List Item)
      → ReadsTag (take (tag_len text) text) tag
      → AreTags (from + (1 + tag_len text)) (drop (tag_len text) text) items
      → AreTags from (backslash ∷ text) (tag_items from (from + (1 + tag_len text)) tag ++ items)

-- The tags of a block by what stands between its braces; what stands before the first `\` is passed over.
abbrev pub AreBlockTags : ℕ → List ℕ → List Item → Type 0
AreBlockTags from body tags = AreTags (from + length (before_tags body)) (from_tags body) tags

-- the tags behind a part that begins at a place: those of a block
abbrev pub ArePartTags : ℕ → Part → List Item → Type 0
ArePartTags from (Block body) tags = AreBlockTags (from + 1) body tags
ArePartTags from _ tags = tags ≡ []

abbrev pub kind_of : Part → ItemKind
kind_of (Char c) = item.Char c
kind_of HardBreak = item.HardBreak
kind_of SoftBreak = item.SoftBreak
kind_of HardSpace = item.HardSpace
kind_of (Block _) = item.Block

-- the item of a part
abbrev pub part_item : ℕ → ℕ → Part → Item
part_item from to part = record { from = from; to = to; kind = kind_of part }

-- The items of a text that begins at a place: what stands at its front, the tags of that, and the items of what follows.
pub data AreItems : ℕ → List ℕ → List Item → Type 0 where
  none : (from : ℕ) → AreItems from [] []
  more : (from to : ℕ) (text : List ℕ) (part : Part) (rest : List ℕ) (tags items : List Item)
      → IsFront text part rest
      → to + length rest ≡ from + length text
      → ArePartTags from part tags
      → AreItems to rest items
      → AreItems from text (part_item from to part ∷ (tags ++ items))

-- The items of a whole text.
abbrev pub IsTextReading : List ℕ → List Item → Type 0
IsTextReading text items = AreItems 0 text items
