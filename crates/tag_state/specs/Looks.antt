-- Public: what a text shows, in order, and which tags stand before each (docs/TAGS.md).
use Rattle.std.specs.Prelude.{◌≡◌, ℕ, ◌<◌, ℤ, Bool, true, false, List, [], ◌∷◌, ◌++◌, All, Option, Some, None, slice_range}
use Rattle.ass_num.specs.declared.geometry.Path.{Path}
use Rattle.drawing_path.specs.Paths.{IsPathOf}
use Rattle.override_tags.specs.declared.item.Item.{Item}
use Rattle.override_tags.specs.declared.item.ItemKind.{ItemKind}
use Rattle.override_tags.specs.declared.item.ItemKind.TheVariants as item
use Rattle.override_tags.specs.declared.view.ShownKind.{ShownKind}
use Rattle.override_tags.specs.declared.view.ShownKind.TheVariants.{Char, Drawing, Hard, Soft}
use Rattle.tag_state.specs.Setters.{Effect, by_setters, past, replaced}
use Rattle.tag_state.specs.Properties.{level_setter}
use Rattle.std.specs.List.{filter_map}

-- the code of U+00A0, which a hard space is
abbrev pub no_break_space : ℕ
no_break_space = 160

-- what a character, break or hard space shows
abbrev pub shown_as : ItemKind → Option ShownKind
shown_as (item.Char c) = Some (Char c)
shown_as item.HardBreak = Some Hard
shown_as item.SoftBreak = Some Soft
shown_as item.HardSpace = Some (Char no_break_space)
shown_as item.Block = None
shown_as (item.Tag _) = None

abbrev pub is_text_kind : ItemKind → Bool
is_text_kind item.Block = false
is_text_kind (item.Tag _) = false
is_text_kind _ = true

abbrev pub IsShownText : Item → Type 0
IsShownText i = is_text_kind i.kind ≡ true

-- A slice ends where the next block begins, or with the text.
abbrev pub BeginsNoText : List Item → Type 0
BeginsNoText [] = Unit {0}
BeginsNoText (i ∷ _) = is_text_kind i.kind ≡ false

-- the end of the last of some items, which stand behind a place
abbrev pub items_end : ℕ → List Item → ℕ
items_end place [] = place
items_end place (i ∷ items) = items_end i.to items

-- the level of drawings behind these effects; the last one stands first
abbrev pub level_at : List Effect → ℕ
level_at before = by_setters replaced 0 (filter_map level_setter before)

-- What is shown, and the effects before it, the last of which stands first.
pub record Look : Type 0 where
  pub kind : ShownKind
  pub before : List Effect

-- What the items of a text show behind these effects, in an event of a duration. At a level of drawings above 0 what stands
-- between two blocks is one drawing, breaks included.
pub data AreLooks (text : List ℕ) (duration elapsed : ℤ) : List Effect → List Item → List Look → Type 0 where
  none : (before : List Effect) → AreLooks text duration elapsed before [] []
  unseen : (before : List Effect) (i : Item) (items : List Item) (looks : List Look)
      → is_text_kind i.kind ≡ false
      → AreLooks text duration elapsed (past duration elapsed before i) items looks
      → AreLooks text duration elapsed before (i ∷ items) looks
  seen : (before : List Effect) (i : Item) (kind : ShownKind) (items : List Item) (looks : List Look)
      → level_at before ≡ 0
      → shown_as i.kind ≡ Some kind
      → AreLooks text duration elapsed before items looks
      → AreLooks text duration elapsed before (i ∷ items) (record { kind = kind; before = before } ∷ looks)
  drawn : (before : List Effect) (i : Item) (slice items : List Item) (path : Path) (looks : List Look)
      → 0 < level_at before
      → All IsShownText (i ∷ slice)
      → BeginsNoText items
      → IsPathOf (slice_range text i.from (items_end i.to slice)) path.segs
      → AreLooks text duration elapsed before items looks
      → AreLooks text duration elapsed before ((i ∷ slice) ++ items) (record { kind = Drawing path; before = before } ∷ looks)
