-- Public: the ranges of what the tags of a text say. `read_text` gives no others.
use Rattle.std.specs.Prelude.{◌≡◌, ◌≤◌, true, ℤ, pos, ◌≤ℤ◌, List, length, All, IfSome}
use Rattle.ass_num.specs.Limits.{IsWithin, IsHeldNumber}
use Rattle.ass_num.specs.Paths.{IsPath}
use Rattle.tag_arguments.specs.declared.kinds.Num.{Num}
use Rattle.tag_arguments.specs.declared.kinds.Num.TheVariants as num
use Rattle.override_tags.specs.declared.item.Item.{Item}
use Rattle.override_tags.specs.declared.item.ItemKind.{ItemKind}
use Rattle.override_tags.specs.declared.item.ItemKind.TheVariants as item
use Rattle.override_tags.specs.declared.tag.ClipTag.{ClipTag}
use Rattle.override_tags.specs.declared.tag.ClipTag.TheVariants.{Rect, Drawn}
use Rattle.override_tags.specs.declared.tag.GradualTag.{GradualTag}
use Rattle.override_tags.specs.declared.tag.GradualTag.TheVariants as gradual
use Rattle.override_tags.specs.declared.tag.Tag.{Tag}
use Rattle.override_tags.specs.declared.tag.Tag.TheVariants.{Number, Colour, Alpha, FontName, Reset, Align, Pos, Move, Org, Fad, Fade, Clip, Karaoke, Transform}
use Rattle.override_tags.specs.Limits.{max_tag_time, max_syllable, max_quarters, max_tag_scale}
use Rattle.override_tags.specs.Singles.{is_wrap_style}
use Rattle.override_tags.specs.Tags.{is_gradual}

-- a time of a tag in milliseconds, or an alpha of a fade
abbrev pub IsTagTime : ℤ → Type 0
IsTagTime time = IsWithin max_tag_time time

-- left, top, right and bottom; or two points
abbrev pub AreCorners : List ℤ → Type 0
AreCorners corners = (length corners ≡ 4) × All IsHeldNumber corners

-- a clip by four held numbers, or by a drawing at a scale
abbrev pub IsClip : ClipTag → Type 0
IsClip (Rect corners _) = AreCorners corners
IsClip (Drawn path scale _) = IsPath path.segs × (1 ≤ scale) × (scale ≤ max_tag_scale)

-- a tag of a transform: it has a property that can change gradually
abbrev pub IsGradualTag : GradualTag → Type 0
IsGradualTag (gradual.Number property value) = (is_gradual property ≡ true) × IfSome value IsHeldNumber
IsGradualTag (gradual.Colour which _) = (1 ≤ which) × (which ≤ 4)
IsGradualTag (gradual.Alpha which _) = which ≤ 4
IsGradualTag (gradual.Clip corners _) = AreCorners corners

-- a number that a tag sets; as a wrap style it is 0, 1, 2 or 3
abbrev pub IsSetNumber : Num → ℤ → Type 0
IsSetNumber property value = IsHeldNumber value × (property ≡ num.Wrap → is_wrap_style value ≡ true)

-- A tag whose numbers lie where they should.
abbrev pub IsHeldTag : Tag → Type 0
IsHeldTag (Number property value) = IfSome value (IsSetNumber property)
IsHeldTag (Colour which _) = (1 ≤ which) × (which ≤ 4)
IsHeldTag (Alpha which _) = which ≤ 4
IsHeldTag (FontName _) = Unit {0}
IsHeldTag (Reset _) = Unit {0}
IsHeldTag (Align key) = (1 ≤ key) × (key ≤ 9)
IsHeldTag (Pos x y) = IsHeldNumber x × IsHeldNumber y
IsHeldTag (Move path t1 t2) = AreCorners path × IsTagTime t1 × IsTagTime t2
IsHeldTag (Org x y) = IsHeldNumber x × IsHeldNumber y
IsHeldTag (Fad t1 t2) = IsTagTime t1 × IsTagTime t2
IsHeldTag (Fade numbers) = (length numbers ≡ 7) × All IsTagTime numbers
IsHeldTag (Clip clip) = IsClip clip
IsHeldTag (Karaoke _ len) = (pos 0 ≤ℤ len) × (len ≤ℤ pos max_syllable)
IsHeldTag (Transform times quarters tags) =
    IfSome times (λ t. IsTagTime t.0 × IsTagTime t.1) × (1 ≤ quarters) × (quarters ≤ max_quarters) × All IsGradualTag tags

-- an item that is a tag whose numbers lie so, or no tag
abbrev pub IsHeldKind : ItemKind → Type 0
IsHeldKind (item.Tag tag) = IsHeldTag tag
IsHeldKind _ = Unit {0}

abbrev pub IsHeldItem : Item → Type 0
IsHeldItem i = IsHeldKind i.kind
