-- Public: the tags of a block, and transforms.
use Rattle.std.specs.Prelude.{◌≡◌, ℕ, ◌+◌, ◌==◌, Bool, true, false, if◌then◌else◌, ℤ, pos, ◌+ℤ◌, ◌*ℤ◌, List, [], ◌∷◌, ◌++◌, length, take, drop, Option, Some, None, option_and_then}
use Rattle.std.specs.Int.RustNames.{unsigned_abs}
use Rattle.std.specs.List.{position_or_len}
use Rattle.std.specs.Option.{option_to_list}
use Rattle.ass_num.specs.Floor.{floor_div, held}
use Rattle.ass_num.specs.Bytes.{backslash}
use Rattle.tag_arguments.specs.Cuts.{bracketed, tag_len}
use Rattle.tag_arguments.specs.Names.{tag_name}
use Rattle.tag_arguments.specs.Numbers.{ReadsNumbers, counted_pieces}
use Rattle.tag_arguments.specs.declared.kinds.Num.{Num}
use Rattle.tag_arguments.specs.declared.kinds.Num.TheVariants as num
use Rattle.tag_arguments.specs.declared.kinds.TagName.{TagName}
use Rattle.tag_arguments.specs.declared.kinds.TagName.TheVariants as name
use Rattle.override_tags.specs.declared.tag.ClipTag.TheVariants.{Rect}
use Rattle.override_tags.specs.declared.tag.GradualTag.{GradualTag}
use Rattle.override_tags.specs.declared.tag.GradualTag.TheVariants as gradual
use Rattle.override_tags.specs.declared.tag.Tag.{Tag}
use Rattle.override_tags.specs.declared.tag.Tag.TheVariants.{Number, Colour, Alpha, Clip, Transform}
use Rattle.override_tags.specs.declared.transform.Course.{Course}
use Rattle.override_tags.specs.Limits.{max_quarters}
use Rattle.override_tags.specs.Singles.{whole, ReadsSingle}

-- what stands before the first `\`
abbrev pub before_tags : List ℕ → List ℕ
before_tags text = take (position_or_len (λ c. c == backslash) text) text

-- and the text from it on
abbrev pub from_tags : List ℕ → List ℕ
from_tags text = drop (position_or_len (λ c. c == backslash) text) text

-- A text that is empty or begins with a `\`.
abbrev pub BeginsTag : List ℕ → Type 0
BeginsTag [] = Unit {0}
BeginsTag (c ∷ _) = c ≡ backslash

-- The text of the tag at the front of a text, and what stands behind the tag.
pub record IsNextTag (text tag rest : List ℕ) : Type 0 where
  pub behind : List ℕ
  pub spelled : text ≡ backslash ∷ behind
  pub tag_is : tag ≡ take (tag_len behind) behind
  pub rest_is : rest ≡ drop (tag_len behind) behind
  pub len : length tag ≡ tag_len behind
  pub shorter : length rest + (1 + length tag) ≡ length text
  pub begins : BeginsTag rest

-- an accel in quarters, to the nearest, held within 1 and 32
abbrev pub quarters_of : ℤ → ℕ
quarters_of accel = unsigned_abs (held (pos 1) (pos max_quarters) (floor_div ((accel *ℤ pos 4) +ℤ pos 500) (pos 1000)))

-- Nothing, an accel, two times, or two times and an accel. Without an accel the speed is 4 quarters.
abbrev pub course_of : Option (List ℤ) → Option Course
course_of (Some []) = Some (record { times = None; quarters = 4 })
course_of (Some (accel ∷ [])) = Some (record { times = None; quarters = quarters_of accel })
course_of (Some (t1 ∷ (t2 ∷ []))) = Some (record { times = Some (whole t1, whole t2); quarters = 4 })
course_of (Some (t1 ∷ (t2 ∷ (accel ∷ [])))) = Some (record { times = Some (whole t1, whole t2); quarters = quarters_of accel })
course_of _ = None

-- a property that can change gradually
abbrev pub is_gradual : Num → Bool
is_gradual num.Size = true
is_gradual num.ScaleX = true
is_gradual num.ScaleY = true
is_gradual num.Spacing = true
is_gradual num.Angle = true
is_gradual num.Border = true
is_gradual num.BorderX = true
is_gradual num.BorderY = true
is_gradual num.Shadow = true
is_gradual num.ShadowX = true
is_gradual num.ShadowY = true
is_gradual num.Edges = true
is_gradual num.Blur = true
is_gradual _ = false

-- a tag as a transform keeps it, if it does
abbrev pub gradual_of : Tag → Option GradualTag
gradual_of (Number property value) = if is_gradual property then Some (gradual.Number property value) else None
gradual_of (Colour which value) = Some (gradual.Colour which value)
gradual_of (Alpha which value) = Some (gradual.Alpha which value)
gradual_of (Clip (Rect corners inverse)) = Some (gradual.Clip corners inverse)
gradual_of _ = None

-- the tag of a name that was found, if it isn't a transform
abbrev pub ReadsFound : Option (TagName × List ℕ) → Option Tag → Type 0
ReadsFound None tag = tag ≡ None
ReadsFound (Some found) tag = ReadsSingle found.0 found.1 tag

-- The tag of a text behind a `\`, if a transform keeps it.
abbrev pub ReadsKept : List ℕ → Option GradualTag → Type 0
ReadsKept text tag = (single : Option Tag) × ReadsFound (tag_name text) single × (tag ≡ option_and_then gradual_of single)

-- The tags that a transform keeps. Its text is empty or begins with a `\`, and each tag ends before the next `\` outside parentheses.
pub data AreKept : List ℕ → List GradualTag → Type 0 where
  none : AreKept [] []
  more : (text : List ℕ) (tag : Option GradualTag) (tags : List GradualTag) → ReadsKept (take (tag_len text) text) tag → AreKept (drop (tag_len text) text) tags → AreKept (backslash ∷ text) (option_to_list tag ++ tags)

-- a transform of a course and the text of its tags, unless it has no course
abbrev pub ReadsCourse : Option Course → List ℕ → Option Tag → Type 0
ReadsCourse None tags tag = tag ≡ None
ReadsCourse (Some course) tags tag = (all : List GradualTag) × AreKept tags all × (tag ≡ Some (Transform course.times course.quarters all))

-- a transform by what stands in its brackets
abbrev pub ReadsTransform : Option (List ℕ) → Option Tag → Type 0
ReadsTransform None tag = tag ≡ None
ReadsTransform (Some inside) tag = (values : Option (List ℤ)) × ReadsNumbers (counted_pieces true (before_tags inside)) values × ReadsCourse (course_of values) (from_tags inside) tag

-- a tag by its name and the text behind it
abbrev pub ReadsNamed : TagName → List ℕ → Option Tag → Type 0
ReadsNamed name.Transform rest tag = ReadsTransform (bracketed rest) tag
ReadsNamed other rest tag = ReadsSingle other rest tag

abbrev pub ReadsAny : Option (TagName × List ℕ) → Option Tag → Type 0
ReadsAny None tag = tag ≡ None
ReadsAny (Some found) tag = ReadsNamed found.0 found.1 tag

-- The tag of a text behind a `\`. There is none where it begins with no name, or no argument of its name follows.
abbrev pub ReadsTag : List ℕ → Option Tag → Type 0
ReadsTag text tag = ReadsAny (tag_name text) tag
