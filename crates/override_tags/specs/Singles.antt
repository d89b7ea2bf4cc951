-- Public: tags that aren't transforms, by their names and the text behind these (Aegisub, "ASS override tags").
use Rattle.std.specs.Prelude.{◌≡◌, ℕ, ◌||◌, ◌&&◌, int_le, Bool, if◌then◌else◌, ℤ, pos, ◌+ℤ◌, ◌-ℤ◌, ◌*ℤ◌, option_and_then, List, [], ◌∷◌, Option, Some, None}
use Rattle.std.specs.Int.{int_max}
use Rattle.std.specs.Int.RustNames.{unsigned_abs}
use Rattle.std.specs.Option.{option_map}
use Rattle.std.specs.Ordering.{int_eq}
use Rattle.ass_num.specs.Floor.{floor_div, held}
use Rattle.ass_num.specs.Numerals.{IsMilli, IsColour, IsAlpha}
use Rattle.ass_num.specs.declared.geometry.Path.{Path}
use Rattle.drawing_path.specs.Paths.{IsPathOf}
use Rattle.ass_num.specs.Blanks.{trimmed}
use Rattle.tag_arguments.specs.Cuts.{plain_argument, bracketed}
use Rattle.tag_arguments.specs.Numbers.{ReadsOptional, ReadsUnsigned, ReadsFront, ReadsNumbers, ReadsBracketed, comma_pieces}
use Rattle.tag_arguments.specs.declared.kinds.Num.TheVariants as num
use Rattle.tag_arguments.specs.declared.kinds.Sung.{Sung}
use Rattle.tag_arguments.specs.declared.kinds.TagName.{TagName}
use Rattle.tag_arguments.specs.declared.kinds.TagName.TheVariants as name
use Rattle.override_tags.specs.Limits.{max_tag_scale}
use Rattle.override_tags.specs.declared.tag.ClipTag.TheVariants.{Rect, Drawn}
use Rattle.override_tags.specs.declared.tag.Tag.{Tag}
use Rattle.override_tags.specs.declared.tag.Tag.TheVariants.{Number, Colour, Alpha, FontName, Reset, Align, Pos, Move, Org, Fad, Fade, Clip, Karaoke}

-- thousandths as a whole number, rounded down
abbrev pub whole : ℤ → ℤ
whole value = floor_div value (pos 1000)

-- the whole number that thousandths are, if they are one
abbrev pub exact : ℤ → Option ℤ
exact value = if int_eq (whole value *ℤ pos 1000) value then Some (whole value) else None

-- 0, 1, 2 or 3
abbrev pub is_wrap_style : ℤ → Bool
is_wrap_style value = int_eq value (pos 0) || (int_eq value (pos 1000) || (int_eq value (pos 2000) || int_eq value (pos 3000)))

abbrev pub wrap_tag : Option (Option ℤ) → Option Tag
wrap_tag None = None
wrap_tag (Some None) = Some (Number num.Wrap None)
wrap_tag (Some (Some value)) = if is_wrap_style value then Some (Number num.Wrap (Some value)) else None

-- the key of a numeric keypad by its number, if that is 1 to 9
abbrev pub key_tag : ℤ → Option Tag
key_tag number = if int_le (pos 1) number && int_le number (pos 9) then Some (Align (unsigned_abs number)) else None

-- a whole number from 1 to 9, as the keys of a numeric keypad lie
abbrev pub align_of : Option ℤ → Option Tag
align_of value = option_and_then key_tag (option_and_then exact value)

-- The key by the number that old scripts have: 1 to 3 at the bottom, 5 to 7 at the top and 9 to 11 in the middle. Other numbers have none.
abbrev pub key_of_old : ℤ → ℤ
key_of_old number =
    if int_le (pos 1) number && int_le number (pos 3) then number
    else if int_le (pos 5) number && int_le number (pos 7) then number +ℤ pos 2
    else if int_le (pos 9) number && int_le number (pos 11) then number -ℤ pos 5
    else pos 0

-- a whole number that old scripts have for an alignment
abbrev pub old_align_of : Option ℤ → Option Tag
old_align_of value = option_and_then (λ number. key_tag (key_of_old number)) (option_and_then exact value)

-- the length of a syllable: hundredths of a second as milliseconds, rounded down and at least 0
abbrev pub karaoke_of : Sung → Option ℤ → Option Tag
karaoke_of kind value = option_map (λ v. Karaoke kind (int_max (pos 0) (floor_div v (pos 100)))) value

-- x, y
abbrev pub pos_of : Option (List ℤ) → Option Tag
pos_of (Some (x ∷ (y ∷ []))) = Some (Pos x y)
pos_of _ = None

-- x, y
abbrev pub org_of : Option (List ℤ) → Option Tag
org_of (Some (x ∷ (y ∷ []))) = Some (Org x y)
org_of _ = None

-- x1, y1, x2, y2, and perhaps t1, t2
abbrev pub move_of : Option (List ℤ) → Option Tag
move_of (Some (x1 ∷ (y1 ∷ (x2 ∷ (y2 ∷ []))))) = Some (Move (x1 ∷ (y1 ∷ (x2 ∷ (y2 ∷ [])))) (pos 0) (pos 0))
move_of (Some (x1 ∷ (y1 ∷ (x2 ∷ (y2 ∷ (t1 ∷ (t2 ∷ []))))))) = Some (Move (x1 ∷ (y1 ∷ (x2 ∷ (y2 ∷ [])))) (whole t1) (whole t2))
move_of _ = None

-- two times, or three alphas and four times
abbrev pub fade_of : Option (List ℤ) → Option Tag
fade_of (Some (t1 ∷ (t2 ∷ []))) = Some (Fad (whole t1) (whole t2))
fade_of (Some (a1 ∷ (a2 ∷ (a3 ∷ (t1 ∷ (t2 ∷ (t3 ∷ (t4 ∷ [])))))))) =
    Some (Fade (whole a1 ∷ (whole a2 ∷ (whole a3 ∷ (whole t1 ∷ (whole t2 ∷ (whole t3 ∷ (whole t4 ∷ []))))))))
fade_of _ = None

-- the tag of a name by numbers in brackets
abbrev pub numbered_of : TagName → Option (List ℤ) → Option Tag
numbered_of name.Pos values = pos_of values
numbered_of name.Move values = move_of values
numbered_of name.Org values = org_of values
numbered_of name.Fade values = fade_of values
numbered_of _ values = None

-- x1, y1, x2, y2
abbrev pub rectangle_of : Bool → Option (List ℤ) → Option Tag
rectangle_of inverse (Some (x1 ∷ (y1 ∷ (x2 ∷ (y2 ∷ []))))) = Some (Clip (Rect (x1 ∷ (y1 ∷ (x2 ∷ (y2 ∷ [])))) inverse))
rectangle_of _ _ = None

-- the scale of a drawing: a whole number, held within 1 and 30
abbrev pub scale_of : ℤ → ℕ
scale_of value = unsigned_abs (held (pos 1) (pos max_tag_scale) (whole value))

-- a clip by a drawing
abbrev pub ReadsDrawn : Bool → List ℕ → ℕ → Option Tag → Type 0
ReadsDrawn inverse drawing scale tag = (path : Path) × IsPathOf (trimmed drawing) path.segs × (tag ≡ Some (Clip (Drawn path scale inverse)))

-- the same, unless its scale is no number
abbrev pub ReadsScaled : Bool → List ℕ → Option ℤ → Option Tag → Type 0
ReadsScaled inverse drawing None tag = tag ≡ None
ReadsScaled inverse drawing (Some scale) tag = ReadsDrawn inverse drawing (scale_of scale) tag

-- a drawing; a scale and a drawing; or four numbers
abbrev pub ReadsClipPieces : Bool → List (List ℕ) → Option Tag → Type 0
ReadsClipPieces inverse (drawing ∷ []) tag = ReadsDrawn inverse drawing 1 tag
ReadsClipPieces inverse (scale ∷ (drawing ∷ [])) tag = (value : Option ℤ) × ReadsFront IsMilli (trimmed scale) value × ReadsScaled inverse drawing value tag
ReadsClipPieces inverse numbers tag = (values : Option (List ℤ)) × ReadsNumbers numbers values × (tag ≡ rectangle_of inverse values)

abbrev pub ReadsClip : Bool → Option (List ℕ) → Option Tag → Type 0
ReadsClip inverse None tag = tag ≡ None
ReadsClip inverse (Some inside) tag = ReadsClipPieces inverse (comma_pieces inside) tag

-- a tag of a name by the numbers in brackets behind it
abbrev pub ReadsNumbered : TagName → List ℕ → Option Tag → Type 0
ReadsNumbered name rest tag = (values : Option (List ℤ)) × ReadsBracketed (bracketed rest) values × (tag ≡ numbered_of name values)

-- The tag of a name and the text behind it. There is none where the text isn't an argument of the name.
abbrev pub ReadsSingle : TagName → List ℕ → Option Tag → Type 0
ReadsSingle (name.Number property) rest tag = (value : Option (Option ℤ)) × ReadsOptional IsMilli (plain_argument rest) value × (tag ≡ option_map (Number property) value)
ReadsSingle name.Size rest tag = (value : Option (Option ℤ)) × ReadsUnsigned (plain_argument rest) value × (tag ≡ option_map (Number num.Size) value)
ReadsSingle name.Wrap rest tag = (value : Option (Option ℤ)) × ReadsOptional IsMilli (plain_argument rest) value × (tag ≡ wrap_tag value)
ReadsSingle (name.Colour which) rest tag = (value : Option (Option ℕ)) × ReadsOptional IsColour (plain_argument rest) value × (tag ≡ option_map (Colour which) value)
ReadsSingle (name.Alpha which) rest tag = (value : Option (Option ℕ)) × ReadsOptional IsAlpha (plain_argument rest) value × (tag ≡ option_map (Alpha which) value)
ReadsSingle name.FontName rest tag = tag ≡ Some (FontName (plain_argument rest))
ReadsSingle name.Reset rest tag = tag ≡ Some (Reset (plain_argument rest))
ReadsSingle name.Align rest tag = (value : Option ℤ) × ReadsFront IsMilli (plain_argument rest) value × (tag ≡ align_of value)
ReadsSingle name.OldAlign rest tag = (value : Option ℤ) × ReadsFront IsMilli (plain_argument rest) value × (tag ≡ old_align_of value)
ReadsSingle (name.Karaoke kind) rest tag = (value : Option ℤ) × ReadsFront IsMilli (plain_argument rest) value × (tag ≡ karaoke_of kind value)
ReadsSingle name.Pos rest tag = ReadsNumbered name.Pos rest tag
ReadsSingle name.Move rest tag = ReadsNumbered name.Move rest tag
ReadsSingle name.Org rest tag = ReadsNumbered name.Org rest tag
ReadsSingle name.Fade rest tag = ReadsNumbered name.Fade rest tag
ReadsSingle (name.Clip inverse) rest tag = ReadsClip inverse (bracketed rest) tag
ReadsSingle name.Transform rest tag = tag ≡ None
ReadsSingle name.Skipped rest tag = tag ≡ None
