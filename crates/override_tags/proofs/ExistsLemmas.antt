-- Each text in UTF-8 has a reading.
use Rattle.std.proofs.Common.{◌≡◌, ◌≢◌, ℕ, zero, suc, ◌+◌, ◌-◌, ◌%◌, ◌^◌, ◌<◌, ◌≤◌, ◌==◌, ◌&&◌, ◌||◌, Bool, true, false, cond, not, ◌⊎◌, inl, inr, ℤ, List, [], ◌∷◌, ◌++◌, length, take, drop, get_or, refl, sym, ap, ◌∙◌, subst, arith, Option, None, Some, length-drop}
use Rattle.std.specs.Prelude.{MatchBool, option_and_then, encode_utf8, encode_utf8_all}
use Rattle.std.specs.List.{prefix_len, position_or_len}
use Rattle.std.specs.Option.{option_map, option_to_list}
use Rattle.std.specs.Str.{IsUtf8}
use Rattle.std.proofs.lemmas.Bool.{cases_lt, and_parts, eqb-true, not-false}
use Rattle.std.proofs.lemmas.Bool.Decides.{eqb_tells}
use Rattle.std.proofs.lemmas.List.Sums.{prefix_len_stops}
use Rattle.std.proofs.lemmas.Str.{encodes-chars, encode_ascii}
use Rattle.ass_num.specs.Fronts.{IsLongestFront}
use Rattle.ass_num.specs.Numerals.{is_mark, is_hexadecimal, number_of, IsMilli, IsMarked, IsColour, IsAlpha}
use Rattle.ass_num.proofs.ColourFronts.{marked_front, marked_none}
use Rattle.ass_num.specs.Blanks.{trimmed}
use Rattle.drawing_path.proofs.ExistsLemmas.{HasFrontOrNone, milli_exists, has_path}
use Rattle.tag_arguments.specs.Cuts.{plain_argument, bracketed, tag_len, outer_len, depth_after}
use Rattle.tag_arguments.specs.Names.{tag_name}
use Rattle.tag_arguments.specs.Numbers.{ReadsOptional, ReadsFront, AreNumbers, ReadsNumbers, ReadsBracketed, comma_pieces, begins_signed, counted_pieces}
use Rattle.tag_arguments.specs.declared.kinds.Num.TheVariants as num
use Rattle.tag_arguments.specs.declared.kinds.TagName.{TagName}
use Rattle.tag_arguments.specs.declared.kinds.TagName.TheVariants as name
use Rattle.tag_arguments.proofs.NumberLemmas.{numbers_length}
use Rattle.override_tags.specs.declared.item.Item.{Item}
use Rattle.override_tags.specs.declared.tag.ClipTag.TheVariants.{Drawn}
use Rattle.override_tags.specs.declared.tag.GradualTag.{GradualTag}
use Rattle.override_tags.specs.declared.tag.Tag.{Tag}
use Rattle.override_tags.specs.declared.tag.Tag.TheVariants.{Number, Colour, Alpha, FontName, Reset, Clip, Transform}
use Rattle.override_tags.specs.declared.transform.Course.{Course}
use Rattle.override_tags.specs.Fronts.{Part, Char, HardBreak, SoftBreak, HardSpace, Block, IsFront, has_close, begins_escape, shown_char}
use Rattle.override_tags.specs.Readings as reads
use Rattle.override_tags.specs.Readings.{AreTags, AreBlockTags, ArePartTags, AreItems, tag_items, part_item}
use Rattle.override_tags.specs.Singles.{wrap_tag, align_of, old_align_of, karaoke_of, numbered_of, rectangle_of, scale_of, ReadsDrawn, ReadsScaled, ReadsClipPieces, ReadsClip, ReadsNumbered, ReadsSingle}
use Rattle.override_tags.specs.Tags as tags
use Rattle.override_tags.specs.Tags.{BeginsTag, before_tags, from_tags, course_of, gradual_of, ReadsFound, ReadsKept, AreKept, ReadsCourse, ReadsTransform, ReadsNamed, ReadsAny, ReadsTag}
use Rattle.override_tags.specs.Laws.{HasReading}
use Rattle.override_tags.proofs.CutLemmas.{begins_drop}
use Rattle.override_tags.proofs.FrontLemmas.{brace_char, backslash_char, other_char}
use Rattle.override_tags.proofs.LawLemmas.{some_bytes}
use Rattle.override_tags.proofs.PlaceLemmas.{front_bytes, drop_one}

-- ---- arguments

marked_exists : (width : ℕ) (t : List ℕ) → HasFrontOrNone (IsMarked width) t
marked_exists width t = by_digits (prefix_len is_mark t) (prefix_len is_hexadecimal (drop (prefix_len is_mark t) t)) refl refl
  where
    by_digits : (m d : ℕ) → m ≡ prefix_len is_mark t → d ≡ prefix_len is_hexadecimal (drop m t) → HasFrontOrNone (IsMarked width) t
    by_digits m d marks digits = elim (cases_lt 0 d) [
      | inl some ↦ inl (number_of 16 (take d (drop m t)) % 2 ^ width, m + d, marked_front width t m d marks digits (number_of 16 (take d (drop m t)) % 2 ^ width) refl some)
      | inr none ↦ inr (marked_none width t m d marks digits (omega arith))
    ]

front_exists : {V : Type 0} (Spells : List ℕ → V → Type 0) (argument : List ℕ) → HasFrontOrNone Spells argument → (value : Option V) × ReadsFront Spells argument value
front_exists Spells argument (inl front) = (Some front.0, (front.1, front.2))
front_exists Spells argument (inr none) = (None, none)

not_nil : (c : ℕ) (cs : List ℕ) → (c ∷ cs) ≢ []
not_nil c cs e = let len = ap length e in absurd (omega arith)

optional_exists : {V : Type 0} (Spells : List ℕ → V → Type 0) (argument : List ℕ) → HasFrontOrNone Spells argument → (value : Option (Option V)) × ReadsOptional Spells argument value
optional_exists Spells [] front = (Some None, refl)
optional_exists Spells (c ∷ cs) (inl front) = (Some (Some front.0), (not_nil c cs, (front.1, front.2)))
optional_exists Spells (c ∷ cs) (inr none) = (None, (not_nil c cs, none))

unsigned_exists : (signed : Bool) (argument : List ℕ) → (value : Option (Option ℤ)) × MatchBool signed (value ≡ None) (ReadsOptional IsMilli argument value)
unsigned_exists true argument = (None, refl)
unsigned_exists false argument = optional_exists IsMilli argument (milli_exists argument)

-- what numbers of pieces are made of
first_of : (p : List ℕ) (parts : List (List ℕ)) (values : List ℤ) → AreNumbers (p ∷ parts) values → (len : ℕ) × (v : ℤ) × IsLongestFront IsMilli (trimmed p) v len
first_of p parts [] are = elim are [ ]
first_of p parts (v ∷ values) are = (are.0.0, v, are.0.1)

others_of : (p : List ℕ) (parts : List (List ℕ)) (values : List ℤ) → AreNumbers (p ∷ parts) values → (others : List ℤ) × AreNumbers parts others
others_of p parts [] are = elim are [ ]
others_of p parts (v ∷ values) are = (values, are.1)

numbers_exist : (parts : List (List ℕ)) → ((values : List ℤ) × AreNumbers parts values) ⊎ ((values : List ℤ) → AreNumbers parts values → ⊥)
numbers_exist [] = inl ([], tt)
numbers_exist (p ∷ parts) = elim (milli_exists (trimmed p)) [
  | inl front ↦ elim (numbers_exist parts) [
    | inl all ↦ inl (front.0 ∷ all.0, ((front.1, front.2), all.1))
    | inr none ↦ inr (λ values are. let o = others_of p parts values are in none o.0 o.1)
  ]
  | inr none ↦ inr (λ values are. let f = first_of p parts values are in none f.0 f.1 f.2.spelled)
]

few_or_none : (parts : List (List ℕ)) → ((values : List ℤ) × AreNumbers parts values) ⊎ ((values : List ℤ) → AreNumbers parts values → ⊥) → (values : Option (List ℤ)) × ReadsNumbers parts values
few_or_none parts (inr none) = (None, λ values few. none values few.1)
few_or_none parts (inl all) = elim (cases_lt 7 (length all.0)) [
  | inl more ↦ (None, λ values few. let first = numbers_length parts values few.1 in let second = numbers_length parts all.0 all.1 in let most : length values ≤ 7 = few.0 in absurd (omega arith))
  | inr few ↦ (Some all.0, (few, all.1))
]

read_numbers_exist : (parts : List (List ℕ)) → (values : Option (List ℤ)) × ReadsNumbers parts values
read_numbers_exist parts = few_or_none parts (numbers_exist parts)

bracketed_exist : (inside : Option (List ℕ)) → (values : Option (List ℤ)) × ReadsBracketed inside values
bracketed_exist None = (None, refl)
bracketed_exist (Some inside) = read_numbers_exist (comma_pieces inside)

-- ---- tags that aren't transforms

drawn_exists : (inverse : Bool) (drawing : List ℕ) (scale : ℕ) → (tag : Option Tag) × ReadsDrawn inverse drawing scale tag
drawn_exists inverse drawing scale = let path = has_path (trimmed drawing) in (Some (Clip (Drawn (record { segs = path.0 }) scale inverse)), (record { segs = path.0 }, path.1, refl))

scaled_exists : (inverse : Bool) (drawing : List ℕ) (scale : Option ℤ) → (tag : Option Tag) × ReadsScaled inverse drawing scale tag
scaled_exists inverse drawing None = (None, refl)
scaled_exists inverse drawing (Some scale) = drawn_exists inverse drawing (scale_of scale)

rectangle_exists : (inverse : Bool) (parts : List (List ℕ)) → (tag : Option Tag) × ((values : Option (List ℤ)) × ReadsNumbers parts values × (tag ≡ rectangle_of inverse values))
rectangle_exists inverse parts = let all = read_numbers_exist parts in (rectangle_of inverse all.0, (all.0, all.1, refl))

pieces_exist : (inverse : Bool) (parts : List (List ℕ)) → (tag : Option Tag) × ReadsClipPieces inverse parts tag
pieces_exist inverse [] = rectangle_exists inverse []
pieces_exist inverse (drawing ∷ []) = drawn_exists inverse drawing 1
pieces_exist inverse (scale ∷ (drawing ∷ [])) =
    let front = front_exists IsMilli (trimmed scale) (milli_exists (trimmed scale)) in
    let clip = scaled_exists inverse drawing front.0 in
    (clip.0, (front.0, front.1, clip.1))
pieces_exist inverse (x ∷ (y ∷ (z ∷ more))) = rectangle_exists inverse (x ∷ (y ∷ (z ∷ more)))

clip_exists : (inverse : Bool) (inside : Option (List ℕ)) → (tag : Option Tag) × ReadsClip inverse inside tag
clip_exists inverse None = (None, refl)
clip_exists inverse (Some inside) = pieces_exist inverse (comma_pieces inside)

numbered_exists : (n : TagName) (rest : List ℕ) → (tag : Option Tag) × ReadsNumbered n rest tag
numbered_exists n rest = let all = bracketed_exist (bracketed rest) in (numbered_of n all.0, (all.0, all.1, refl))

single_exists : (n : TagName) (rest : List ℕ) → (tag : Option Tag) × ReadsSingle n rest tag
single_exists (name.Number property) rest = let v = optional_exists IsMilli (plain_argument rest) (milli_exists (plain_argument rest)) in (option_map (Number property) v.0, (v.0, v.1, refl))
single_exists name.Size rest = let v = unsigned_exists (begins_signed (plain_argument rest)) (plain_argument rest) in (option_map (Number num.Size) v.0, (v.0, v.1, refl))
single_exists name.Wrap rest = let v = optional_exists IsMilli (plain_argument rest) (milli_exists (plain_argument rest)) in (wrap_tag v.0, (v.0, v.1, refl))
single_exists (name.Colour which) rest = let v = optional_exists IsColour (plain_argument rest) (marked_exists 32 (plain_argument rest)) in (option_map (Colour which) v.0, (v.0, v.1, refl))
single_exists (name.Alpha which) rest = let v = optional_exists IsAlpha (plain_argument rest) (marked_exists 8 (plain_argument rest)) in (option_map (Alpha which) v.0, (v.0, v.1, refl))
single_exists name.FontName rest = (Some (FontName (plain_argument rest)), refl)
single_exists name.Reset rest = (Some (Reset (plain_argument rest)), refl)
single_exists name.Align rest = let v = front_exists IsMilli (plain_argument rest) (milli_exists (plain_argument rest)) in (align_of v.0, (v.0, v.1, refl))
single_exists name.OldAlign rest = let v = front_exists IsMilli (plain_argument rest) (milli_exists (plain_argument rest)) in (old_align_of v.0, (v.0, v.1, refl))
single_exists (name.Karaoke kind) rest = let v = front_exists IsMilli (plain_argument rest) (milli_exists (plain_argument rest)) in (karaoke_of kind v.0, (v.0, v.1, refl))
single_exists name.Pos rest = numbered_exists name.Pos rest
single_exists name.Move rest = numbered_exists name.Move rest
single_exists name.Org rest = numbered_exists name.Org rest
single_exists name.Fade rest = numbered_exists name.Fade rest
single_exists (name.Clip inverse) rest = clip_exists inverse (bracketed rest)
single_exists name.Transform rest = (None, refl)
single_exists name.Skipped rest = (None, refl)

-- ---- where tags begin

outer_begins : (depth : ℕ) (text : List ℕ) → BeginsTag (drop (outer_len 92 depth text) text)
outer_begins depth [] = tt
outer_begins depth (c ∷ text) = by_stop ((c == 92) && (depth == 0)) refl (outer_begins (depth_after c depth) text)
  where
    by_stop : (b : Bool) → ((c == 92) && (depth == 0)) ≡ b → BeginsTag (drop (outer_len 92 (depth_after c depth) text) text) → BeginsTag (drop (cond b 0 (1 + outer_len 92 (depth_after c depth) text)) (c ∷ text))
    by_stop true is behind = eqb-true c 92 (and_parts _ _ is).0
    by_stop false is behind = subst BeginsTag (sym (drop_one (outer_len 92 (depth_after c depth) text) c text)) behind

from_begins : (text : List ℕ) → BeginsTag (from_tags text)
from_begins text = begins_drop text (position_or_len (λ c. c == 92) text) (λ within. eqb-true _ 92 (not-false _ (prefix_len_stops (λ c. not (c == 92)) text 0 within)))

-- ---- transforms

found_exists : (found : Option (TagName × List ℕ)) → (tag : Option Tag) × ReadsFound found tag
found_exists None = (None, refl)
found_exists (Some found) = single_exists found.0 found.1

kept_exists : (text : List ℕ) → (tag : Option GradualTag) × ReadsKept text tag
kept_exists text = let found = found_exists (tag_name text) in (option_and_then gradual_of found.0, (found.0, found.1, refl))

all_kept_exist : (n : ℕ) (text : List ℕ) → length text ≤ n → BeginsTag text → (all : List GradualTag) × AreKept text all
all_kept_exist n [] fits begins = ([], tags.none)
all_kept_exist zero (c ∷ text) fits begins = absurd (omega arith)
all_kept_exist (suc n) (c ∷ text) fits begins =
    let first = kept_exists (take (tag_len text) text) in
    let rest = all_kept_exist n (drop (tag_len text) text) (omega (arith, length-drop (tag_len text) text)) (outer_begins 0 text) in
    let P : ℕ → Type 0 = λ z. (all : List GradualTag) × AreKept (z ∷ text) all in
    subst P (sym begins) (option_to_list first.0 ++ rest.0, tags.more text first.0 rest.0 first.1 rest.1)

course_exists : (course : Option Course) (text : List ℕ) → BeginsTag text → (tag : Option Tag) × ReadsCourse course text tag
course_exists None text begins = (None, refl)
course_exists (Some course) text begins = let all = all_kept_exist (length text) text (omega arith) begins in (Some (Transform course.times course.quarters all.0), (all.0, all.1, refl))

transform_exists : (inside : Option (List ℕ)) → (tag : Option Tag) × ReadsTransform inside tag
transform_exists None = (None, refl)
transform_exists (Some inside) =
    let values = read_numbers_exist (counted_pieces true (before_tags inside)) in
    let tag = course_exists (course_of values.0) (from_tags inside) (from_begins inside) in
    (tag.0, (values.0, values.1, tag.1))

-- ---- tags of blocks

named_exists : (n : TagName) (rest : List ℕ) → (tag : Option Tag) × ReadsNamed n rest tag
named_exists name.Transform rest = transform_exists (bracketed rest)
named_exists n rest = single_exists n rest

any_exists : (found : Option (TagName × List ℕ)) → (tag : Option Tag) × ReadsAny found tag
any_exists None = (None, refl)
any_exists (Some found) = named_exists found.0 found.1

tags_exist : (n from : ℕ) (text : List ℕ) → length text ≤ n → BeginsTag text → (items : List Item) × AreTags from text items
tags_exist n from [] fits begins = ([], reads.none from)
tags_exist zero from (c ∷ text) fits begins = absurd (omega arith)
tags_exist (suc n) from (c ∷ text) fits begins =
    let first = any_exists (tag_name (take (tag_len text) text)) in
    let rest = tags_exist n (from + (1 + tag_len text)) (drop (tag_len text) text) (omega (arith, length-drop (tag_len text) text)) (outer_begins 0 text) in
    let P : ℕ → Type 0 = λ z. (items : List Item) × AreTags from (z ∷ text) items in
    subst P (sym begins) (tag_items from (from + (1 + tag_len text)) first.0 ++ rest.0, reads.more from text first.0 rest.0 first.1 rest.1)

part_tags_exist : (from : ℕ) (part : Part) → (mine : List Item) × ArePartTags from part mine
part_tags_exist from (Block body) = tags_exist (length (from_tags body)) (from + 1 + length (before_tags body)) (from_tags body) (omega arith) (from_begins body)
part_tags_exist from (Char c) = ([], refl)
part_tags_exist from HardBreak = ([], refl)
part_tags_exist from SoftBreak = ([], refl)
part_tags_exist from HardSpace = ([], refl)

-- ---- prefixes

-- the first `}`
first_close : (text : List ℕ) → has_close text ≡ true → (body : List ℕ) × (rest : List ℕ) × (text ≡ body ++ (125 ∷ rest)) × (has_close body ≡ false)
first_close [] some = absurd (cc)
first_close (c ∷ text) some = elim (eqb_tells c 125) [
  | inl is ↦ ([], text, ap (λ z. z ∷ text) is.1, refl)
  | inr other ↦
      let here : has_close (c ∷ text) ≡ has_close text = ap (λ z. z || has_close text) other.0 in
      let later = first_close text (sym here ∙ some) in
      let no : has_close (c ∷ later.0) ≡ has_close later.0 = ap (λ z. z || has_close later.0) other.0 in
      (c ∷ later.0, later.1, ap (λ z. c ∷ z) later.2, no ∙ later.3)
]

brace_front : (text : List ℕ) (b : Bool) → has_close text ≡ b → (part : Part) × (rest : List ℕ) × IsFront (123 ∷ text) part rest
brace_front text false none = (Char 123, text, brace_char text none)
brace_front text true some = let close = first_close text some in (Block close.0, close.1, (ap (λ z. 123 ∷ z) close.2, close.3))

backslash_front : (text : List ℕ) → (part : Part) × (rest : List ℕ) × IsFront (92 ∷ text) part rest
backslash_front [] = (Char 92, [], backslash_char [] refl)
backslash_front (c ∷ text) = elim (eqb_tells c 78) [
  | inl is ↦ (HardBreak, text, ap (λ z. 92 ∷ (z ∷ text)) is.1)
  | inr hard ↦ elim (eqb_tells c 110) [
    | inl is ↦ (SoftBreak, text, ap (λ z. 92 ∷ (z ∷ text)) is.1)
    | inr soft ↦ elim (eqb_tells c 104) [
      | inl is ↦ (HardSpace, text, ap (λ z. 92 ∷ (z ∷ text)) is.1)
      | inr space ↦ let no : begins_escape (c ∷ text) ≡ false = rw (hard.0, soft.0, space.0) refl in (Char 92, c ∷ text, backslash_char (c ∷ text) no)
    ]
  ]
]

-- the character at the front
char_front : (c : ℕ) (text chars : List ℕ) → encode_utf8_all chars ≡ c ∷ text → c ≢ 123 → c ≢ 92 → (part : Part) × (rest : List ℕ) × IsFront (c ∷ text) part rest
char_front c text [] e a b = absurd (not_nil c text (sym e))
char_front c text (w ∷ chars) e a b = (Char (shown_char w), encode_utf8_all chars, other_char (c ∷ text) (encode_utf8_all chars) w (shown_char w) (sym e) (other 123 a (omega arith)) (other 92 b (omega arith)) refl)
  where
    other : (k : ℕ) → c ≢ k → k < 128 → w ≢ k
    other k differs ascii is =
        let front : c ∷ text ≡ k ∷ encode_utf8_all chars = sym e ∙ ap (λ z. encode_utf8 z ++ encode_utf8_all chars) is ∙ ap (λ z. z ++ encode_utf8_all chars) (encode_ascii k ascii) in
        differs (ap (λ z. get_or z 0 0) front)

front_exists_at : (c : ℕ) (text : List ℕ) → IsUtf8 (c ∷ text) → (part : Part) × (rest : List ℕ) × IsFront (c ∷ text) part rest
front_exists_at c text utf8 = elim (eqb_tells c 123) [
  | inl is ↦ let P : ℕ → Type 0 = λ z. (part : Part) × (rest : List ℕ) × IsFront (z ∷ text) part rest in subst P (sym is.1) (brace_front text (has_close text) refl)
  | inr brace ↦ elim (eqb_tells c 92) [
    | inl is ↦ let P : ℕ → Type 0 = λ z. (part : Part) × (rest : List ℕ) × IsFront (z ∷ text) part rest in subst P (sym is.1) (backslash_front text)
    | inr slash ↦ char_front c text _ (encodes-chars (c ∷ text) utf8) brace.1 slash.1
  ]
]

items_exist : (n from : ℕ) (text : List ℕ) → length text ≤ n → IsUtf8 text → (items : List Item) × AreItems from text items
items_exist n from [] fits utf8 = ([], reads.none from)
items_exist zero from (c ∷ text) fits utf8 = absurd (omega arith)
items_exist (suc n) from (c ∷ text) fits utf8 =
    let front = front_exists_at c text utf8 in
    let shorter = some_bytes (c ∷ text) front.0 front.1 front.2 in
    let bytes = front_bytes (c ∷ text) front.0 front.1 front.2 utf8 in
    let to = from + length (c ∷ text) - length front.1 in
    let mine = part_tags_exist from front.0 in
    let rest = items_exist n to front.1 (omega arith) bytes.2 in
    (part_item from to front.0 ∷ (mine.0 ++ rest.0), reads.more from to (c ∷ text) front.0 front.1 mine.0 rest.0 front.2 (omega arith) mine.1 rest.1)

pub has_reading : HasReading
has_reading text utf8 = items_exist (length text) 0 text (omega arith) utf8
