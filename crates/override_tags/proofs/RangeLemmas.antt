-- What a text says lies in its range: numbers, tags by their names, transforms, items.
use Rattle.std.proofs.Common.{◌≡◌, ℕ, ◌≤◌, map, negsuc, Bool, true, false, cond, ◌&&◌, List, [], ◌∷◌, ◌++◌, take, ℤ, pos, ◌+ℤ◌, ◌*ℤ◌, ◌≤ℤ◌, refl, sym, subst, arith, Option, None, Some, All}
use Rattle.std.specs.Prelude.{MatchBool, IfSome, option_and_then, nat_le, int_le}
use Rattle.std.specs.List.{list_all}
use Rattle.std.specs.Int.{int_max}
use Rattle.std.specs.Int.RustNames.{unsigned_abs}
use Rattle.std.specs.Option.{option_map, option_to_list}
use Rattle.std.proofs.lemmas.Bool.{and_parts, leb-true}
use Rattle.std.proofs.lemmas.Int.{ints, clamps}
use Rattle.std.proofs.lemmas.List.Elements.{All-nil, All-cons, All-head, All-tail, All-append}
use Rattle.ass_num.specs.Floor.{floor_div, held}
use Rattle.ass_num.specs.Limits.{IsHeldNumber}
use Rattle.ass_num.specs.Numerals.{IsMilli}
use Rattle.ass_num.proofs.Floor.{floor_div_within, held_within}
use Rattle.ass_num.specs.Blanks.{trimmed}
use Rattle.drawing_path.proofs.RangeLemmas.{milli_held, drawing_valid}
use Rattle.tag_arguments.specs.Cuts.{bracketed}
use Rattle.tag_arguments.specs.Names.{tag_names, tag_name}
use Rattle.tag_arguments.specs.Numbers.{ReadsOptional, ReadsFront, AreNumbers, ReadsNumbers, ReadsBracketed, comma_pieces, counted_pieces}
use Rattle.tag_arguments.specs.declared.kinds.Num.{Num}
use Rattle.tag_arguments.specs.declared.kinds.Num.TheVariants as num
use Rattle.tag_arguments.specs.declared.kinds.Sung.{Sung}
use Rattle.tag_arguments.specs.declared.kinds.TagName.{TagName}
use Rattle.tag_arguments.specs.declared.kinds.TagName.TheVariants as name
use Rattle.tag_arguments.proofs.LongestLemmas.{longest_counts, all_rows}
use Rattle.ass_num.specs.Blanks.{past_blanks}
use Rattle.override_tags.specs.declared.item.Item.{Item}
use Rattle.override_tags.specs.declared.tag.ClipTag.TheVariants.{Rect, Drawn}
use Rattle.override_tags.specs.declared.tag.GradualTag.{GradualTag}
use Rattle.override_tags.specs.declared.tag.GradualTag.TheVariants as gradual
use Rattle.override_tags.specs.declared.tag.Tag.{Tag}
use Rattle.override_tags.specs.declared.tag.Tag.TheVariants.{Number, Colour, Alpha, FontName, Reset, Align, Pos, Move, Org, Fad, Fade, Clip, Karaoke, Transform}
use Rattle.override_tags.specs.declared.transform.Course.{Course}
use Rattle.override_tags.specs.Fronts.{Part, Char, HardBreak, SoftBreak, HardSpace, Block}
use Rattle.override_tags.specs.Limits.{max_syllable, max_quarters, max_tag_scale}
use Rattle.override_tags.specs.Ranges.{IsTagTime, AreCorners, IsGradualTag, IsSetNumber, IsHeldTag, IsHeldItem}
use Rattle.override_tags.specs.Readings as reads
use Rattle.override_tags.specs.Readings.{AreTags, ArePartTags, AreItems, tag_items, part_item, IsTextReading}
use Rattle.override_tags.specs.Singles.{whole, exact, is_wrap_style, wrap_tag, key_tag, key_of_old, karaoke_of, pos_of, org_of, move_of, fade_of, numbered_of, rectangle_of, scale_of, ReadsDrawn, ReadsScaled, ReadsClipPieces, ReadsClip, ReadsNumbered, ReadsSingle}
use Rattle.override_tags.specs.Tags as tags
use Rattle.override_tags.specs.Tags.{before_tags, from_tags, quarters_of, course_of, is_gradual, gradual_of, ReadsFound, ReadsKept, AreKept, ReadsCourse, ReadsTransform, ReadsNamed, ReadsAny, ReadsTag}

-- ---- arguments

abbrev HeldIf : Option ℤ → Type 0
HeldIf value = IfSome value IsHeldNumber

front_held : (argument : List ℕ) (value : Option ℤ) → ReadsFront IsMilli argument value → HeldIf value
front_held argument None read = tt
front_held argument (Some v) read = milli_held (take read.0 argument) v read.1.spelled

optional_held : (argument : List ℕ) (value : Option (Option ℤ)) → ReadsOptional IsMilli argument value → IfSome value HeldIf
optional_held argument None read = tt
optional_held argument (Some None) read = tt
optional_held argument (Some (Some v)) read = milli_held (take read.1.0 argument) v read.1.1.spelled

unsigned_held : (signed : Bool) (argument : List ℕ) (value : Option (Option ℤ)) → MatchBool signed (value ≡ None) (ReadsOptional IsMilli argument value) → IfSome value HeldIf
unsigned_held true argument value read = let P : Option (Option ℤ) → Type 0 = λ z. IfSome z HeldIf in subst P (sym read) tt
unsigned_held false argument value read = optional_held argument value read

numbers_held : (parts : List (List ℕ)) (values : List ℤ) → AreNumbers parts values → All IsHeldNumber values
numbers_held [] [] are = All-nil IsHeldNumber
numbers_held [] (v ∷ values) are = elim are [ ]
numbers_held (p ∷ parts) [] are = elim are [ ]
numbers_held (p ∷ parts) (v ∷ values) are = All-cons IsHeldNumber v values (milli_held (take are.0.0 (trimmed p)) v are.0.1.spelled) (numbers_held parts values are.1)

read_numbers_held : (parts : List (List ℕ)) (values : Option (List ℤ)) → ReadsNumbers parts values → IfSome values (All IsHeldNumber)
read_numbers_held parts None read = tt
read_numbers_held parts (Some values) read = numbers_held parts values read.1

bracketed_held : (inside : Option (List ℕ)) (values : Option (List ℤ)) → ReadsBracketed inside values → IfSome values (All IsHeldNumber)
bracketed_held None values read = let P : Option (List ℤ) → Type 0 = λ z. IfSome z (All IsHeldNumber) in subst P (sym read) tt
bracketed_held (Some inside) values read = read_numbers_held (comma_pieces inside) values read

-- ---- whole numbers

whole_time : (v : ℤ) → IsHeldNumber v → IsTagTime (whole v)
whole_time v is = floor_div_within (negsuc 999999) (pos 1000000) v 1000 (omega arith) (omega (arith, ints, is.0)) (omega (arith, ints, is.1))

syllable_held : (v : ℤ) → IsHeldNumber v → (pos 0 ≤ℤ int_max (pos 0) (floor_div v (pos 100))) × (int_max (pos 0) (floor_div v (pos 100)) ≤ℤ pos max_syllable)
syllable_held v is =
    let d = floor_div_within (negsuc 9999999) (pos 10000000) v 100 (omega arith) (omega (arith, ints, is.0)) (omega (arith, ints, is.1)) in
    (omega (arith, ints, clamps, d.0, d.1), omega (arith, ints, clamps, d.0, d.1))

held_abs : (most : ℕ) (x : ℤ) → 1 ≤ most → (1 ≤ unsigned_abs (held (pos 1) (pos most) x)) × (unsigned_abs (held (pos 1) (pos most) x) ≤ most)
held_abs most x some =
    let both = held_within (pos 1) (pos most) x (omega (arith, ints)) in
    between (held (pos 1) (pos most) x) both.0 both.1
  where
    between : (z : ℤ) → pos 1 ≤ℤ z → z ≤ℤ pos most → (1 ≤ unsigned_abs z) × (unsigned_abs z ≤ most)
    between (pos n) low high = (omega (arith, ints), omega (arith, ints))
    between (negsuc n) low high = absurd (omega (arith, ints))

-- ---- tags that aren't transforms

abbrev HeldTagIf : Option Tag → Type 0
HeldTagIf tag = IfSome tag IsHeldTag

-- the tag is this one
held_as : (tag new : Option Tag) → tag ≡ new → HeldTagIf new → HeldTagIf tag
held_as tag new e is = let P : Option Tag → Type 0 = λ z. HeldTagIf z in subst P (sym e) is

number_held : (property : Num) (value : Option (Option ℤ)) → (property ≡ num.Wrap → ⊥) → IfSome value HeldIf → HeldTagIf (option_map (Number property) value)
number_held property None other is = tt
number_held property (Some None) other is = tt
number_held property (Some (Some v)) other is = (is, λ e. absurd (other e))

wrap_held : (value : Option (Option ℤ)) → IfSome value HeldIf → HeldTagIf (wrap_tag value)
wrap_held None is = tt
wrap_held (Some None) is = tt
wrap_held (Some (Some v)) is = by_style (is_wrap_style v) refl
  where
    by_style : (b : Bool) → is_wrap_style v ≡ b → HeldTagIf (cond b (Some (Number num.Wrap (Some v))) None)
    by_style true e = (is, λ same. e)
    by_style false e = tt

key_held : (n : ℤ) → HeldTagIf (key_tag n)
key_held (pos n) = by_key (int_le (pos 1) (pos n)) (int_le (pos n) (pos 9)) (λ e. leb-true 1 n e) (λ e. leb-true n 9 e)
  where
    by_key : (a b : Bool) → (a ≡ true → 1 ≤ n) → (b ≡ true → n ≤ 9) → HeldTagIf (cond (a && b) (Some (Align n)) None)
    by_key true true low high = (low refl, high refl)
    by_key true false low high = tt
    by_key false b low high = tt
key_held (negsuc n) = tt

align_held : (value : Option ℤ) → HeldTagIf (option_and_then key_tag value)
align_held None = tt
align_held (Some n) = key_held n

old_align_held : (value : Option ℤ) → HeldTagIf (option_and_then (λ n. key_tag (key_of_old n)) value)
old_align_held None = tt
old_align_held (Some n) = key_held (key_of_old n)

karaoke_held : (kind : Sung) (value : Option ℤ) → HeldIf value → HeldTagIf (karaoke_of kind value)
karaoke_held kind None is = tt
karaoke_held kind (Some v) is = syllable_held v is

-- the first of held numbers, and the others
first_held : (v : ℤ) (values : List ℤ) → All IsHeldNumber (v ∷ values) → IsHeldNumber v
first_held v values all = All-head IsHeldNumber v values all

others_held : (v : ℤ) (values : List ℤ) → All IsHeldNumber (v ∷ values) → All IsHeldNumber values
others_held v values all = All-tail IsHeldNumber v values all

two_held : (x y : ℤ) (more : List ℤ) → All IsHeldNumber (x ∷ (y ∷ more)) → IsHeldNumber x × IsHeldNumber y
two_held x y more all = (first_held x (y ∷ more) all, first_held y more (others_held x (y ∷ more) all))

four_held : (a b c d : ℤ) (more : List ℤ) → All IsHeldNumber (a ∷ (b ∷ (c ∷ (d ∷ more)))) → AreCorners (a ∷ (b ∷ (c ∷ (d ∷ []))))
four_held a b c d more all =
    let first = two_held a b (c ∷ (d ∷ more)) all in
    let behind = others_held b (c ∷ (d ∷ more)) (others_held a (b ∷ (c ∷ (d ∷ more))) all) in
    let second = two_held c d more behind in
    (refl, All-cons IsHeldNumber a (b ∷ (c ∷ (d ∷ []))) first.0 (All-cons IsHeldNumber b (c ∷ (d ∷ [])) first.1 (All-cons IsHeldNumber c (d ∷ []) second.0 (All-cons IsHeldNumber d [] second.1 (All-nil IsHeldNumber)))))

behind_four : (a b c d : ℤ) (more : List ℤ) → All IsHeldNumber (a ∷ (b ∷ (c ∷ (d ∷ more)))) → All IsHeldNumber more
behind_four a b c d more all = others_held d more (others_held c (d ∷ more) (others_held b (c ∷ (d ∷ more)) (others_held a (b ∷ (c ∷ (d ∷ more))) all)))

pos_held : (values : Option (List ℤ)) → IfSome values (All IsHeldNumber) → HeldTagIf (pos_of values)
pos_held None is = tt
pos_held (Some []) is = tt
pos_held (Some (x ∷ [])) is = tt
pos_held (Some (x ∷ (y ∷ []))) is = two_held x y [] is
pos_held (Some (x ∷ (y ∷ (z ∷ more)))) is = tt

org_held : (values : Option (List ℤ)) → IfSome values (All IsHeldNumber) → HeldTagIf (org_of values)
org_held None is = tt
org_held (Some []) is = tt
org_held (Some (x ∷ [])) is = tt
org_held (Some (x ∷ (y ∷ []))) is = two_held x y [] is
org_held (Some (x ∷ (y ∷ (z ∷ more)))) is = tt

move_held : (values : Option (List ℤ)) → IfSome values (All IsHeldNumber) → HeldTagIf (move_of values)
move_held None is = tt
move_held (Some []) is = tt
move_held (Some (a ∷ [])) is = tt
move_held (Some (a ∷ (b ∷ []))) is = tt
move_held (Some (a ∷ (b ∷ (c ∷ [])))) is = tt
move_held (Some (a ∷ (b ∷ (c ∷ (d ∷ []))))) is = (four_held a b c d [] is, (omega (arith, ints), omega (arith, ints)), (omega (arith, ints), omega (arith, ints)))
move_held (Some (a ∷ (b ∷ (c ∷ (d ∷ (e ∷ [])))))) is = tt
move_held (Some (a ∷ (b ∷ (c ∷ (d ∷ (e ∷ (f ∷ []))))))) is =
    let times = two_held e f [] (behind_four a b c d (e ∷ (f ∷ [])) is) in
    (four_held a b c d (e ∷ (f ∷ [])) is, whole_time e times.0, whole_time f times.1)
move_held (Some (a ∷ (b ∷ (c ∷ (d ∷ (e ∷ (f ∷ (g ∷ more)))))))) is = tt

times_held : (values : List ℤ) → All IsHeldNumber values → All IsTagTime (map whole values)
times_held [] all = All-nil IsTagTime
times_held (v ∷ values) all = All-cons IsTagTime (whole v) (map whole values) (whole_time v (first_held v values all)) (times_held values (others_held v values all))

fade_held : (values : Option (List ℤ)) → IfSome values (All IsHeldNumber) → HeldTagIf (fade_of values)
fade_held None is = tt
fade_held (Some []) is = tt
fade_held (Some (a ∷ [])) is = tt
fade_held (Some (a ∷ (b ∷ []))) is = let both = two_held a b [] is in (whole_time a both.0, whole_time b both.1)
fade_held (Some (a ∷ (b ∷ (c ∷ [])))) is = tt
fade_held (Some (a ∷ (b ∷ (c ∷ (d ∷ []))))) is = tt
fade_held (Some (a ∷ (b ∷ (c ∷ (d ∷ (e ∷ [])))))) is = tt
fade_held (Some (a ∷ (b ∷ (c ∷ (d ∷ (e ∷ (f ∷ []))))))) is = tt
fade_held (Some (a ∷ (b ∷ (c ∷ (d ∷ (e ∷ (f ∷ (g ∷ [])))))))) is = (refl, times_held (a ∷ (b ∷ (c ∷ (d ∷ (e ∷ (f ∷ (g ∷ []))))))) is)
fade_held (Some (a ∷ (b ∷ (c ∷ (d ∷ (e ∷ (f ∷ (g ∷ (h ∷ more))))))))) is = tt

rectangle_held : (inverse : Bool) (values : Option (List ℤ)) → IfSome values (All IsHeldNumber) → HeldTagIf (rectangle_of inverse values)
rectangle_held inverse None is = tt
rectangle_held inverse (Some []) is = tt
rectangle_held inverse (Some (a ∷ [])) is = tt
rectangle_held inverse (Some (a ∷ (b ∷ []))) is = tt
rectangle_held inverse (Some (a ∷ (b ∷ (c ∷ [])))) is = tt
rectangle_held inverse (Some (a ∷ (b ∷ (c ∷ (d ∷ []))))) is = four_held a b c d [] is
rectangle_held inverse (Some (a ∷ (b ∷ (c ∷ (d ∷ (e ∷ more)))))) is = tt

drawn_held : (inverse : Bool) (drawing : List ℕ) (scale : ℕ) (tag : Option Tag) → 1 ≤ scale → scale ≤ max_tag_scale → ReadsDrawn inverse drawing scale tag → HeldTagIf tag
drawn_held inverse drawing scale tag low high read = held_as tag _ read.2 (drawing_valid (trimmed drawing) read.0.segs read.1, low, high)

scaled_held : (inverse : Bool) (drawing : List ℕ) (scale : Option ℤ) (tag : Option Tag) → ReadsScaled inverse drawing scale tag → HeldTagIf tag
scaled_held inverse drawing None tag read = held_as tag None read tt
scaled_held inverse drawing (Some v) tag read = let scale = held_abs 30 (whole v) (omega arith) in drawn_held inverse drawing (scale_of v) tag scale.0 scale.1 read

pieces_held : (inverse : Bool) (parts : List (List ℕ)) (tag : Option Tag) → ReadsClipPieces inverse parts tag → HeldTagIf tag
pieces_held inverse [] tag read = held_as tag _ read.2 (rectangle_held inverse read.0 (read_numbers_held [] read.0 read.1))
pieces_held inverse (drawing ∷ []) tag read = drawn_held inverse drawing 1 tag (omega arith) (omega arith) read
pieces_held inverse (scale ∷ (drawing ∷ [])) tag read = scaled_held inverse drawing read.0 tag read.2
pieces_held inverse (x ∷ (y ∷ (z ∷ more))) tag read = held_as tag _ read.2 (rectangle_held inverse read.0 (read_numbers_held (x ∷ (y ∷ (z ∷ more))) read.0 read.1))

clip_held : (inverse : Bool) (inside : Option (List ℕ)) (tag : Option Tag) → ReadsClip inverse inside tag → HeldTagIf tag
clip_held inverse None tag read = held_as tag None read tt
clip_held inverse (Some inside) tag read = pieces_held inverse (comma_pieces inside) tag read

-- ---- by their names

-- what holds of each name of the table
is_named : TagName → Bool
is_named (name.Number num.Wrap) = false
is_named (name.Colour which) = nat_le 1 which && nat_le which 4
is_named (name.Alpha which) = nat_le which 4
is_named _ = true

table_named : list_all (λ row. is_named row.1) tag_names ≡ true
unfolding is_named
table_named = refl

found_named : (text : List ℕ) (n : TagName) (rest : List ℕ) → tag_name text ≡ Some (n, rest) → is_named n ≡ true
found_named text n rest found =
    let longest = longest_counts (past_blanks text) n rest found in
    all_rows (λ row. is_named row.1) tag_names longest.0 n table_named longest.1.listed

not_wrap : (property : Num) → is_named (name.Number property) ≡ true → property ≡ num.Wrap → ⊥
unfolding is_named
not_wrap property named e =
    let P : Num → Type 0 = λ z. is_named (name.Number z) ≡ true in
    let no : false ≡ true = subst P e named in
    absurd (cc)

colour_named : (which : ℕ) → is_named (name.Colour which) ≡ true → (1 ≤ which) × (which ≤ 4)
unfolding is_named
colour_named which named = let both = and_parts _ _ named in (leb-true 1 which both.0, leb-true which 4 both.1)

alpha_named : (which : ℕ) → is_named (name.Alpha which) ≡ true → which ≤ 4
unfolding is_named
alpha_named which named = leb-true which 4 named

numbered_held : (n : TagName) (values : Option (List ℤ)) → IfSome values (All IsHeldNumber) → HeldTagIf (numbered_of n values)
numbered_held name.Pos values is = pos_held values is
numbered_held name.Move values is = move_held values is
numbered_held name.Org values is = org_held values is
numbered_held name.Fade values is = fade_held values is
numbered_held _ values is = tt

numbers_tag_held : (n : TagName) (rest : List ℕ) (tag : Option Tag) → ReadsNumbered n rest tag → HeldTagIf tag
numbers_tag_held n rest tag read = held_as tag _ read.2 (numbered_held n read.0 (bracketed_held (bracketed rest) read.0 read.1))

colour_held : (which : ℕ) (value : Option (Option ℕ)) → (1 ≤ which) × (which ≤ 4) → HeldTagIf (option_map (Colour which) value)
colour_held which None is = tt
colour_held which (Some value) is = is

alpha_held : (which : ℕ) (value : Option (Option ℕ)) → which ≤ 4 → HeldTagIf (option_map (Alpha which) value)
alpha_held which None is = tt
alpha_held which (Some value) is = is

single_held : (n : TagName) (rest : List ℕ) (tag : Option Tag) → is_named n ≡ true → ReadsSingle n rest tag → HeldTagIf tag
single_held (name.Number property) rest tag named read = held_as tag _ read.2 (number_held property read.0 (not_wrap property named) (optional_held _ read.0 read.1))
single_held name.Size rest tag named read = held_as tag _ read.2 (number_held num.Size read.0 (λ e. absurd (cc)) (unsigned_held _ _ read.0 read.1))
single_held name.Wrap rest tag named read = held_as tag _ read.2 (wrap_held read.0 (optional_held _ read.0 read.1))
single_held (name.Colour which) rest tag named read = held_as tag _ read.2 (colour_held which read.0 (colour_named which named))
single_held (name.Alpha which) rest tag named read = held_as tag _ read.2 (alpha_held which read.0 (alpha_named which named))
single_held name.FontName rest tag named read = held_as tag _ read tt
single_held name.Reset rest tag named read = held_as tag _ read tt
single_held name.Align rest tag named read = held_as tag _ read.2 (align_held (option_and_then exact read.0))
single_held name.OldAlign rest tag named read = held_as tag _ read.2 (old_align_held (option_and_then exact read.0))
single_held (name.Karaoke kind) rest tag named read = held_as tag _ read.2 (karaoke_held kind read.0 (front_held _ read.0 read.1))
single_held name.Pos rest tag named read = numbers_tag_held name.Pos rest tag read
single_held name.Move rest tag named read = numbers_tag_held name.Move rest tag read
single_held name.Org rest tag named read = numbers_tag_held name.Org rest tag read
single_held name.Fade rest tag named read = numbers_tag_held name.Fade rest tag read
single_held (name.Clip inverse) rest tag named read = clip_held inverse (bracketed rest) tag read
single_held name.Transform rest tag named read = held_as tag None read tt
single_held name.Skipped rest tag named read = held_as tag None read tt

-- ---- transforms

-- a held tag that a transform keeps
gradual_held : (tag : Tag) → IsHeldTag tag → IfSome (gradual_of tag) IsGradualTag
gradual_held (Number property value) is = by_kind (is_gradual property) refl
  where
    value_held : (v : Option ℤ) → IfSome v (IsSetNumber property) → HeldIf v
    value_held None set = tt
    value_held (Some v) set = set.0

    by_kind : (b : Bool) → is_gradual property ≡ b → IfSome (cond b (Some (gradual.Number property value)) None) IsGradualTag
    by_kind true e = (e, value_held value is)
    by_kind false e = tt
gradual_held (Colour which value) is = is
gradual_held (Alpha which value) is = is
gradual_held (FontName name) is = tt
gradual_held (Reset name) is = tt
gradual_held (Align key) is = tt
gradual_held (Pos x y) is = tt
gradual_held (Move path t1 t2) is = tt
gradual_held (Org x y) is = tt
gradual_held (Fad t1 t2) is = tt
gradual_held (Fade numbers) is = tt
gradual_held (Clip (Rect corners inverse)) is = is
gradual_held (Clip (Drawn path scale inverse)) is = tt
gradual_held (Karaoke kind len) is = tt
gradual_held (Transform times quarters tags) is = tt

kept_held : (single : Option Tag) (tag : Option GradualTag) → HeldTagIf single → tag ≡ option_and_then gradual_of single → IfSome tag IsGradualTag
kept_held None tag is e = let P : Option GradualTag → Type 0 = λ z. IfSome z IsGradualTag in subst P (sym e) tt
kept_held (Some single) tag is e = let P : Option GradualTag → Type 0 = λ z. IfSome z IsGradualTag in subst P (sym e) (gradual_held single is)

found_held : (found : Option (TagName × List ℕ)) (tag : Option Tag) → ((n : TagName) (rest : List ℕ) → found ≡ Some (n, rest) → is_named n ≡ true) → ReadsFound found tag → HeldTagIf tag
found_held None tag named read = held_as tag None read tt
found_held (Some found) tag named read = single_held found.0 found.1 tag (named found.0 found.1 refl) read

read_kept_held : (text : List ℕ) (tag : Option GradualTag) → ReadsKept text tag → IfSome tag IsGradualTag
read_kept_held text tag read = kept_held read.0 tag (found_held (tag_name text) read.0 (found_named text) read.1) read.2

listed_held : (tag : Option GradualTag) → IfSome tag IsGradualTag → All IsGradualTag (option_to_list tag)
listed_held None is = All-nil IsGradualTag
listed_held (Some tag) is = All-cons IsGradualTag tag [] is (All-nil IsGradualTag)

all_kept_held : {text : List ℕ} {all : List GradualTag} → AreKept text all → All IsGradualTag all
all_kept_held tags.none = All-nil IsGradualTag
all_kept_held (tags.more text tag others read rest) = All-append IsGradualTag (option_to_list tag) others (listed_held tag (read_kept_held _ tag read)) (all_kept_held rest)

-- a course whose times and speed lie where they should
record IsHeldCourse (course : Course) : Type 0 where
  times : IfSome course.times (λ t. IsTagTime t.0 × IsTagTime t.1)
  slow : 1 ≤ course.quarters
  fast : course.quarters ≤ max_quarters

quarters_held : (accel : ℤ) → (1 ≤ quarters_of accel) × (quarters_of accel ≤ max_quarters)
quarters_held accel = held_abs 32 (floor_div ((accel *ℤ pos 4) +ℤ pos 500) (pos 1000)) (omega arith)

course_held : (values : Option (List ℤ)) → IfSome values (All IsHeldNumber) → IfSome (course_of values) IsHeldCourse
course_held None is = tt
course_held (Some []) is = record { times = tt; slow = omega arith; fast = omega arith }
course_held (Some (a ∷ [])) is = record { times = tt; slow = (quarters_held a).0; fast = (quarters_held a).1 }
course_held (Some (a ∷ (b ∷ []))) is = let both = two_held a b [] is in record { times = (whole_time a both.0, whole_time b both.1); slow = omega arith; fast = omega arith }
course_held (Some (a ∷ (b ∷ (c ∷ [])))) is = let both = two_held a b (c ∷ []) is in record { times = (whole_time a both.0, whole_time b both.1); slow = (quarters_held c).0; fast = (quarters_held c).1 }
course_held (Some (a ∷ (b ∷ (c ∷ (d ∷ more))))) is = tt

course_tag_held : (course : Option Course) (text : List ℕ) (tag : Option Tag) → IfSome course IsHeldCourse → ReadsCourse course text tag → HeldTagIf tag
course_tag_held None text tag is read = held_as tag None read tt
course_tag_held (Some course) text tag is read = held_as tag _ read.2 (is.times, is.slow, is.fast, all_kept_held read.1)

transform_held : (inside : Option (List ℕ)) (tag : Option Tag) → ReadsTransform inside tag → HeldTagIf tag
transform_held None tag read = held_as tag None read tt
transform_held (Some inside) tag read =
    course_tag_held (course_of read.0) (from_tags inside) tag (course_held read.0 (read_numbers_held (counted_pieces true (before_tags inside)) read.0 read.1)) read.2

-- ---- items

named_held : (n : TagName) (rest : List ℕ) (tag : Option Tag) → is_named n ≡ true → ReadsNamed n rest tag → HeldTagIf tag
named_held name.Transform rest tag named read = transform_held (bracketed rest) tag read
named_held n rest tag named read = single_held n rest tag named read

any_held : (found : Option (TagName × List ℕ)) (tag : Option Tag) → ((n : TagName) (rest : List ℕ) → found ≡ Some (n, rest) → is_named n ≡ true) → ReadsAny found tag → HeldTagIf tag
any_held None tag named read = held_as tag None read tt
any_held (Some found) tag named read = named_held found.0 found.1 tag (named found.0 found.1 refl) read

tag_items_held : (from to : ℕ) (tag : Option Tag) → HeldTagIf tag → All IsHeldItem (tag_items from to tag)
tag_items_held from to None is = All-nil IsHeldItem
tag_items_held from to (Some tag) is = All-cons IsHeldItem _ [] is (All-nil IsHeldItem)

tags_held : {from : ℕ} {text : List ℕ} {items : List Item} → AreTags from text items → All IsHeldItem items
tags_held (reads.none from) = All-nil IsHeldItem
tags_held (reads.more from text tag items read rest) =
    All-append IsHeldItem (tag_items from _ tag) items (tag_items_held from _ tag (any_held (tag_name _) tag (found_named _) read)) (tags_held rest)

part_tags_held : (from : ℕ) (part : Part) (mine : List Item) → ArePartTags from part mine → All IsHeldItem mine
part_tags_held from (Block body) mine are = tags_held are
part_tags_held from (Char c) mine are = let P : List Item → Type 0 = λ z. All IsHeldItem z in subst P (sym are) (All-nil IsHeldItem)
part_tags_held from HardBreak mine are = let P : List Item → Type 0 = λ z. All IsHeldItem z in subst P (sym are) (All-nil IsHeldItem)
part_tags_held from SoftBreak mine are = let P : List Item → Type 0 = λ z. All IsHeldItem z in subst P (sym are) (All-nil IsHeldItem)
part_tags_held from HardSpace mine are = let P : List Item → Type 0 = λ z. All IsHeldItem z in subst P (sym are) (All-nil IsHeldItem)

part_held : (from to : ℕ) (part : Part) → IsHeldItem (part_item from to part)
part_held from to (Char c) = tt
part_held from to HardBreak = tt
part_held from to SoftBreak = tt
part_held from to HardSpace = tt
part_held from to (Block body) = tt

pub items_held : {from : ℕ} {text : List ℕ} {items : List Item} → AreItems from text items → All IsHeldItem items
items_held (reads.none from) = All-nil IsHeldItem
items_held (reads.more from to text part rest mine items front place are others) =
    All-cons IsHeldItem (part_item from to part) (mine ++ items) (part_held from to part) (All-append IsHeldItem mine items (part_tags_held from part mine are) (items_held others))
