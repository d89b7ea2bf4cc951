-- A text has one reading: one part at its front, one tag of each text, one list of tags and of items.
use Rattle.std.proofs.Common.{◌≡◌, ℕ, ◌+◌, Bool, true, false, ◌||◌, ◌⊎◌, inl, inr, List, [], ◌∷◌, ◌++◌, length, get_or, take, drop, ℤ, refl, sym, ap, ◌∙◌, subst, arith, Option, None, Some}
use Rattle.std.specs.Prelude.{MatchBool, option_and_then}
use Rattle.std.specs.Option.{option_map, option_to_list}
use Rattle.std.proofs.lemmas.Bool.{false≢true, or_parts}
use Rattle.std.proofs.lemmas.List.Folds.{list_any-append}
use Rattle.std.proofs.lemmas.Str.{encode_same}
use Rattle.ass_num.specs.Fronts.{SpellsOne}
use Rattle.ass_num.specs.Numerals.{IsMilli, IsColour, IsAlpha}
use Rattle.ass_num.specs.declared.geometry.Seg.{Seg}
use Rattle.ass_num.proofs.OneReading.{one_front, one_milli, one_marked}
use Rattle.drawing_path.proofs.LawLemmas.{one_path}
use Rattle.ass_num.specs.Blanks.{trimmed}
use Rattle.tag_arguments.specs.Cuts.{plain_argument, bracketed, tag_len}
use Rattle.tag_arguments.specs.Names.{tag_name}
use Rattle.tag_arguments.specs.Numbers.{ReadsOptional, ReadsFront, AreNumbers, ReadsNumbers, ReadsBracketed, comma_pieces, begins_signed, counted_pieces}
use Rattle.tag_arguments.specs.declared.kinds.Num.TheVariants as num
use Rattle.tag_arguments.specs.declared.kinds.TagName.{TagName}
use Rattle.tag_arguments.specs.declared.kinds.TagName.TheVariants as name
use Rattle.override_tags.specs.declared.tag.ClipTag.TheVariants.{Drawn}
use Rattle.override_tags.specs.declared.tag.Tag.{Tag}
use Rattle.override_tags.specs.declared.tag.Tag.TheVariants.{Number, Colour, Alpha, Clip, Transform}
use Rattle.override_tags.specs.declared.tag.GradualTag.{GradualTag}
use Rattle.override_tags.specs.declared.transform.Course.{Course}
use Rattle.override_tags.specs.Fronts.{Part, Char, HardBreak, SoftBreak, HardSpace, Block, IsFront, has_close, begins_other, shown_char}
use Rattle.override_tags.specs.declared.item.Item.{Item}
use Rattle.override_tags.specs.Singles.{wrap_tag, align_of, old_align_of, karaoke_of, numbered_of, rectangle_of, scale_of, ReadsDrawn, ReadsScaled, ReadsClipPieces, ReadsClip, ReadsNumbered, ReadsSingle}
use Rattle.override_tags.specs.Tags as tags
use Rattle.override_tags.specs.Tags.{before_tags, from_tags, course_of, gradual_of, ReadsFound, ReadsKept, AreKept, ReadsCourse, ReadsTransform, ReadsNamed, ReadsAny, ReadsTag}
use Rattle.override_tags.specs.Readings as reads
use Rattle.override_tags.specs.Readings.{AreTags, AreBlockTags, ArePartTags, AreItems, tag_items, part_item, IsTextReading}
use Rattle.override_tags.specs.Laws.{OneReading}
use Rattle.override_tags.proofs.LawLemmas.{some_bytes}

-- ---- what stands at the front

-- the bytes behind a `\`
behind_backslash : (text r s : List ℕ) (c d : ℕ) → text ≡ 92 ∷ (c ∷ r) → text ≡ 92 ∷ (d ∷ s) → (c ≡ d) × (r ≡ s)
behind_backslash text r s c d first second = let e = sym first ∙ second in (ap (λ z. get_or z 1 0) e, ap (drop 2) e)

-- no text begins with two bytes
not_both : {R : Type 0} (text r s : List ℕ) (c d : ℕ) → text ≡ c ∷ r → text ≡ d ∷ s → (c ≡ d → ⊥) → R
not_both text r s c d first second other = absurd (other (ap (λ z. get_or z 0 0) (sym first ∙ second)))

not_escapes : {R : Type 0} (text r s : List ℕ) (c d : ℕ) → text ≡ 92 ∷ (c ∷ r) → text ≡ 92 ∷ (d ∷ s) → (c ≡ d → ⊥) → R
not_escapes text r s c d first second other = absurd (other (behind_backslash text r s c d first second).0)

-- the body of a block ends at the first `}`
one_body : (a b r s : List ℕ) → a ++ (125 ∷ r) ≡ b ++ (125 ∷ s) → has_close a ≡ false → has_close b ≡ false → (a ≡ b) × (r ≡ s)
one_body [] [] r s e first second = (refl, ap (drop 1) e)
one_body [] (d ∷ b) r s e first second =
    let P : ℕ → Type 0 = λ z. has_close (z ∷ b) ≡ false in
    let same : 125 ≡ d = ap (λ z. get_or z 0 0) e in
    absurd (false≢true (sym (subst P (sym same) second)))
one_body (c ∷ a) [] r s e first second =
    let P : ℕ → Type 0 = λ z. has_close (z ∷ a) ≡ false in
    let same : c ≡ 125 = ap (λ z. get_or z 0 0) e in
    absurd (false≢true (sym (subst P same first)))
one_body (c ∷ a) (d ∷ b) r s e first second =
    let same : c ≡ d = ap (λ z. get_or z 0 0) e in
    let others = one_body a b r s (ap (drop 1) e) (or_parts _ _ first).1 (or_parts _ _ second).1 in
    (ap (λ z. z ∷ a) same ∙ ap (λ z. d ∷ z) others.0, others.1)

block_begins : (text body rest : List ℕ) → text ≡ 123 ∷ (body ++ (125 ∷ rest)) → has_close body ≡ false → begins_other text ≡ true
block_begins text body rest e none = ap begins_other e ∙ list_any-append _ body (125 ∷ rest) ∙ ap (λ z. z || true) none

not_char : {R : Type 0} (text : List ℕ) → begins_other text ≡ false → begins_other text ≡ true → R
not_char text first second = absurd (false≢true (sym first ∙ second))

one_part : (text : List ℕ) (p q : Part) (r s : List ℕ) → IsFront text p r → IsFront text q s → (p ≡ q) × (r ≡ s)
one_part text (Char c) (Char d) r s first second =
    let both = encode_same first.1.0 second.1.0 r s (sym first.1.1 ∙ second.1.1) in
    (ap Char (first.1.2 ∙ ap shown_char both.0 ∙ sym second.1.2), both.1)
one_part text (Char c) HardBreak r s first second = not_char text first.0 (ap begins_other second)
one_part text (Char c) SoftBreak r s first second = not_char text first.0 (ap begins_other second)
one_part text (Char c) HardSpace r s first second = not_char text first.0 (ap begins_other second)
one_part text (Char c) (Block body) r s first second = not_char text first.0 (block_begins text body s second.0 second.1)
one_part text HardBreak (Char d) r s first second = not_char text second.0 (ap begins_other first)
one_part text HardBreak HardBreak r s first second = (refl, (behind_backslash text r s 78 78 first second).1)
one_part text HardBreak SoftBreak r s first second = not_escapes text r s 78 110 first second (λ e. omega arith)
one_part text HardBreak HardSpace r s first second = not_escapes text r s 78 104 first second (λ e. omega arith)
one_part text HardBreak (Block body) r s first second = not_both text _ _ 92 123 first second.0 (λ e. omega arith)
one_part text SoftBreak (Char d) r s first second = not_char text second.0 (ap begins_other first)
one_part text SoftBreak HardBreak r s first second = not_escapes text r s 110 78 first second (λ e. omega arith)
one_part text SoftBreak SoftBreak r s first second = (refl, (behind_backslash text r s 110 110 first second).1)
one_part text SoftBreak HardSpace r s first second = not_escapes text r s 110 104 first second (λ e. omega arith)
one_part text SoftBreak (Block body) r s first second = not_both text _ _ 92 123 first second.0 (λ e. omega arith)
one_part text HardSpace (Char d) r s first second = not_char text second.0 (ap begins_other first)
one_part text HardSpace HardBreak r s first second = not_escapes text r s 104 78 first second (λ e. omega arith)
one_part text HardSpace SoftBreak r s first second = not_escapes text r s 104 110 first second (λ e. omega arith)
one_part text HardSpace HardSpace r s first second = (refl, (behind_backslash text r s 104 104 first second).1)
one_part text HardSpace (Block body) r s first second = not_both text _ _ 92 123 first second.0 (λ e. omega arith)
one_part text (Block body) (Char d) r s first second = not_char text second.0 (block_begins text body r first.0 first.1)
one_part text (Block body) HardBreak r s first second = not_both text _ _ 123 92 first.0 second (λ e. omega arith)
one_part text (Block body) SoftBreak r s first second = not_both text _ _ 123 92 first.0 second (λ e. omega arith)
one_part text (Block body) HardSpace r s first second = not_both text _ _ 123 92 first.0 second (λ e. omega arith)
one_part text (Block a) (Block b) r s first second =
    let both = one_body a b r s (ap (drop 1) (sym first.0 ∙ second.0)) first.1 second.1 in
    (ap Block both.0, both.1)

-- ---- arguments

one_read_front : {V : Type 0} (Spells : List ℕ → V → Type 0) → SpellsOne Spells → (argument : List ℕ) (a b : Option V) → ReadsFront Spells argument a → ReadsFront Spells argument b → a ≡ b
one_read_front Spells one argument None None first second = refl
one_read_front Spells one argument None (Some w) first second = absurd (first second.0 w second.1.spelled)
one_read_front Spells one argument (Some v) None first second = absurd (second first.0 v first.1.spelled)
one_read_front Spells one argument (Some v) (Some w) first second = ap Some (one_front Spells one argument v w first.0 second.0 first.1 second.1).0

one_optional : {V : Type 0} (Spells : List ℕ → V → Type 0) → SpellsOne Spells → (argument : List ℕ) (a b : Option (Option V))
    → ReadsOptional Spells argument a → ReadsOptional Spells argument b → a ≡ b
one_optional Spells one argument None None first second = refl
one_optional Spells one argument None (Some None) first second = absurd (first.0 second)
one_optional Spells one argument None (Some (Some w)) first second = absurd (first.1 second.1.0 w second.1.1.spelled)
one_optional Spells one argument (Some None) None first second = absurd (second.0 first)
one_optional Spells one argument (Some None) (Some None) first second = refl
one_optional Spells one argument (Some None) (Some (Some w)) first second = absurd (second.0 first)
one_optional Spells one argument (Some (Some v)) None first second = absurd (second.1 first.1.0 v first.1.1.spelled)
one_optional Spells one argument (Some (Some v)) (Some None) first second = absurd (first.0 second)
one_optional Spells one argument (Some (Some v)) (Some (Some w)) first second = ap (λ z. Some (Some z)) (one_front Spells one argument v w first.1.0 second.1.0 first.1.1 second.1.1).0

one_unsigned : (signed : Bool) (argument : List ℕ) (a b : Option (Option ℤ))
    → MatchBool signed (a ≡ None) (ReadsOptional IsMilli argument a) → MatchBool signed (b ≡ None) (ReadsOptional IsMilli argument b) → a ≡ b
one_unsigned true argument a b first second = first ∙ sym second
one_unsigned false argument a b first second = one_optional IsMilli one_milli argument a b first second

one_numbers : (parts : List (List ℕ)) (a b : List ℤ) → AreNumbers parts a → AreNumbers parts b → a ≡ b
one_numbers [] [] [] first second = refl
one_numbers [] [] (w ∷ b) first second = elim second [ ]
one_numbers [] (v ∷ a) b first second = elim first [ ]
one_numbers (p ∷ parts) [] b first second = elim first [ ]
one_numbers (p ∷ parts) (v ∷ a) [] first second = elim second [ ]
one_numbers (p ∷ parts) (v ∷ a) (w ∷ b) first second =
    ap (λ z. z ∷ a) (one_front IsMilli one_milli (trimmed p) v w first.0.0 second.0.0 first.0.1 second.0.1).0 ∙ ap (λ z. w ∷ z) (one_numbers parts a b first.1 second.1)

one_read_numbers : (parts : List (List ℕ)) (a b : Option (List ℤ)) → ReadsNumbers parts a → ReadsNumbers parts b → a ≡ b
one_read_numbers parts None None first second = refl
one_read_numbers parts None (Some w) first second = absurd (first w second)
one_read_numbers parts (Some v) None first second = absurd (second v first)
one_read_numbers parts (Some v) (Some w) first second = ap Some (one_numbers parts v w first.1 second.1)

one_bracketed : (inside : Option (List ℕ)) (a b : Option (List ℤ)) → ReadsBracketed inside a → ReadsBracketed inside b → a ≡ b
one_bracketed None a b first second = first ∙ sym second
one_bracketed (Some inside) a b first second = one_read_numbers (comma_pieces inside) a b first second

-- ---- tags that aren't transforms

one_drawn : (inverse : Bool) (drawing : List ℕ) (scale : ℕ) (a b : Option Tag) → ReadsDrawn inverse drawing scale a → ReadsDrawn inverse drawing scale b → a ≡ b
one_drawn inverse drawing scale a b first second =
    let segs : first.0.segs ≡ second.0.segs = one_path (trimmed drawing) first.0.segs second.0.segs first.1 second.1 in
    let clip : List Seg → Option Tag = λ z. Some (Clip (Drawn (record { segs = z }) scale inverse)) in
    first.2 ∙ ap clip segs ∙ sym second.2

one_scaled : (inverse : Bool) (drawing : List ℕ) (scale : Option ℤ) (a b : Option Tag) → ReadsScaled inverse drawing scale a → ReadsScaled inverse drawing scale b → a ≡ b
one_scaled inverse drawing None a b first second = first ∙ sym second
one_scaled inverse drawing (Some scale) a b first second = one_drawn inverse drawing (scale_of scale) a b first second

one_clip_pieces : (inverse : Bool) (parts : List (List ℕ)) (a b : Option Tag) → ReadsClipPieces inverse parts a → ReadsClipPieces inverse parts b → a ≡ b
one_clip_pieces inverse [] a b first second = first.2 ∙ ap (rectangle_of inverse) (one_read_numbers [] first.0 second.0 first.1 second.1) ∙ sym second.2
one_clip_pieces inverse (drawing ∷ []) a b first second = one_drawn inverse drawing 1 a b first second
one_clip_pieces inverse (scale ∷ (drawing ∷ [])) a b first second =
    let same : first.0 ≡ second.0 = one_read_front IsMilli one_milli (trimmed scale) first.0 second.0 first.1 second.1 in
    let P : Option ℤ → Type 0 = λ z. ReadsScaled inverse drawing z a in
    one_scaled inverse drawing second.0 a b (subst P same first.2) second.2
one_clip_pieces inverse (x ∷ (y ∷ (z ∷ more))) a b first second =
    first.2 ∙ ap (rectangle_of inverse) (one_read_numbers (x ∷ (y ∷ (z ∷ more))) first.0 second.0 first.1 second.1) ∙ sym second.2

one_clip : (inverse : Bool) (inside : Option (List ℕ)) (a b : Option Tag) → ReadsClip inverse inside a → ReadsClip inverse inside b → a ≡ b
one_clip inverse None a b first second = first ∙ sym second
one_clip inverse (Some inside) a b first second = one_clip_pieces inverse (comma_pieces inside) a b first second

one_numbered : (n : TagName) (rest : List ℕ) (a b : Option Tag) → ReadsNumbered n rest a → ReadsNumbered n rest b → a ≡ b
one_numbered n rest a b first second = first.2 ∙ ap (numbered_of n) (one_bracketed (bracketed rest) first.0 second.0 first.1 second.1) ∙ sym second.2

one_single : (n : TagName) (rest : List ℕ) (a b : Option Tag) → ReadsSingle n rest a → ReadsSingle n rest b → a ≡ b
one_single (name.Number property) rest a b first second =
    first.2 ∙ ap (option_map (Number property)) (one_optional IsMilli one_milli (plain_argument rest) first.0 second.0 first.1 second.1) ∙ sym second.2
one_single name.Size rest a b first second =
    first.2 ∙ ap (option_map (Number num.Size)) (one_unsigned (begins_signed (plain_argument rest)) (plain_argument rest) first.0 second.0 first.1 second.1) ∙ sym second.2
one_single name.Wrap rest a b first second = first.2 ∙ ap wrap_tag (one_optional IsMilli one_milli (plain_argument rest) first.0 second.0 first.1 second.1) ∙ sym second.2
one_single (name.Colour which) rest a b first second =
    first.2 ∙ ap (option_map (Colour which)) (one_optional IsColour (one_marked 32) (plain_argument rest) first.0 second.0 first.1 second.1) ∙ sym second.2
one_single (name.Alpha which) rest a b first second =
    first.2 ∙ ap (option_map (Alpha which)) (one_optional IsAlpha (one_marked 8) (plain_argument rest) first.0 second.0 first.1 second.1) ∙ sym second.2
one_single name.FontName rest a b first second = first ∙ sym second
one_single name.Reset rest a b first second = first ∙ sym second
one_single name.Align rest a b first second = first.2 ∙ ap align_of (one_read_front IsMilli one_milli (plain_argument rest) first.0 second.0 first.1 second.1) ∙ sym second.2
one_single name.OldAlign rest a b first second = first.2 ∙ ap old_align_of (one_read_front IsMilli one_milli (plain_argument rest) first.0 second.0 first.1 second.1) ∙ sym second.2
one_single (name.Karaoke kind) rest a b first second = first.2 ∙ ap (karaoke_of kind) (one_read_front IsMilli one_milli (plain_argument rest) first.0 second.0 first.1 second.1) ∙ sym second.2
one_single name.Pos rest a b first second = one_numbered name.Pos rest a b first second
one_single name.Move rest a b first second = one_numbered name.Move rest a b first second
one_single name.Org rest a b first second = one_numbered name.Org rest a b first second
one_single name.Fade rest a b first second = one_numbered name.Fade rest a b first second
one_single (name.Clip inverse) rest a b first second = one_clip inverse (bracketed rest) a b first second
one_single name.Transform rest a b first second = first ∙ sym second
one_single name.Skipped rest a b first second = first ∙ sym second

-- ---- transforms

one_found : (found : Option (TagName × List ℕ)) (a b : Option Tag) → ReadsFound found a → ReadsFound found b → a ≡ b
one_found None a b first second = first ∙ sym second
one_found (Some found) a b first second = one_single found.0 found.1 a b first second

one_read_kept : (text : List ℕ) (a b : Option GradualTag) → ReadsKept text a → ReadsKept text b → a ≡ b
one_read_kept text a b first second = first.2 ∙ ap (option_and_then gradual_of) (one_found (tag_name text) first.0 second.0 first.1 second.1) ∙ sym second.2

-- what the kept tags of a text are made of
abbrev KeptOf : List ℕ → List GradualTag → Type 0
KeptOf [] all = all ≡ []
KeptOf (_ ∷ text) all = (tag : Option GradualTag) × (others : List GradualTag) × ReadsKept (take (tag_len text) text) tag × AreKept (drop (tag_len text) text) others × (all ≡ option_to_list tag ++ others)

kept_of : {text : List ℕ} {all : List GradualTag} → AreKept text all → KeptOf text all
kept_of tags.none = refl
kept_of (tags.more text tag others read rest) = (tag, others, read, rest, refl)

one_kept : {text : List ℕ} {a : List GradualTag} → AreKept text a → (b : List GradualTag) → AreKept text b → a ≡ b
one_kept tags.none b second = sym (kept_of second)
one_kept (tags.more text tag others read rest) b second =
    let m = kept_of second in
    ap (λ z. option_to_list z ++ others) (one_read_kept _ tag m.0 read m.2) ∙ ap (λ z. option_to_list m.0 ++ z) (one_kept rest m.1 m.3) ∙ sym m.4

one_course : (course : Option Course) (text : List ℕ) (a b : Option Tag) → ReadsCourse course text a → ReadsCourse course text b → a ≡ b
one_course None text a b first second = first ∙ sym second
one_course (Some course) text a b first second = first.2 ∙ ap (λ z. Some (Transform course.times course.quarters z)) (one_kept first.1 second.0 second.1) ∙ sym second.2

one_transform : (inside : Option (List ℕ)) (a b : Option Tag) → ReadsTransform inside a → ReadsTransform inside b → a ≡ b
one_transform None a b first second = first ∙ sym second
one_transform (Some inside) a b first second =
    let same : first.0 ≡ second.0 = one_read_numbers (counted_pieces true (before_tags inside)) first.0 second.0 first.1 second.1 in
    let P : Option (List ℤ) → Type 0 = λ z. ReadsCourse (course_of z) (from_tags inside) a in
    one_course (course_of second.0) (from_tags inside) a b (subst P same first.2) second.2

-- ---- tags of blocks

one_named : (n : TagName) (rest : List ℕ) (a b : Option Tag) → ReadsNamed n rest a → ReadsNamed n rest b → a ≡ b
one_named name.Transform rest a b first second = one_transform (bracketed rest) a b first second
one_named n rest a b first second = one_single n rest a b first second

one_any : (found : Option (TagName × List ℕ)) (a b : Option Tag) → ReadsAny found a → ReadsAny found b → a ≡ b
one_any None a b first second = first ∙ sym second
one_any (Some found) a b first second = one_named found.0 found.1 a b first second

one_tag : (text : List ℕ) (a b : Option Tag) → ReadsTag text a → ReadsTag text b → a ≡ b
one_tag text a b first second = one_any (tag_name text) a b first second

-- what the tags of a text are made of
abbrev TagsOf : ℕ → List ℕ → List Item → Type 0
TagsOf from [] all = all ≡ []
TagsOf from (_ ∷ text) all = (tag : Option Tag) × (others : List Item) × ReadsTag (take (tag_len text) text) tag
    × AreTags (from + (1 + tag_len text)) (drop (tag_len text) text) others × (all ≡ tag_items from (from + (1 + tag_len text)) tag ++ others)

tags_of : {from : ℕ} {text : List ℕ} {all : List Item} → AreTags from text all → TagsOf from text all
tags_of (reads.none from) = refl
tags_of (reads.more from text tag others read rest) = (tag, others, read, rest, refl)

one_tags : {from : ℕ} {text : List ℕ} {a : List Item} → AreTags from text a → (b : List Item) → AreTags from text b → a ≡ b
one_tags (reads.none from) b second = sym (tags_of second)
one_tags (reads.more from text tag others read rest) b second =
    let m = tags_of second in
    let to = from + (1 + tag_len text) in
    ap (λ z. tag_items from to z ++ others) (one_tag _ tag m.0 read m.2) ∙ ap (λ z. tag_items from to m.0 ++ z) (one_tags rest m.1 m.3) ∙ sym m.4

one_part_tags : (from : ℕ) (part : Part) (a b : List Item) → ArePartTags from part a → ArePartTags from part b → a ≡ b
one_part_tags from (Char c) a b first second = first ∙ sym second
one_part_tags from HardBreak a b first second = first ∙ sym second
one_part_tags from SoftBreak a b first second = first ∙ sym second
one_part_tags from HardSpace a b first second = first ∙ sym second
one_part_tags from (Block body) a b first second = one_tags first b second

-- ---- items

-- what the items of a text are made of
abbrev ItemsOf : ℕ → List ℕ → List Item → Type 0
ItemsOf from text all = ((text ≡ []) × (all ≡ [])) ⊎ ((to : ℕ) × (part : Part) × (rest : List ℕ) × (mine : List Item) × (others : List Item)
    × IsFront text part rest × (to + length rest ≡ from + length text) × ArePartTags from part mine × AreItems to rest others × (all ≡ part_item from to part ∷ (mine ++ others)))

items_of : {from : ℕ} {text : List ℕ} {all : List Item} → AreItems from text all → ItemsOf from text all
items_of (reads.none from) = inl (refl, refl)
items_of (reads.more from to text part rest mine others front place are items) = inr (to, part, rest, mine, others, front, place, are, items, refl)

not_empty : {R : Type 0} (text : List ℕ) (part : Part) (rest : List ℕ) → IsFront text part rest → text ≡ [] → R
not_empty text part rest front e = let some = some_bytes text part rest front in let none = ap length e in absurd (omega arith)

pub one_items : {from : ℕ} {text : List ℕ} {a : List Item} → AreItems from text a → (b : List Item) → AreItems from text b → a ≡ b
one_items (reads.none from) b second = elim (items_of second) [
  | inl none ↦ sym none.1
  | inr m ↦ not_empty [] m.1 m.2 m.5 refl
]
one_items (reads.more from to text part rest mine others front place are items) b second = elim (items_of second) [
  | inl none ↦ not_empty text part rest front none.0
  | inr m ↦
      let same = one_part text part m.1 rest m.2 front m.5 in
      let len = ap length same.1 in
      let to_is : to ≡ m.0 = omega (arith, place, m.6) in
      let P : Part → Type 0 = λ z. ArePartTags from z mine in
      let Q : List ℕ → Type 0 = λ z. AreItems m.0 z m.4 in
      let R : ℕ → Type 0 = λ z. AreItems z rest m.4 in
      let mine_are : mine ≡ m.3 = one_part_tags from m.1 mine m.3 (subst P same.0 are) m.7 in
      let others_are : others ≡ m.4 = one_items items m.4 (subst R (sym to_is) (subst Q (sym same.1) m.8)) in
      ap (λ z. part_item from z part ∷ (mine ++ others)) to_is ∙ ap (λ z. part_item from m.0 z ∷ (mine ++ others)) same.0
      ∙ ap (λ z. part_item from m.0 m.1 ∷ (z ++ others)) mine_are ∙ ap (λ z. part_item from m.0 m.1 ∷ (m.3 ++ z)) others_are ∙ sym m.9
]

pub one_reading : OneReading
one_reading text a b first second = one_items first b second
