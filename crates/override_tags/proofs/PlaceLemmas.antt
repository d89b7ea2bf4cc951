-- Where tags lie, and that a text can be cut where its items begin and end.
use Rattle.std.proofs.Common.{◌≡◌, ℕ, suc, ◌+◌, ◌<◌, ◌≤◌, ◌==◌, ◌&&◌, cond, Bool, true, false, List, [], ◌∷◌, ◌++◌, length, take, drop, get_or, drop-cons, refl, sym, ap, ◌∙◌, subst, arith, append_assoc, length-append, length-drop, Option, None, Some, All}
use Rattle.std.specs.Prelude.{encode_utf8}
use Rattle.std.specs.List.{position_or_len}
use Rattle.std.specs.Str.{IsUtf8, IsCharBoundary}
use Rattle.std.proofs.lemmas.List.{drop-drop, drop-append-le, take-append-drop}
use Rattle.std.proofs.Math.Seq.{drop-append_seam, drop-append-add}
use Rattle.std.proofs.lemmas.List.Elements.{All-nil, All-cons, All-append}
use Rattle.std.proofs.lemmas.Str.{IsUtf8-past_char, IsUtf8-drop, IsCharBoundary-from_drop, IsCharBoundary-before_ascii, IsCharBoundary-after_ascii}
use Rattle.tag_arguments.specs.Cuts.{tag_len, outer_len, depth_after}
use Rattle.override_tags.specs.declared.item.Item.{Item}
use Rattle.override_tags.specs.declared.tag.Tag.{Tag}
use Rattle.override_tags.specs.Fronts.{Part, Char, HardBreak, SoftBreak, HardSpace, Block, IsFront}
use Rattle.override_tags.specs.Readings as reads
use Rattle.override_tags.specs.Readings.{AreTags, ArePartTags, AreItems, tag_items, part_item, IsTextReading}
use Rattle.override_tags.specs.Laws.{AreInside, TagsInside, IsAtCharacters}

pub drop_one : (n c : ℕ) (text : List ℕ) → drop (1 + n) (c ∷ text) ≡ drop n text
drop_one n c text = let next : 1 + n ≡ suc n = omega arith in ap (λ z. drop z (c ∷ text)) next

-- the text of a tag lies in that of the block
pub outer_within : (stop depth : ℕ) (text : List ℕ) → outer_len stop depth text ≤ length text
outer_within stop depth [] = omega arith
outer_within stop depth (c ∷ text) = by_stop ((c == stop) && (depth == 0)) (outer_within stop (depth_after c depth) text)
  where
    by_stop : (b : Bool) → outer_len stop (depth_after c depth) text ≤ length text → cond b 0 (1 + outer_len stop (depth_after c depth) text) ≤ length (c ∷ text)
    by_stop true within = omega arith
    by_stop false within = omega arith

-- ---- tags lie in their block

tags_in : {from : ℕ} {text : List ℕ} {mine : List Item} → AreTags from text mine → (first last : ℕ) → first ≤ from → from + length text < last → (others : List Item)
    → ((f : ℕ) → AreInside f last others) → AreInside first last (mine ++ others)
tags_in (reads.none from) first last low high others inside = inside first
tags_in (reads.more from text tag items read rest) first last low high others inside =
    let n = tag_len text in
    let within : n ≤ length text = outer_within 92 0 text in
    let shorter = length-drop n text in
    let behind : (f : ℕ) → f ≤ from + (1 + n) → AreInside f last (items ++ others) = λ f order. tags_in rest f last order (omega arith) others inside in
    let P : List Item → Type 0 = λ z. AreInside first last z in
    subst P (sym (append_assoc (tag_items from (from + (1 + n)) tag) items others)) (one tag behind (omega arith) (omega arith))
  where
    one : (t : Option Tag) → ((f : ℕ) → f ≤ from + (1 + tag_len text) → AreInside f last (items ++ others)) → from + (1 + tag_len text) < last → first ≤ from
        → AreInside first last (tag_items from (from + (1 + tag_len text)) t ++ (items ++ others))
    one None behind high low = behind first (omega arith)
    one (Some t) behind high low = (low, omega arith, high, behind (from + (1 + tag_len text)) (omega arith))

-- behind a part without tags
no_tags : (first last : ℕ) (mine others : List Item) → mine ≡ [] → AreInside first last others → AreInside first last (mine ++ others)
no_tags first last mine others none inside = let P : List Item → Type 0 = λ z. AreInside first last (z ++ others) in subst P (sym none) inside

part_inside : (from to : ℕ) (text : List ℕ) (part : Part) (rest : List ℕ) (mine others : List Item) (first last : ℕ) → IsFront text part rest → to + length rest ≡ from + length text
    → ArePartTags from part mine → ((f l : ℕ) → AreInside f l others) → AreInside first last (part_item from to part ∷ (mine ++ others))
part_inside from to text (Char c) rest mine others first last front place are inside = no_tags (from + 1) from mine others are (inside (from + 1) from)
part_inside from to text HardBreak rest mine others first last front place are inside = no_tags (from + 1) from mine others are (inside (from + 1) from)
part_inside from to text SoftBreak rest mine others first last front place are inside = no_tags (from + 1) from mine others are (inside (from + 1) from)
part_inside from to text HardSpace rest mine others first last front place are inside = no_tags (from + 1) from mine others are (inside (from + 1) from)
part_inside from to text (Block body) rest mine others first last front place are inside =
    let k = position_or_len (λ c. c == 92) body in
    let parts = ap length (take-append-drop k body) in
    let joined = length-append (take k body) (drop k body) in
    let whole = ap length front.0 in
    let behind = length-append body (125 ∷ rest) in
    tags_in are (from + 1) to (omega arith) (omega arith) others (λ f. inside f to)

items_inside : {from : ℕ} {text : List ℕ} {items : List Item} → AreItems from text items → (first last : ℕ) → AreInside first last items
items_inside (reads.none from) first last = tt
items_inside (reads.more from to text part rest mine items front place are others) first last =
    part_inside from to text part rest mine items first last front place are (items_inside others)

pub tags_inside : TagsInside
tags_inside text items reading = items_inside reading 0 0

-- ---- where a text can be cut

front_of_drop : (whole more : List ℕ) (i c : ℕ) → drop i whole ≡ c ∷ more → (i < length whole) × (get_or whole i 0 ≡ c)
front_of_drop whole more i c e =
    let lens = ap length e in
    let back = length-drop i whole in
    let within : i < length whole = omega arith in
    (within, ap (λ z. get_or z 0 0) (sym (drop-cons whole i 0 within) ∙ e))

-- before an ASCII byte
cut_before : (whole more : List ℕ) (i c : ℕ) → drop i whole ≡ c ∷ more → c < 128 → IsCharBoundary whole i
cut_before whole more i c e ascii =
    let at = front_of_drop whole more i c e in
    let P : ℕ → Type 0 = λ z. z < 128 in
    IsCharBoundary-before_ascii whole i at.0 (subst P (sym at.1) ascii)

-- what stands where the tags of a text begin, and behind them
tags_begin : {from : ℕ} {body : List ℕ} {mine : List Item} → AreTags from body mine → (after : List ℕ) → (c : ℕ) × (more : List ℕ) × (body ++ (125 ∷ after) ≡ c ∷ more) × (c < 128)
tags_begin (reads.none from) after = (125, after, refl, omega arith)
tags_begin (reads.more from text tag items read rest) after = (92, text ++ (125 ∷ after), refl, omega arith)

cut_at_tags : {from : ℕ} {body : List ℕ} {mine : List Item} → AreTags from body mine → (whole after : List ℕ) → drop from whole ≡ body ++ (125 ∷ after) → IsCharBoundary whole from
cut_at_tags {from} tags whole after e = let b = tags_begin tags after in cut_before whole b.1 from b.0 (e ∙ b.2) b.3

tag_cut : (whole : List ℕ) (from to : ℕ) (tag : Option Tag) → IsCharBoundary whole from → IsCharBoundary whole to → All (IsAtCharacters whole) (tag_items from to tag)
tag_cut whole from to None first second = All-nil (IsAtCharacters whole)
tag_cut whole from to (Some tag) first second = All-cons (IsAtCharacters whole) _ [] (first, second) (All-nil (IsAtCharacters whole))

tags_cut : {from : ℕ} {body : List ℕ} {mine : List Item} → AreTags from body mine → (whole after : List ℕ) → drop from whole ≡ body ++ (125 ∷ after) → All (IsAtCharacters whole) mine
tags_cut (reads.none from) whole after e = All-nil (IsAtCharacters whole)
tags_cut (reads.more from text tag items read rest) whole after e =
    let n = tag_len text in
    let within : n ≤ length text = outer_within 92 0 text in
    let behind : drop (from + (1 + n)) whole ≡ drop n text ++ (125 ∷ after) =
    sym (drop-drop (1 + n) from whole) ∙ ap (drop (1 + n)) e ∙ drop_one n 92 (text ++ (125 ∷ after)) ∙ drop-append-le n text (125 ∷ after) within in
    All-append (IsAtCharacters whole) (tag_items from (from + (1 + n)) tag) items
    (tag_cut whole from (from + (1 + n)) tag (cut_before whole (text ++ (125 ∷ after)) from 92 e (omega arith)) (cut_at_tags rest whole after behind))
    (tags_cut rest whole after behind)

-- behind an ASCII byte
behind_ascii : (text bytes rest : List ℕ) (c : ℕ) → text ≡ bytes ++ (c ∷ rest) → c < 128 → IsUtf8 text → IsUtf8 rest
behind_ascii text bytes rest c e ascii utf8 =
    let k = length bytes in
    let at = front_of_drop text rest k c (ap (drop k) e ∙ drop-append_seam bytes (c ∷ rest)) in
    let P : ℕ → Type 0 = λ z. z < 128 in
    let Q : List ℕ → Type 0 = λ z. IsUtf8 z in
    subst Q (ap (drop (k + 1)) e ∙ drop-append-add bytes (c ∷ rest) 1) (IsUtf8-drop text (k + 1) utf8 (IsCharBoundary-after_ascii text k utf8 at.0 (subst P (sym at.1) ascii)))

-- What stands at the front, byte by byte, and that the text behind it is one.
pub front_bytes : (text : List ℕ) (part : Part) (rest : List ℕ) → IsFront text part rest → IsUtf8 text → (bytes : List ℕ) × (text ≡ bytes ++ rest) × IsUtf8 rest
front_bytes text (Char c) rest front utf8 = (encode_utf8 front.1.0, front.1.1, IsUtf8-past_char text rest front.1.0 utf8 front.1.1)
front_bytes text HardBreak rest front utf8 = (92 ∷ (78 ∷ []), front, behind_ascii text (92 ∷ []) rest 78 front (omega arith) utf8)
front_bytes text SoftBreak rest front utf8 = (92 ∷ (110 ∷ []), front, behind_ascii text (92 ∷ []) rest 110 front (omega arith) utf8)
front_bytes text HardSpace rest front utf8 = (92 ∷ (104 ∷ []), front, behind_ascii text (92 ∷ []) rest 104 front (omega arith) utf8)
front_bytes text (Block body) rest front utf8 =
    ((123 ∷ body) ++ (125 ∷ []), front.0 ∙ sym (append_assoc (123 ∷ body) (125 ∷ []) rest), behind_ascii text (123 ∷ body) rest 125 front.0 (omega arith) utf8)

none_cut : (whole : List ℕ) (mine : List Item) → mine ≡ [] → All (IsAtCharacters whole) mine
none_cut whole mine none = let P : List Item → Type 0 = λ z. All (IsAtCharacters whole) z in subst P (sym none) (All-nil (IsAtCharacters whole))

part_cut : (whole : List ℕ) (from to : ℕ) (part : Part) → IsCharBoundary whole from → IsCharBoundary whole to → IsAtCharacters whole (part_item from to part)
part_cut whole from to (Char c) first last = (first, last)
part_cut whole from to HardBreak first last = (first, last)
part_cut whole from to SoftBreak first last = (first, last)
part_cut whole from to HardSpace first last = (first, last)
part_cut whole from to (Block body) first last = (first, last)

part_tags_cut : (from : ℕ) (text : List ℕ) (part : Part) (rest : List ℕ) (mine : List Item) (whole : List ℕ) → IsFront text part rest → drop from whole ≡ text → ArePartTags from part mine → All (IsAtCharacters whole) mine
part_tags_cut from text (Char c) rest mine whole front e are = none_cut whole mine are
part_tags_cut from text HardBreak rest mine whole front e are = none_cut whole mine are
part_tags_cut from text SoftBreak rest mine whole front e are = none_cut whole mine are
part_tags_cut from text HardSpace rest mine whole front e are = none_cut whole mine are
part_tags_cut from text (Block body) rest mine whole front e are =
    let k = position_or_len (λ c. c == 92) body in
    let n = length (take k body) in
    let within : n ≤ length body = omega (arith, ap length (take-append-drop k body), length-append (take k body) (drop k body)) in
    let back : drop n body ≡ drop k body = ap (drop n) (sym (take-append-drop k body)) ∙ drop-append_seam (take k body) (drop k body) in
    let place : from + (1 + n) ≡ from + 1 + n = omega arith in
    let behind : drop (from + 1 + n) whole ≡ drop k body ++ (125 ∷ rest) =
    ap (λ z. drop z whole) (sym place) ∙ sym (drop-drop (1 + n) from whole) ∙ ap (drop (1 + n)) (e ∙ front.0) ∙ drop_one n 123 (body ++ (125 ∷ rest)) ∙ drop-append-le n body (125 ∷ rest) within ∙ ap (λ z. z ++ (125 ∷ rest)) back in
    tags_cut are whole rest behind

pub items_cut : {from : ℕ} {text : List ℕ} {items : List Item} → AreItems from text items → (whole : List ℕ) → from ≤ length whole → drop from whole ≡ text → IsUtf8 text → All (IsAtCharacters whole) items
items_cut (reads.none from) whole within e utf8 = All-nil (IsAtCharacters whole)
items_cut (reads.more from to text part rest mine items front place are others) whole within e utf8 =
    let b = front_bytes text part rest front utf8 in
    let lens = ap length b.1 in
    let joined = length-append b.0 rest in
    let back = length-drop from whole in
    let inside = ap length e in
    let to_is : to ≡ from + length b.0 = omega arith in
    let behind : drop to whole ≡ rest = ap (λ z. drop z whole) to_is ∙ sym (drop-drop (length b.0) from whole) ∙ ap (drop (length b.0)) (e ∙ b.1) ∙ drop-append_seam b.0 rest in
    let P : List ℕ → Type 0 = λ z. IsUtf8 z in
    let reached : to ≤ length whole = omega arith in
    let first : IsCharBoundary whole from = IsCharBoundary-from_drop whole from within (subst P (sym e) utf8) in
    let last : IsCharBoundary whole to = IsCharBoundary-from_drop whole to reached (subst P (sym behind) b.2) in
    All-cons (IsAtCharacters whole) (part_item from to part) (mine ++ items) (part_cut whole from to part first last)
    (All-append (IsAtCharacters whole) mine items (part_tags_cut from text part rest mine whole front e are) (items_cut others whole reached behind b.2))
