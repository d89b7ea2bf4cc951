-- How the items of a text cover it.
use Rattle.std.proofs.Common.{ℕ, ◌+◌, ◌<◌, List, ◌∷◌, ◌++◌, length, refl, ap, sym, subst, append_assoc, arith, Option, None, Some, length-append}
use Rattle.std.specs.Prelude.{encode_utf8}
use Rattle.std.proofs.lemmas.Str.{length-encode, len_utf8_bounds}
use Rattle.override_tags.specs.Fronts.{Part, Char, HardBreak, SoftBreak, HardSpace, Block, IsFront}
use Rattle.override_tags.specs.declared.item.Item.{Item}
use Rattle.override_tags.specs.declared.tag.Tag.{Tag}
use Rattle.override_tags.specs.Readings as reads
use Rattle.override_tags.specs.Readings.{AreItems, ArePartTags, tag_items, part_item}
use Rattle.override_tags.specs.Laws.{Follow}

-- every part takes a byte
pub some_bytes : (text : List ℕ) (part : Part) (rest : List ℕ) → IsFront text part rest → length rest < length text
some_bytes text (Char c) rest front =
    let written = front.1.0 in
    let e = ap length front.1.1 in
    let split = length-append (encode_utf8 written) rest in
    let some = len_utf8_bounds written in
    omega (arith, length-encode written)
some_bytes text HardBreak rest front = let e = ap length front in omega arith
some_bytes text SoftBreak rest front = let e = ap length front in omega arith
some_bytes text HardSpace rest front = let e = ap length front in omega arith
some_bytes text (Block body) rest front =
    let e = ap length front.0 in
    let split = length-append body (125 ∷ rest) in
    omega arith

-- tags take none
one_tag : (from to place end : ℕ) (tag : Option Tag) (items : List Item) → Follow place items end → Follow place (tag_items from to tag ++ items) end
one_tag from to place end None items follow = follow
one_tag from to place end (Some tag) items follow = follow

tags_follow : {from : ℕ} {text : List ℕ} {mine : List Item} → reads.AreTags from text mine → (place end : ℕ) (items : List Item) → Follow place items end → Follow place (mine ++ items) end
tags_follow (reads.none from) place end items follow = follow
tags_follow (reads.more from text tag others read rest) place end items follow =
    rw append_assoc (one_tag from _ place end tag (others ++ items) (tags_follow rest place end items follow))

part_tags_follow : (from : ℕ) (part : Part) (mine : List Item) → ArePartTags from part mine → (place end : ℕ) (items : List Item) → Follow place items end → Follow place (mine ++ items) end
part_tags_follow from (Char c) mine none place end items follow = let P : List Item → Type 0 = λ z. Follow place (z ++ items) end in subst P (sym none) follow
part_tags_follow from HardBreak mine none place end items follow = let P : List Item → Type 0 = λ z. Follow place (z ++ items) end in subst P (sym none) follow
part_tags_follow from SoftBreak mine none place end items follow = let P : List Item → Type 0 = λ z. Follow place (z ++ items) end in subst P (sym none) follow
part_tags_follow from HardSpace mine none place end items follow = let P : List Item → Type 0 = λ z. Follow place (z ++ items) end in subst P (sym none) follow
part_tags_follow from (Block body) mine are place end items follow = tags_follow are place end items follow

part_follows : (from to end : ℕ) (part : Part) (items : List Item) → from < to → Follow to items end → Follow from (part_item from to part ∷ items) end
part_follows from to end (Char c) items some follow = (refl, some, follow)
part_follows from to end HardBreak items some follow = (refl, some, follow)
part_follows from to end SoftBreak items some follow = (refl, some, follow)
part_follows from to end HardSpace items some follow = (refl, some, follow)
part_follows from to end (Block body) items some follow = (refl, some, follow)

-- and the parts follow one another
pub items_follow : {from : ℕ} {text : List ℕ} {items : List Item} → AreItems from text items → Follow from items (from + length text)
items_follow (reads.none from) = omega arith
items_follow (reads.more from to text part rest mine items front place are others) =
    let some = some_bytes text part rest front in
    let P : ℕ → Type 0 = λ z. Follow to items z in
    part_follows from to (from + length text) part (mine ++ items) (omega arith)
    (part_tags_follow from part mine are to (from + length text) items (subst P place (items_follow others)))
