-- The tags of a block, one after another.
use Rattle.std.proofs.Common.{◌≡◌, ℕ, ◌+◌, List, [], ◌∷◌, ◌++◌, length, drop, sym, ap, ◌∙◌, subst, append_assoc, arith, Option, refl}
use Rattle.std.proofs.lemmas.List.{append-nil}
use Rattle.tag_arguments.specs.Cuts.{tag_len}
use Rattle.override_tags.specs.declared.item.Item.{Item}
use Rattle.std.specs.Prelude.{Result, Ok, Err, IfOk}
use Rattle.tag_arguments.specs.declared.kinds.TagName.{TagName}
use Rattle.tag_arguments.specs.declared.kinds.TagName.TheVariants as name
use Rattle.override_tags.specs.declared.tag.Tag.{Tag}
use Rattle.override_tags.specs.Singles.{ReadsSingle}
use Rattle.override_tags.specs.Tags.{IsNextTag, ReadsNamed, ReadsTag}
use Rattle.override_tags.specs.Readings.{AreTags, none, more, tag_items}

-- the text before is that of one tag more
pub tags_more : (from to : ℕ) (text tag_text rest : List ℕ) (tag : Option Tag) (items : List Item) → IsNextTag text tag_text rest → to ≡ from + 1 + length tag_text
    → ReadsTag tag_text tag → AreTags to rest items → AreTags from text (tag_items from to tag ++ items)
tags_more from to text tag_text rest tag items next place read tags =
    let end : to ≡ from + (1 + tag_len next.behind) = omega (arith, next.len) in
    let P : List ℕ → Type 0 = λ z. AreTags from z (tag_items from to tag ++ items) in
    let Q : ℕ → Type 0 = λ z. AreTags from (92 ∷ next.behind) (tag_items from z tag ++ items) in
    let R : List ℕ → Type 0 = λ z. ReadsTag z tag in
    let K : List ℕ → Type 0 = λ z. AreTags to z items in
    let L : ℕ → Type 0 = λ z. AreTags z (drop (tag_len next.behind) next.behind) items in
    subst P (sym next.spelled) (subst Q (sym end) (more from next.behind tag items (subst R next.tag_is read) (subst L end (subst K next.rest_is tags))))

pub tags_none : (from : ℕ) (text : List ℕ) → text ≡ [] → AreTags from text []
tags_none from text e = let P : List ℕ → Type 0 = λ z. AreTags from z [] in subst P (sym e) (none from)

pub tags_whole : (from : ℕ) (text : List ℕ) (tags : List Item) → AreTags from text (tags ++ []) → AreTags from text tags
tags_whole from text tags are = rw append-nil at are

pub tags_joined : (from : ℕ) (text : List ℕ) (added mine tail : List Item) → AreTags from text (added ++ (mine ++ tail)) → AreTags from text ((added ++ mine) ++ tail)
tags_joined from text added mine tail are = rw append_assoc are

pub lists_joined : (first old new added mine : List Item) → old ≡ first ++ added → new ≡ old ++ mine → new ≡ first ++ (added ++ mine)
lists_joined first old new added mine a b = b ∙ ap (λ z. z ++ mine) a ∙ rw append_assoc

-- a tag that isn't a transform
pub named_single : (n : TagName) (rest : List ℕ) (tag : Option Tag) → (n ≡ name.Transform → ⊥) → ReadsSingle n rest tag → ReadsNamed n rest tag
named_single name.Transform rest tag other read = absurd (other refl)
named_single n rest tag other read = read

pub named_result : {E : Type 0} (n : TagName) (rest : List ℕ) (r : Result (Option Tag) E) → (n ≡ name.Transform → ⊥) → IfOk r (λ tag. ReadsSingle n rest tag) → IfOk r (λ tag. ReadsNamed n rest tag)
named_result n rest (Ok tag) other read = named_single n rest tag other read
named_result n rest (Err _) other read = tt
