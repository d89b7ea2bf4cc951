-- The tags of a transform, one after another.
use Rattle.std.proofs.Common.{◌≡◌, ℕ, List, [], ◌++◌, sym, subst, append_assoc, Option}
use Rattle.std.specs.Option.{option_to_list}
use Rattle.std.proofs.lemmas.List.{append-nil}
use Rattle.override_tags.specs.declared.tag.GradualTag.{GradualTag}
use Rattle.override_tags.specs.Tags.{IsNextTag, ReadsKept, AreKept, none, more}

-- the text before is that of one tag more
pub kept_more : (text tag_text rest : List ℕ) (tag : Option GradualTag) (tags : List GradualTag) → IsNextTag text tag_text rest → ReadsKept tag_text tag → AreKept rest tags → AreKept text (option_to_list tag ++ tags)
kept_more text tag_text rest tag tags next read kept =
    let P : List ℕ → Type 0 = λ z. AreKept z (option_to_list tag ++ tags) in
    let R : List ℕ → Type 0 = λ z. ReadsKept z tag in
    let K : List ℕ → Type 0 = λ z. AreKept z tags in
    subst P (sym next.spelled) (more next.behind tag tags (subst R next.tag_is read) (subst K next.rest_is kept))

-- the tags so far, before one more and the others
pub kept_joined : (text : List ℕ) (old new tail : List GradualTag) (tag : Option GradualTag) → new ≡ old ++ option_to_list tag → AreKept text (old ++ (option_to_list tag ++ tail)) → AreKept text (new ++ tail)
kept_joined text old new tail tag e kept =
    let P : List GradualTag → Type 0 = λ z. AreKept text (z ++ tail) in
    subst P (sym e) (rw append_assoc kept)

-- no tags are left
pub kept_none : (text : List ℕ) → text ≡ [] → AreKept text []
kept_none text e = let P : List ℕ → Type 0 = λ z. AreKept z [] in subst P (sym e) none

pub kept_whole : (text : List ℕ) (tags : List GradualTag) → AreKept text (tags ++ []) → AreKept text tags
kept_whole text tags kept = rw append-nil at kept
