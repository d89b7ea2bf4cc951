-- The items of a text, one after another.
use Rattle.std.proofs.Common.{◌≡◌, ℕ, List, [], ◌∷◌, ◌++◌, sym, subst, append_assoc}
use Rattle.std.proofs.lemmas.List.{append-nil}
use Rattle.override_tags.specs.declared.item.Item.{Item}
use Rattle.override_tags.specs.Readings.{AreItems, none}

pub items_joined : (text : List ℕ) (old new tags tail : List Item) (first : Item) → new ≡ old ++ (first ∷ tags) → AreItems 0 text (old ++ (first ∷ (tags ++ tail))) → AreItems 0 text (new ++ tail)
items_joined text old new tags tail first e are =
    let P : List Item → Type 0 = λ z. AreItems 0 text (z ++ tail) in
    subst P (sym e) (rw append_assoc are)

pub items_none : (from : ℕ) (text : List ℕ) → text ≡ [] → AreItems from text []
items_none from text e = let P : List ℕ → Type 0 = λ z. AreItems from z [] in subst P (sym e) (none from)

pub items_whole : (text : List ℕ) (items : List Item) → AreItems 0 text (items ++ []) → AreItems 0 text items
items_whole text items are = rw append-nil at are
