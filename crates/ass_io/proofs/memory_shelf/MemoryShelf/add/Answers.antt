use Rattle.std.proofs.Common.{◌≡◌, string_bytes, ◌∙◌, Some, Option, Bool, true, false, cond, refl, ap}
use Rattle.std.specs.Option.{option_map}
use Rattle.std.proofs.lemmas.Map.Text.{btree_map_updates_text}
use Rattle.ass_io.proofs.memory_shelf.MemoryShelf.add.Goals as goal

-- a function of the values goes into a choice
option_map-cond : {A B : Type 0} (f : A → B) (b : Bool) (x : A) (o : Option A) → option_map f (cond b (Some x) o) ≡ cond b (Some (f x)) (option_map f o)
option_map-cond f true x o = refl
option_map-cond f false x o = refl

pub returns-clause-ok : goal.returns-clause-ok
returns-clause-ok c = λ other.
    let updated = btree_map_updates_text (string_bytes c.in_ok-name.name) c.args.self.now.files c.insert.new.self _ c.in_ok-insert.ensures.updates other in
    let bytes_are : c.in_ok-bytes.bytes.items ≡ c.args.bytes.now = c.in_ok-bytes.ensures.items in
    let name_is : string_bytes c.in_ok-name.name ≡ c.args.name.now = c.in_ok-name.ensures.ok in
    rw (← name_is, ← bytes_are) (ap (option_map (λ v. v.items)) updated ∙ option_map-cond (λ v. v.items) _ _ _)
