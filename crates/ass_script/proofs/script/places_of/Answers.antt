use Rattle.std.proofs.Common.{◌≡◌, ℕ, List, [], ◌∷◌, ◌++◌, ◌+◌, ◌<◌, get_or, take, length, Some, cond, sym, ap, ◌∙◌, string_bytes, arith}
use Rattle.std.specs.Str.{bytes_eq}
use Rattle.std.specs.BTreeMap.{get_by_text}
use Rattle.std.proofs.lemmas.List.{take_more, length-take-le}
use Rattle.std.proofs.lemmas.Map.Text.{btree_map_updates_text}
use Rattle.std.proofs.lemmas.Result.{IfOk-at_ok}
use Rattle.ass_script.specs.Scripts.{last_named}
use Rattle.ass_script.proofs.Picks.{last_named_more}
use Rattle.ass_script.proofs.script.places_of.Goals as goal

pub loop-place-preserved : goal.loop-place-preserved
loop-place-preserved c = λ name.
    let styles = c.args.styles.now in
    let place = c.loop-place.place in
    let style = c.index-styles-place.result in
    let copied = IfOk-at_ok (λ s. string_bytes s ≡ c.as_str.result.now) c.in_ok-name.was c.from_str.ensures.ok in
    let key_is : string_bytes c.in_ok-name.name ≡ style.name = copied ∙ c.as_str.ensures in
    let sets = btree_map_updates_text (string_bytes c.in_ok-name.name) c.loop-place.places c.insert.new.self _ c.in_ok-insert.ensures.updates name in
    let inside : place < length styles = omega arith in
    let here : get_or styles place style ≡ style = sym c.index-styles-place.is in
    let more : take (place + 1) styles ≡ take place styles ++ style ∷ [] = take_more styles place style inside ∙ ap (λ s. take place styles ++ s ∷ []) here in
    let old = get_by_text c.loop-place.places name in
    sets
    ∙ (ap (λ (k : List ℕ). cond (bytes_eq k name) (Some place) old) key_is
    ∙ (ap (λ o. cond (bytes_eq style.name name) (Some place) o) (c.loop-place.invariant name)
    ∙ sym (ap (last_named name) more
    ∙ (last_named_more name (take place styles) style
    ∙ ap (λ (n : ℕ). cond (bytes_eq style.name name) (Some n) (last_named name (take place styles))) (length-take-le place styles (omega arith))))))
