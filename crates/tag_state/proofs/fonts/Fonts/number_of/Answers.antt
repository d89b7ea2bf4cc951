use Rattle.std.proofs.Common.{◌≡◌, ◌∙◌, ◌++◌, ◌∷◌, [], ℕ, List, None, Some, refl, ap, sym, cond, length, string_bytes}
use Rattle.std.specs.Prelude.{slice_get}
use Rattle.std.specs.BTreeMap.{get_by_text}
use Rattle.std.specs.Str.{bytes_eq}
use Rattle.std.proofs.lemmas.Map.Text.{btree_map_updates_text}
use Rattle.std.proofs.lemmas.Result.{IfOk-at_ok}
use Rattle.tag_state.proofs.FontLemmas.{fonts_push, get_end, grow_one}
use Rattle.tag_state.proofs.fonts.Fonts.number_of.Goals as goal

pub returns-in-Some-clause-number : goal.returns-in-Some-clause-number
returns-in-Some-clause-number c = λ script are. are.known c.args.name.now c.in-Some.number (sym c.get.ensures.value ∙ (sym c.copied.ensures ∙ c.in-Some.is))

pub returns-clause-fonts : goal.returns-clause-fonts
returns-clause-fonts c = λ script are.
    let names = c.args.self.now.names in
    let numbers = c.args.self.now.numbers in
    let name = c.args.name.now in
    let absent : get_by_text numbers name ≡ None = sym c.get.ensures.value ∙ (sym c.copied.ensures ∙ c.in_default.is) in
    let pushed : c.push.new.self ≡ names ++ name ∷ [] = c.in_ok-push.ensures.ok ∙ ap (λ (t : List ℕ). names ++ t ∷ []) c.in_ok-copy.ensures in
    let copied = IfOk-at_ok (λ s. string_bytes s ≡ name) c.in_ok-key.was c.from_str.ensures.ok in
    fonts_push script c.args.self.now _ name are absent pushed
    (λ q. btree_map_updates_text (string_bytes c.in_ok-key.key) numbers c.insert.new.self _ c.in_ok-insert.ensures.updates q
    ∙ (ap (λ (k : List ℕ). cond (bytes_eq k q) (Some c.len-number.result) (get_by_text numbers q)) copied
    ∙ ap (λ (n : ℕ). cond (bytes_eq name q) (Some n) (get_by_text numbers q)) c.len-number.ensures))
    refl

pub returns-clause-grown : goal.returns-clause-grown
returns-clause-grown c =
    grow_one c.args.self.now.names c.push.new.self c.args.name.now (c.in_ok-push.ensures.ok ∙ ap (λ (t : List ℕ). c.args.self.now.names ++ t ∷ []) c.in_ok-copy.ensures)

pub returns-clause-number : goal.returns-clause-number
returns-clause-number c = λ script are.
    let names = c.args.self.now.names in
    let pushed : c.push.new.self ≡ names ++ c.args.name.now ∷ [] = c.in_ok-push.ensures.ok ∙ ap (λ (t : List ℕ). names ++ t ∷ []) c.in_ok-copy.ensures in
    ap (slice_get c.push.new.self) c.len-number.ensures ∙ (ap (λ (z : List (List ℕ)). slice_get z (length names)) pushed ∙ get_end names c.args.name.now)
