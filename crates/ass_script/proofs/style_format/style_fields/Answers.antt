use Rattle.std.proofs.Common.{◌≡◌, ◌∷◌, [], ◌++◌, ℕ, List, map, lit<, sym, ap, ◌∙◌}
use Rattle.std.specs.List.{slice_split}
use Rattle.std.proofs.lemmas.List.{append-nil}
use Rattle.std.proofs.lemmas.Iterator.Splits.{YieldsList-from_str_split}
use Rattle.ass_num.specs.Blanks.{trimmed}
use Rattle.ass_script.specs.Words.{is_comma}
use Rattle.ass_script.specs.Fields.{version_field, style_field_named, last_ones, style_field_number, names_of, style_fields_of}
use Rattle.ass_script.specs.declared.style_field.StyleField.{StyleField}
use Rattle.ass_script.specs.declared.style_field.StyleField.TheVariants.{Other}
use Rattle.ass_script.proofs.Yields.{next_left, none_left, pushed}
use Rattle.ass_script.proofs.style_format.style_fields.Goals as goal

pub loop-name-init : goal.loop-name-init
loop-name-init c =
    let given = YieldsList-from_str_split {s = c.split-name-items.result} 44 c.args.value.now (lit< tt) c.split-name-items.ensures.text c.split-name-items.ensures.has_more c.split-name-items.ensures.pattern in
    record {
      rest = slice_split is_comma c.args.value.now;
      yields = rw c.into_iter-name-iterator.ensures.into_iter_gives given.runs;
      does = ap (λ xs. xs ++ map (λ (name : List ℕ). version_field c.args.version (style_field_named name)) (names_of c.args.value.now)) c.new-fields.ensures.items;
    }

pub loop-name-preserved : goal.loop-name-preserved
loop-name-preserved c =
    let f : List ℕ → StyleField = (λ (name : List ℕ). version_field c.args.version (style_field_named name)) in
    let wanted = map f (names_of c.args.value.now) in
    let field : c.version_field.result ≡ f (trimmed c.in-Some.name.now) = c.version_field.ensures ∙ ap (λ (t : List ℕ). version_field c.args.version (style_field_named t)) c.trimmed.ensures in
    let push : c.push.new.self.items ≡ c.loop-name.fields.items ++ f (trimmed c.in-Some.name.now) ∷ [] = c.in_ok-push.ensures.items ∙ ap (λ x. c.loop-name.fields.items ++ x ∷ []) field in
    next_left _ _ (λ rest. c.loop-name.fields.items ++ map f (map trimmed rest) ≡ wanted) (λ rest. c.push.new.self.items ++ map f (map trimmed rest) ≡ wanted) _ _ c.in-Some.name
    (λ rest does. pushed _ _ _ wanted _ push does) c.loop-name.invariant c.in-Some.ensures.steps

pub returns : goal.returns
unfolding style_fields_of
returns c =
    let left = none_left _ _ _ _ _ c.loop-name.invariant c.in-None.ensures.steps in
    c.last_ones.ensures ∙ ap (λ xs. last_ones style_field_number Other xs) (sym (append-nil c.loop-name.fields.items) ∙ left)
