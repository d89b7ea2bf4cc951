use Rattle.std.proofs.Common.{◌≡◌, ◌++◌, ℕ, List, map}
use Rattle.std.specs.Str.Iter.{split_steps}
use Rattle.std.specs.Str.Pattern.{FindsChar}
use Rattle.ass_num.specs.Blanks.{trimmed}
use Rattle.ass_script.specs.Fields.{version_field, style_field_named, names_of}
use Rattle.ass_script.proofs.Yields.{Left}
use Rattle.ass_script.proofs.style_format.style_fields.Given as goal

abbrev pub invariant-loop-name : goal.invariant-loop-name
invariant-loop-name l =
    Left (split_steps FindsChar (λ a b. b ≡ a)) (λ x. x.now) l.name-iterator
    (λ rest. l.fields.items ++ map (λ (name : List ℕ). version_field l.version (style_field_named name)) (map trimmed rest) ≡ map (λ (name : List ℕ). version_field l.version (style_field_named name)) (names_of l.fn.value))
