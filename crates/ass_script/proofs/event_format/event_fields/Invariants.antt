use Rattle.std.proofs.Common.{◌≡◌, ◌++◌, map}
use Rattle.std.specs.Str.Iter.{split_steps}
use Rattle.std.specs.Str.Pattern.{FindsChar}
use Rattle.ass_num.specs.Blanks.{trimmed}
use Rattle.ass_script.specs.Fields.{event_field_named, names_of}
use Rattle.ass_script.proofs.Yields.{Left}
use Rattle.ass_script.proofs.event_format.event_fields.Given as goal

abbrev pub invariant-loop-name : goal.invariant-loop-name
invariant-loop-name l =
    Left (split_steps FindsChar (λ a b. b ≡ a)) (λ x. x.now) l.name-iterator
    (λ rest. l.fields.items ++ map event_field_named (map trimmed rest) ≡ map event_field_named (names_of l.fn.value))
