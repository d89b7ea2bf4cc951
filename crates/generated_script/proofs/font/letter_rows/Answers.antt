use Rattle.std.proofs.Common.{◌++◌, [], ◌∷◌, ◌∙◌, ap₂, sym, arith}
use Rattle.std.proofs.lemmas.List.FromFn.{map-range_with_len_more}
use Rattle.generated_script.specs.Grid.{row_byte}
use Rattle.generated_script.proofs.font.letter_rows.Goals as goal

pub loop-row-preserved : goal.loop-row-preserved
loop-row-preserved c =
    c.in_ok-push.ensures.ok ∙ ap₂ (λ rows x. rows ++ x ∷ []) c.loop-row.invariant c.row_byte.ensures
    ∙ sym (map-range_with_len_more (row_byte c.args.n) 0 c.loop-row.row c.loop-row.row (omega arith))
