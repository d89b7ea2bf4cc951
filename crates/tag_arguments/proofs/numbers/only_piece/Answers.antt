use Rattle.std.proofs.Common.{sym, ◌∙◌}
use Rattle.std.proofs.lemmas.Bool.{cond-true, cond-false}
use Rattle.tag_arguments.proofs.NumberLemmas.{counted_last}
use Rattle.tag_arguments.proofs.numbers.only_piece.Goals as goal

pub returns-then-is_empty-clause-pieces : goal.returns-then-is_empty-clause-pieces
returns-then-is_empty-clause-pieces c =
    counted_last c.args.drops_blank c.args.text.now c.requires ∙ cond-true _ _ _ c.if-drops_blank.true
    ∙ cond-true _ _ _ (sym (rw c.trimmed.ensures at (c.if-is_empty.ensures {u = tt})))

pub returns-then-drops_blank-clause-pieces : goal.returns-then-drops_blank-clause-pieces
returns-then-drops_blank-clause-pieces c =
    counted_last c.args.drops_blank c.args.text.now c.requires ∙ cond-true _ _ _ c.if-drops_blank.true
    ∙ cond-false _ _ _ (sym (rw c.trimmed.ensures at (c.if-is_empty.ensures {u = tt})))

pub returns-clause-pieces : goal.returns-clause-pieces
returns-clause-pieces c = counted_last c.args.drops_blank c.args.text.now c.requires ∙ cond-false _ _ _ c.if-drops_blank.false
