use Rattle.std.proofs.Common.{◌∷◌, [], ap, ◌∙◌}
use Rattle.tag_arguments.proofs.NumberLemmas.{counted_more}
use Rattle.tag_arguments.proofs.numbers.next_piece.Goals as goal

pub returns-in-Some-clause-pieces : goal.returns-in-Some-clause-pieces
returns-in-Some-clause-pieces c =
    counted_more c.args.drops_blank c.args.text.now c.first_piece.result.0.now c.in-Some.rest.now (rw c.in-Some.is at c.first_piece.ensures.pieces)

pub only_piece-requires : goal.only_piece-requires
only_piece-requires c =
    let pieces = rw c.in-None.is at c.first_piece.ensures.pieces in
    pieces ∙ ap (λ z. z ∷ []) (rw c.in-None.is at c.first_piece.ensures.whole)
