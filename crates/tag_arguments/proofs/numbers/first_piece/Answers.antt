use Rattle.std.proofs.Common.{lit<}
use Rattle.tag_arguments.proofs.NumberLemmas.{pieces_first, pieces_none}
use Rattle.tag_arguments.proofs.numbers.first_piece.Goals as goal

pub returns-in-Some-clause-pieces : goal.returns-in-Some-clause-pieces
returns-in-Some-clause-pieces c =
    let parts = c.in-Some.ensures.byte (lit< tt) (λ w o h. h) in
    pieces_first c.args.text.now c.in-Some.piece.now c.in-Some.rest.now parts.0 parts.1 parts.2

pub returns-in-None-clause-pieces : goal.returns-in-None-clause-pieces
returns-in-None-clause-pieces c = pieces_none c.args.text.now (c.in-None.ensures.byte (lit< tt) (λ w o h. h))
