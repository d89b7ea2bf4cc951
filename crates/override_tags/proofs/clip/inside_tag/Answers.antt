use Rattle.std.proofs.Common.{◌∷◌, ap, ◌∙◌}
use Rattle.std.specs.Option.{option_map}
use Rattle.tag_arguments.specs.Numbers.{comma_pieces}
use Rattle.tag_arguments.proofs.NumberLemmas.{pieces_cons}
use Rattle.override_tags.proofs.NumberShapes.{many_pieces}
use Rattle.override_tags.proofs.clip.inside_tag.Goals as goal

pub returns-in-Some-more : goal.returns-in-Some-more
returns-in-Some-more c =
    let first = rw c.in-Some.is at c.first_piece.ensures.pieces in
    let second = rw c.in-Some-more.is at c.first_piece-in-Some.ensures.pieces in
    let third = pieces_cons c.in-Some-more.field-0.now in
    let a = c.first_piece.result.0.now in
    let b = c.first_piece-in-Some.result.0.now in
    many_pieces c.args.inverse (comma_pieces c.args.inside.now) a b third.0 third.1 c.rectangle_tag.result (option_map (λ n. n.items) c.number_list.result)
    (first ∙ ap (λ z. a ∷ z) (second ∙ ap (λ z. b ∷ z) third.2)) c.number_list.ensures c.rectangle_tag.ensures
