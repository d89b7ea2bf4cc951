use Rattle.std.proofs.Common.{◌++◌, flat_map, refl, sym, ap, ◌∙◌, append_assoc}
use Rattle.track_write.specs.Pieces.{piece_text, next_field}
use Rattle.track_write.proofs.RowLemmas.{text_whole, row_is}
use Rattle.track_write.proofs.pieces.put_row.Goals as goal

pub returns : goal.returns
returns c =
    let old = c.args.text.now.items in
    let first = piece_text c.args.first.now in
    let rest = flat_map next_field c.args.rest.now in
    text_whole (flat_map next_field) next_field (λ x xs. refl) c.loop-piece.text.items c.put_piece.new.text.items c.args.rest.now c.loop-piece.piece-index refl c.loop-piece-test.false c.loop-piece.invariant
    ∙ ap (λ z. z ++ rest) c.in_ok-put_piece.ensures ∙ append_assoc old first rest ∙ ap (λ z. old ++ z) (sym (row_is first c.args.rest.now))
