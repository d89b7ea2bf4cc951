use Rattle.std.proofs.Common.{◌∙◌, sym, ap, flat_map}
use Rattle.ass_num.proofs.PiecesLemmas.{joined-pieces}
use Rattle.ass_num.proofs.flat_lists.FlatLists.all_items.Goals as goal

pub returns : goal.returns
returns g c =
    c.as_slice.ensures.value ∙ sym (joined-pieces 0 c.self.inside.ends.items c.self.inside.items.items c.self.invariant) ∙ ap (flat_map (λ list. list)) c.self.view_is
