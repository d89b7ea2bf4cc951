use Rattle.std.proofs.Common.{rules, ◌∙◌, ◌≡◌, sym, ap, length, vec_len}
use Rattle.ass_num.proofs.PiecesLemmas.{length-pieces}
use Rattle.ass_num.proofs.flat_lists.FlatLists.len.Goals as goal

pub returns : goal.returns
returns g c =
    let l : vec_len c.self.inside.ends ≡ length c.self.inside.ends.items = search rules in
    c.len.ensures ∙ l ∙ sym (length-pieces 0 c.self.inside.ends.items c.self.inside.items.items) ∙ ap length c.self.view_is
