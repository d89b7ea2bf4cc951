use Rattle.std.proofs.Common.{◌≡◌, ◌∙◌, ◌<◌, length, sym, arith}
use Rattle.std.proofs.lemmas.Grind.{common_steps}
use Rattle.cancelled_edges.proofs.BalanceLemmas.{added_gone}
use Rattle.cancelled_edges.proofs.edges.add_or_cancel.Goals as goal

pub returns-then-is_opposite : goal.returns-then-is_opposite
returns-then-is_opposite c =
    let count : c.len-count.result ≡ length c.args.kept.now.items = grind (arith, common_steps) in
    let some : 0 < length c.args.kept.now.items = grind (arith, common_steps) in
    added_gone c.args.kept.now.items c.truncate.new.self.items c.args.e c.index.result.now some (rw count at c.index.ensures)
    (sym c.is_opposite.ensures ∙ c.if-is_opposite.true) (rw count at c.truncate.ensures.items)
