use Rattle.std.proofs.Common.{◌*◌, arith}
use Rattle.std.proofs.lemmas.List.{take_rest}
use Rattle.frame_change.proofs.ColumnLemmas.{right_is}
use Rattle.frame_change.proofs.columns.right_of.Goals as goal

pub returns : goal.returns
returns c =
    let a = c.args.a.now in
    let b = c.args.b.now in
    let found = rw (take_rest a (3 * c.args.right), take_rest b (3 * c.args.right)) at c.last_change.ensures in
    right_is a b c.args.right c.last_change.result c.div_ceil.result c.requires.within c.requires.same (omega (arith, c.div_ceil.ensures)) (omega (arith, c.div_ceil.ensures)) found.within found.same found.differs
