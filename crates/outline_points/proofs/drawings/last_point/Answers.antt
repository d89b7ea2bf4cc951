use Rattle.std.proofs.Common.{◌<◌, length, sym, arith}
use Rattle.std.proofs.lemmas.Grind.{common_steps}
use Rattle.outline_points.proofs.Walks.{last_is}
use Rattle.outline_points.proofs.drawings.last_point.Goals as goal

pub returns-clause-value : goal.returns-clause-value
returns-clause-value c =
    let some : 0 < length c.args.points.now = grind (arith, common_steps) in
    sym (last_is c.args.vertex _ c.args.points.now some)
