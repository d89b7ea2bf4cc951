use Rattle.std.proofs.Common.{◌∙◌, ◌<◌, ◌++◌, length, pos, ap, arith}
use Rattle.std.proofs.lemmas.Grind.{common_steps}
use Rattle.ass_num.specs.declared.geometry.Point.{Point}
use Rattle.cancelled_edges.proofs.LineLemmas.{ring_is}
use Rattle.cancelled_edges.proofs.edges.add_ring.Goals as goal

abbrev none : Point
none = record { x = pos 0; y = pos 0 }

pub returns : goal.returns
returns c =
    let some : 0 < length c.args.ring.now = grind (arith, common_steps) in
    c.in_ok-add_line.ensures ∙ ap (λ es. c.args.list.now.items ++ es) (ring_is c.args.ring.now none some)
