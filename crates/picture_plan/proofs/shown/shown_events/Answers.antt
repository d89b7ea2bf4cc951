use Rattle.std.proofs.Common.{length, map, to_z-of_z}
use Rattle.std.specs.Arc.{arc_value}
use Rattle.picture_plan.proofs.ShownLemmas.{shown_reordered}
use Rattle.picture_plan.proofs.shown.shown_events.Goals as goal

pub returns-clause-shown : goal.returns-clause-shown
returns-clause-shown c =
    shown_reordered (map arc_value c.args.events.now) c.args.placed.now c.args.t (length c.args.placed.now) c.in_ok-shown.shown.items c.sort_by_layer.new.shown.items
    (rw (to_z-of_z c.ranges.t) at c.in_ok-shown.ensures) c.sort_by_layer.ensures.permutation
