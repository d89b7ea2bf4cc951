use Rattle.std.proofs.Common.{rules, to_z-of_z}
use Rattle.picture_plan.proofs.event.add_own_event.Goals as goal

pub add_laid_event-requires-clause-shows : goal.add_laid_event-requires-clause-shows
add_laid_event-requires-clause-shows c =
    rw (to_z-of_z c.ranges.t)
    (c.is_still.ensures.same c.if-is_still.true c.args.setting.now.script c.args.event.now c.args.event.now.start c.args.t c.args.own.now.view c.requires.items.reading c.requires.own.shows)

pub add_alike_event-requires-clause-shows : goal.add_alike_event-requires-clause-shows
add_alike_event-requires-clause-shows c = rw (← c.setting.view_is) (search rules)
