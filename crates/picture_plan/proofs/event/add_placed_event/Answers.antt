use Rattle.std.proofs.Common.{rules}
use Rattle.picture_plan.proofs.event.add_placed_event.Goals as goal

pub add_viewed_event-requires-clause-shows : goal.add_viewed_event-requires-clause-shows
add_viewed_event-requires-clause-shows c = rw (← c.setting.view_is) (search rules)
