use Rattle.std.proofs.Common.{to_z-of_z}
use Rattle.picture_plan.proofs.pictures.plan_of_spans.Goals as goal

pub placed_events-requires-clause-near : goal.placed_events-requires-clause-near
placed_events-requires-clause-near c = (c.args.t, c.requires.near)

pub placed_draws-requires-clause-placed : goal.placed_draws-requires-clause-placed
placed_draws-requires-clause-placed c = rw (c.as_slice.ensures.value, to_z-of_z c.ranges.t) (c.in_ok-placed.ensures c.args.t c.requires.near)
