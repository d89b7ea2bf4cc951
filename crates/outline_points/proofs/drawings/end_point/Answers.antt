use Rattle.std.proofs.Common.{rules}
use Rattle.outline_points.proofs.Walks.{end_held}
use Rattle.outline_points.proofs.drawings.end_point.Goals as goal

pub returns-in-Spline-clause-value : goal.returns-in-Spline-clause-value
returns-in-Spline-clause-value c = search rules

pub returns-in-Spline-clause-within : goal.returns-in-Spline-clause-within
returns-in-Spline-clause-within c h k = rw (returns-in-Spline-clause-value c) (end_held c.args.vertex c.args.seg.now h k)
