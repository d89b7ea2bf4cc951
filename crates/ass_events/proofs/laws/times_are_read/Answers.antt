use Rattle.ass_events.proofs.TimeLemmas.{time_from_shape, shape_from_time}
use Rattle.ass_events.proofs.laws.times_are_read.Goals as goal

pub returns : goal.returns
returns c = λ text t. (shape_from_time text t, time_from_shape text t)
