use Rattle.std.proofs.Common.{◌∙◌}
use Rattle.std.proofs.lemmas.List.{take_all}
use Rattle.sample_region.proofs.CarryLemmas.{crossings_carried}
use Rattle.sample_region.proofs.sweep.cross.Goals as goal

pub returns : goal.returns
returns c = λ y all. rw (take_all c.loop-live.live-index c.args.active.now c.loop-live-test.false) at c.loop-live.invariant ∙ crossings_carried y c.args.active.now all
