use Rattle.std.proofs.Common.{arith}
use Rattle.std.proofs.lemmas.List.Sums.{sum_by-cons}
use Rattle.renderer.specs.Owning.{own_cost}
use Rattle.renderer.specs.ShownFrames.{leases_of_clip}
use Rattle.renderer.proofs.owning.image_cost.Goals as goal

pub returns : goal.returns
returns c = omega (arith, c.lease_cost.ensures.cost, c.clip_cost.ensures.cost, sum_by-cons own_cost c.args.image.now.mask (leases_of_clip c.args.image.now.stencil))
