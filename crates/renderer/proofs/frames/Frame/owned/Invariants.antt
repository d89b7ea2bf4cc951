use Rattle.std.proofs.Common.{◌≡◌, min, take}
use Rattle.evict_core.specs.Machine.{last_count}
use Rattle.renderer.specs.Owning.{cost_of_owned}
use Rattle.renderer.specs.ShownFrames.{leases_of}
use Rattle.renderer.proofs.frames.Frame.owned.Given as goal

abbrev pub invariant-loop-image : goal.invariant-loop-image
invariant-loop-image l = l.owned ≡ min last_count (cost_of_owned (leases_of (take l.image-index l.self.images)))
