use Rattle.std.proofs.Common.{◌≡◌}
use Rattle.world_core.proofs.painting.blend_draw.Goals as goal

pub returns-in-Mask : goal.returns-in-Mask
returns-in-Mask c = λ mask is. let same : c.in-Mask.mask ≡ mask = cc (is, c.in-Mask.is) in rw (c.image.ensures, same) at c.draw.ensures

pub returns-in-Region : goal.returns-in-Region
returns-in-Region c = λ mask is. cc (is, c.in-Region.is)
