use Rattle.std.proofs.Common.{◌≡◌, refl, to_z-of_z}
use Rattle.world_core.proofs.painting.blend_clipped.Goals as goal

pub returns-in-Mask : goal.returns-in-Mask
returns-in-Mask c = λ mask clip is over. let same : c.in-Mask.mask ≡ clip = cc (over, c.in-Mask.is) in rw (c.blend_draw.ensures mask is, same, to_z-of_z c.ranges.x, to_z-of_z c.ranges.y) refl

pub returns-in-Region : goal.returns-in-Region
returns-in-Region c = λ mask clip is over. cc (over, c.in-Region.is)
