-- A clone of a clip is what it was.
use Rattle.std.proofs.Common.{arith, ◌≡◌}
use Rattle.mask_keys.specs.declared.plans.Clip.{Clip}
use Rattle.mask_keys.specs.contracts.plans.ClipClone.TheImpl as clip

pub clip_same : (a b : Clip) → clip.by_variants a b → b ≡ a
clip_same a b c = grind arith
