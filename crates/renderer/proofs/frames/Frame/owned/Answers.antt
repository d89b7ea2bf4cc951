use Rattle.std.proofs.Common.{◌≡◌, ◌<◌, length, min, rules, refl, ap, ◌∙◌, arith}
use Rattle.std.proofs.lemmas.List.{take_all}
use Rattle.evict_core.specs.Machine.{last_count}
use Rattle.renderer.specs.Owning.{cost_of_owned}
use Rattle.renderer.specs.ShownFrames.{leases_of}
use Rattle.renderer.proofs.Owned.{owned-more}
use Rattle.renderer.proofs.frames.Frame.owned.Goals as goal

pub loop-image-init : goal.loop-image-init
loop-image-init c = refl

pub loop-image-preserved : goal.loop-image-preserved
loop-image-preserved c =
    let there : c.loop-image.image-index < length c.args.self.now.images = search rules in
    let is = rw c.as_slice-image-items.ensures at c.image-item.is in
    let more = owned-more c.args.self.now.images c.loop-image.image-index c.image-item.result there is in
    omega (arith, c.saturating_add-owned.ensures, c.image_cost.ensures, c.loop-image.invariant, more)

pub returns : goal.returns
returns c =
    let whole : c.loop-image.image-index ≡ length c.args.self.now.images = search rules in
    c.loop-image.invariant ∙ ap (λ l. min last_count (cost_of_owned (leases_of l))) (take_all c.loop-image.image-index c.args.self.now.images (omega (arith, whole)))
