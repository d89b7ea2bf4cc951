use Rattle.std.proofs.Common.{List, ◌∷◌, ◌++◌, length, reverse, suc, sym, ap, ◌∙◌}
use Rattle.renderer.specs.ShownFrames.{FrameImage, MaskLease, image_shown, leases_of_image}
use Rattle.renderer.proofs.ReadyImages.{image-ready, turned-first}
use Rattle.renderer.proofs.readied.ready_image.Goals as goal

pub returns-clause-leases : goal.returns-clause-leases
returns-clause-leases c =
    let lease = c.next_lease-lease.result in
    turned-first c.args.leases.now.items c.next_lease-lease.new.leases.items lease c.next_lease-lease.ensures
    ∙ (ap (λ (l : List MaskLease). lease ∷ l) c.ready_clip-clip.ensures.leases
    ∙ ap (λ (l : List MaskLease). l ++ reverse c.ready_clip-clip.new.leases.items) (sym (ap leases_of_image c.image.ensures)))

pub returns-clause-many : goal.returns-clause-many
returns-clause-many c = ap (λ (image : FrameImage). length (leases_of_image image)) c.image.ensures ∙ ap suc c.ready_clip-clip.ensures.many

pub returns-clause-shown : goal.returns-clause-shown
returns-clause-shown c = λ fonts had.
    image-ready fonts c.args.draw.now c.next_lease-lease.result c.ready_clip-clip.result c.image.result
    (ap leases_of_image c.image.ensures) (ap image_shown c.image.ensures) (c.ready_clip-clip.ensures.shown fonts) had
