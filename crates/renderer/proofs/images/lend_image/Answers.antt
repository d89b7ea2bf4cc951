use Rattle.std.proofs.Common.{List, [], ◌∷◌, ap, subst, sym}
use Rattle.std.specs.Arc.{arc_value}
use Rattle.renderer.specs.ShownFrames.{MaskLease, leases_of_clip, leases_of_image}
use Rattle.mask_keys.specs.PlanKeys.{clip_keys, draw_keys}
use Rattle.renderer.specs.Leasing.{IsLent}
use Rattle.renderer.proofs.GivenLeases.{gives-one, lease-held}
use Rattle.renderer.proofs.Leasing.{lent-held, lent-then, unlent-then}
use Rattle.renderer.proofs.Lending.{image-lent}
use Rattle.std.proofs.lemmas.List.Elements.{All-head}
use Rattle.cache_kinds.specs.Kinds.{composite_meaning}
use Rattle.mask_caches.specs.Leases.{IsHomeLease}
use Rattle.renderer.proofs.images.lend_image.Goals as goal

pub give_back-requires-clause-own : goal.give_back-requires-clause-own
give_back-requires-clause-own g c =
    let e = rw c.in-Ok.is at c.lend_mask-pass.ensures in
    All-head (IsHomeLease composite_meaning c.args.caches.now.composites) c.in-Ok.lease [] e.lent.homes

pub give_back-requires-clause-held : goal.give_back-requires-clause-held
give_back-requires-clause-held g c =
    let caches = c.args.caches.now in let draw = c.args.draw.now in let lease = c.in-Ok.lease in
    let e = rw c.in-Ok.is at c.lend_mask-pass.ensures in
    let f = rw c.in-Err-clip.is at c.lend_clip-pass.ensures in
    lease-held caches c.lend_clip-pass.result.0 lease (lent-held caches c.args.pass c.lend_mask-pass.result.0 c.lend_clip-pass.result.0 (draw.key ∷ []) (clip_keys draw.clip) (lease ∷ []) e.lent f.refused)

pub returns-in-Ok-clip-clause-lent : goal.returns-in-Ok-clip-clause-lent
returns-in-Ok-clip-clause-lent g c =
    let caches = c.args.caches.now in let draw = c.args.draw.now in let lease = c.in-Ok.lease in
    let e = rw c.in-Ok.is at c.lend_mask-pass.ensures in
    let f = rw c.in-Ok-clip.is at c.lend_clip-pass.ensures in
    subst (λ (l : List MaskLease). IsLent caches c.args.pass c.lend_clip-pass.result.0 (draw_keys draw) l) (sym (ap leases_of_image c.image.ensures))
    (lent-then caches c.args.pass c.lend_mask-pass.result.0 c.lend_clip-pass.result.0 (draw.key ∷ []) (clip_keys draw.clip) (lease ∷ []) (leases_of_clip c.in-Ok-clip.clip) e.lent f.lent)

pub returns-in-Ok-clip-clause-shown : goal.returns-in-Ok-clip-clause-shown
returns-in-Ok-clip-clause-shown g c =
    let e = rw c.in-Ok.is at c.lend_mask-pass.ensures in
    let f = rw c.in-Ok-clip.is at c.lend_clip-pass.ensures in
    image-lent (arc_value c.args.caches.now.fonts).fonts c.args.draw.now c.in-Ok.lease c.in-Ok-clip.clip c.image.result c.image.ensures e.value f.shown

pub returns-in-Err-clip-clause-refused : goal.returns-in-Err-clip-clause-refused
returns-in-Err-clip-clause-refused g c =
    let caches = c.args.caches.now in let draw = c.args.draw.now in let lease = c.in-Ok.lease in
    let e = rw c.in-Ok.is at c.lend_mask-pass.ensures in
    let f = rw c.in-Err-clip.is at c.lend_clip-pass.ensures in
    let back = c.give_back.ensures in
    unlent-then caches c.args.pass c.lend_mask-pass.result.0 c.lend_clip-pass.result.0 c.give_back.result (draw.key ∷ []) (clip_keys draw.clip) (lease ∷ []) e.lent f.refused back.pass
    (gives-one caches c.lend_clip-pass.result.0 c.give_back.result lease back.composites back.masks back.regions)
