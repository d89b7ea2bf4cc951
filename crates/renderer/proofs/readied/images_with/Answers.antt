use Rattle.std.proofs.Common.{◌<◌, ◌≤◌, ◌≡◌, length, map, ap, arith, rules, ◌∙◌}
use Rattle.std.proofs.lemmas.List.{reverse-reverse}
use Rattle.mask_caches.specs.Leases.{lease_value}
use Rattle.mask_keys.specs.PlanKeys.{plan_keys}
use Rattle.renderer.proofs.ReadyImages.{leases-same, nothing-left, ready-all, ready-left, ready-more, ready-none, ready-split}
use Rattle.renderer.proofs.readied.images_with.Goals as goal

pub loop-draw-init : goal.loop-draw-init
loop-draw-init c = record {
  len = c.requires.len;
  room = rw c.as_slice-draw-items.ensures c.requires.room;
  ready = rw c.requires.empty ready-none;
  split = rw (c.requires.empty, c.reverse.ensures.items) (reverse-reverse c.args.leases.items);
}

pub ready_image-requires : goal.ready_image-requires
ready_image-requires c =
    let draws = c.as_slice-draw-items.result.now in let i = c.loop-draw.draw-index in
    let there : i < length draws = search rules in
    let many : length c.args.leases.items ≡ length (plan_keys draws) = rw c.as_slice-draw-items.ensures c.requires.many in
    ready-left draws i c.draw-item.result there c.draw-item.is c.loop-draw.images.items c.loop-draw.leases.items c.args.leases.items c.loop-draw.invariant.ready c.loop-draw.invariant.split many

pub loop-draw-preserved : goal.loop-draw-preserved
loop-draw-preserved c =
    let draws = c.as_slice-draw-items.result.now in let i = c.loop-draw.draw-index in
    let there : i < length draws = search rules in
    let invariant = c.loop-draw.invariant in let e = c.ready_image.ensures in
    record {
      len = omega (arith, c.push_reserved.ensures.len, invariant.len);
      room = omega (arith, c.push_reserved.ensures.capacity, invariant.room);
      ready = ready-more draws i c.draw-item.result there c.draw-item.is c.loop-draw.images.items c.push_reserved.new.self.items c.ready_image.result c.push_reserved.ensures.items invariant.ready e.many e.shown;
      split = ready-split draws i c.draw-item.result there c.draw-item.is c.loop-draw.images.items c.push_reserved.new.self.items c.ready_image.result c.push_reserved.ensures.items c.loop-draw.leases.items c.ready_image.new.leases.items c.args.leases.items invariant.split e.leases;
    }

pub destroy_empty-requires : goal.destroy_empty-requires
destroy_empty-requires c =
    let draws = c.as_slice-draw-items.result.now in let i = c.loop-draw.draw-index in let invariant = c.loop-draw.invariant in
    let past : length draws ≤ i = search rules in
    let many : length c.args.leases.items ≡ length (plan_keys draws) = rw c.as_slice-draw-items.ensures c.requires.many in
    omega (arith, ap length (nothing-left draws i c.loop-draw.images.items c.loop-draw.leases.items c.args.leases.items past invariant.ready invariant.split many), c.loop-draw.leases.ok.0)

pub returns : goal.returns
returns c =
    let draws = c.as_slice-draw-items.result.now in let i = c.loop-draw.draw-index in let invariant = c.loop-draw.invariant in
    let images = c.loop-draw.images.items in let left = c.loop-draw.leases.items in let all = c.args.leases.items in
    let past : length draws ≤ i = search rules in
    let many : length all ≡ length (plan_keys draws) = rw c.as_slice-draw-items.ensures c.requires.many in
    let same = leases-same draws i images left all past invariant.ready invariant.split many in
    let ready = ready-all draws i images left all past invariant.ready invariant.split many in
    rw (c.from_vec.ensures, ← c.as_slice-draw-items.ensures) (record { leases = same; shown = λ fonts had. ready.shown fonts (ap (map lease_value) same ∙ had) })
