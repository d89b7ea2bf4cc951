use Rattle.std.proofs.Common.{◌<◌, List, length, arith, rules, subst}
use Rattle.std.specs.Arc.{arc_value}
use Rattle.mask_keys.specs.declared.plans.Draw.{Draw}
use Rattle.renderer.specs.ShownFrames.{leases_of}
use Rattle.mask_keys.specs.PlanKeys.{plan_keys}
use Rattle.renderer.specs.Leasing.{IsUnlent}
use Rattle.renderer.proofs.GivenLeases.{GivesLeases}
use Rattle.renderer.proofs.Leasing.{unlent-none}
use Rattle.renderer.proofs.Lending.{images-more, images-none, images-refused}
use Rattle.renderer.proofs.images.lend_images.Goals as goal

pub returns-then-is_err-clause-refused : goal.returns-then-is_err-clause-refused
returns-then-is_err-clause-refused g c = unlent-none c.args.caches.now c.args.pass (plan_keys c.args.draws.now) c.requires.pass

pub loop-draw-init : goal.loop-draw-init
loop-draw-init g c =
    let caches = c.args.caches.now in
    record {
      len = search rules;
      room = search rules;
      of = c.requires.pass;
      had = rw (c.reserve.ensures.items, c.new-images.ensures.items) (images-none caches (arc_value caches.fonts).fonts c.args.pass c.as_slice-draw-items.result.now c.requires.pass);
    }

pub release_images-requires-clause-own : goal.release_images-requires-clause-own
release_images-requires-clause-own g c = c.loop-draw.invariant.had.lent.homes

pub returns-in-Err-clause-refused : goal.returns-in-Err-clause-refused
returns-in-Err-clause-refused g c =
    let caches = c.args.caches.now in let draws = c.as_slice-draw-items.result.now in let i = c.loop-draw.draw-index in
    let q = c.loop-draw.pass in let r = c.lend_image-next.result.0 in let s = c.release_images.result in
    let there : i < length draws = search rules in
    let e = rw c.in-Err.is at c.lend_image-next.ensures in
    let back = c.release_images.ensures in
    let gives : GivesLeases caches r s (leases_of c.loop-draw.images.items) = record { composites = back.composites; fewer = back.holds.composites; masks = back.masks; regions = back.regions } in
    subst (λ (l : List Draw). IsUnlent caches c.args.pass s (plan_keys l)) c.as_slice-draw-items.ensures
    (images-refused caches (arc_value caches.fonts).fonts c.args.pass draws q r s i c.draw-item.result c.loop-draw.images.items there c.draw-item.is c.loop-draw.invariant.had e.refused back.pass gives)

pub loop-draw-preserved : goal.loop-draw-preserved
loop-draw-preserved g c =
    let caches = c.args.caches.now in let draws = c.as_slice-draw-items.result.now in let i = c.loop-draw.draw-index in
    let there : i < length draws = search rules in
    let e = rw c.in-Ok.is at c.lend_image-next.ensures in
    record {
      len = omega (arith, c.push_reserved.ensures.len, c.loop-draw.invariant.len);
      room = omega (arith, c.push_reserved.ensures.capacity, c.loop-draw.invariant.room);
      of = e.lent.of;
      had = images-more caches (arc_value caches.fonts).fonts c.args.pass draws c.loop-draw.pass c.lend_image-next.result.0 i c.draw-item.result c.loop-draw.images.items c.push_reserved.new.self.items c.in-Ok.image there c.draw-item.is
          c.push_reserved.ensures.items c.loop-draw.invariant.had e.lent e.shown;
    }
