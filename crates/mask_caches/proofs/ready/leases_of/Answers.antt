use Rattle.std.proofs.Common.{◌≡◌, ◌∷◌, [], ◌++◌, length, map, reverse, sym, ap, ◌∙◌, subst, append-nil, arith}
use Rattle.std.proofs.lemmas.List.{length-append}
use Rattle.mask_caches.specs.declared.lease.Lease.TheVariants.{Pinned}
use Rattle.mask_caches.proofs.Pinned.{one-moved}
use Rattle.mask_caches.proofs.ready.leases_of.Goals as goal

pub loop-pin-init : goal.loop-pin-init
loop-pin-init g c = record {
  are = subst (λ l. map Pinned c.args.pins.items ++ reverse l ≡ map Pinned c.args.pins.items) (sym c.requires.empty) (append-nil (map Pinned c.args.pins.items));
  room = omega (arith, c.requires.len, c.requires.room);
}

pub push_reserved-requires : goal.push_reserved-requires
push_reserved-requires g c =
    let long = ap length c.in-Some.ensures.items ∙ length-append c.pop.new.self.items (c.in-Some.pin ∷ []) in
    omega (arith, long, c.loop-pin.invariant.room)

pub loop-pin-preserved : goal.loop-pin-preserved
loop-pin-preserved g c =
    let long = ap length c.in-Some.ensures.items ∙ length-append c.pop.new.self.items (c.in-Some.pin ∷ []) in
    record {
      are = one-moved Pinned c.args.pins.items c.pop.new.self.items c.loop-pin.pins.items c.in-Some.pin c.loop-pin.leases.items c.push_reserved.new.self.items c.in-Some.ensures.items c.push_reserved.ensures.items c.loop-pin.invariant.are;
      room = omega (arith, long, c.loop-pin.invariant.room, c.push_reserved.ensures.len, c.push_reserved.ensures.capacity);
    }
