use Rattle.std.proofs.Common.{◌<◌, length, sym, ap, ◌∙◌, true, false, arith}
use Rattle.flight_cache.proofs.Places.{places-more}
use Rattle.flight_cache.proofs.holds.places.Goals as goal
use Rattle.flight_cache.proofs.holds.places.Goals.{then-eq, else-eq}

pub loop-i-preserved : goal.loop-i-preserved
loop-i-preserved g c =
    let lt : c.loop-i.i < length c.args.keys.now.items = omega (arith, c.loop-i-test.true, c.requires) in
    let few = c.loop-i.invariant.1 in
    elim c.if-eq.branch [
      | then-eq w ↦ (places-more g.K.PartialEq.eq c.args.key.now c.args.keys.now.items c.loop-i.i c.index.result.now lt c.loop-i.places c.if-eq.places c.loop-i.invariant.0 true (sym w.if-eq.true ∙ (c.eq.ensures ∙ ap (g.K.PartialEq.eq c.args.key.now) c.index.ensures)) (omega (arith, w.places-is)), omega (arith, w.places-is, few))
      | else-eq w ↦ (places-more g.K.PartialEq.eq c.args.key.now c.args.keys.now.items c.loop-i.i c.index.result.now lt c.loop-i.places c.if-eq.places c.loop-i.invariant.0 false (sym w.if-eq.false ∙ (c.eq.ensures ∙ ap (g.K.PartialEq.eq c.args.key.now) c.index.ensures)) (omega (arith, w.places-is)), omega (arith, w.places-is, few))
    ]
