use Rattle.std.specs.Arc.{arc_value}
use Rattle.world_core.proofs.Looks.{look-lacking, look-shown}
use Rattle.world_core.proofs.Telling.{caches-of}
use Rattle.world_core.proofs.world.World.show_look.Goals as goal

pub pixels_of-requires-clause-shards : goal.pixels_of-requires-clause-shards
pixels_of-requires-clause-shards c = (caches-of c.args.self.now c.requires.told.0 c.requires.told.1).shards

pub returns-in-Some : goal.returns-in-Some
returns-in-Some c = λ s seen t k.
    let w = c.args.self.now in
    look-shown (arc_value w.script) w.fonts w.caches s.caches t.caches c.args.actor c.args.look.now seen k c.in-Some.pixels (caches-of w s t) c.proof_laws.ensures (rw c.in-Some.is at c.in_ok-shown.ensures.held) (rw c.in-Some.is at c.in_ok-shown.ensures.pixels)

pub returns-in-None : goal.returns-in-None
returns-in-None c = λ s seen t k.
    let w = c.args.self.now in look-lacking (arc_value w.script) w.fonts w.caches s.caches t.caches c.args.actor c.args.look.now seen k (rw c.in-None.is at c.in_ok-shown.ensures.none)
