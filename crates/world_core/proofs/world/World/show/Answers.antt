use Rattle.std.proofs.Common.{sym}
use Rattle.std.specs.Arc.{arc_value}
use Rattle.std.specs.BTreeMap.{get}
use Rattle.std.specs.Ordering.{nat_cmp}
use Rattle.world_core.proofs.Looks.{last-frame, shows-look, shows-none}
use Rattle.world_core.proofs.world.World.show.Goals as goal

pub show_look-requires-clause-size : goal.show_look-requires-clause-size
show_look-requires-clause-size c =
    let w = c.args.self.now in last-frame (arc_value w.script) (arc_value w.fonts).fonts (get nat_cmp w.looks c.args.actor) (c.requires.0.looks c.args.actor) c.in-Some.look.now (sym c.in-Some.ensures.value) (c.requires.1.looks c.args.actor)

pub returns-in-Some : goal.returns-in-Some
returns-in-Some c = λ s t.
    let w = c.args.self.now in
    shows-look (arc_value w.script) (arc_value w.fonts).fonts s.caches c.args.actor (get nat_cmp w.looks c.args.actor) (s.looks c.args.actor) c.in-Some.look.now c.show_look.result (sym c.in-Some.ensures.value) (t.looks c.args.actor)
    (λ seen k. c.show_look.ensures s seen t k)

pub returns-in-None : goal.returns-in-None
returns-in-None c = λ s t.
    let w = c.args.self.now in
    shows-none (arc_value w.script) (arc_value w.fonts).fonts s.caches c.args.actor (get nat_cmp w.looks c.args.actor) (s.looks c.args.actor) (sym c.in-None.ensures.value) (t.looks c.args.actor)
